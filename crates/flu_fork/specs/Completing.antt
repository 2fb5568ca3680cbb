-- BRINGS ALL: lots that come back at the end, when no event is left.
use Rattle.std.specs.Prelude.{◌≡◌, ℕ, ◌≤◌, true, false, Some, None, length, slice_index}
use Rattle.flu_laws.specs.Spans.{AreAtMost}
use Rattle.flu_fork.specs.declared.content.Content.{Content}
use Rattle.flu_fork.specs.declared.lots.Lot.{Lot}
use Rattle.flu_fork.specs.Classes.{own, below}
use Rattle.flu_fork.specs.Lots.{job, nodes, kids, setting_of, LotFits, LotsPaired, HasJoinedCounts}
use Rattle.flu_fork.specs.Serving.{LotCounts}
use Rattle.flu_fork.specs.Settings.{events_at}
use Rattle.flu_fork.specs.Texts.{IsComplete}

-- a lot that fits its node and begins where the lent one did, with all events of the node's subtree, and outside it those that were lent
pub record BringsAll (k : Content) (v : ℕ) (lent : LotCounts) (lot : Lot) : Type 0 where
  pub fits : LotFits k v lot
  pub since : lot.since ≡ lent.since
  pub inside : IsComplete (setting_of k) (below (job k) (nodes k) v) lot.upto
  pub outside : (i : ℕ) → below (job k) (nodes k) v i ≡ false → slice_index lot.upto i ≡ slice_index lent.upto i

-- the loans to both children are those of the last fork of a node's lot: all events of the node's own are counted in it, and outside its subtree those that
-- were lent
pub record IsLastFork (k : Content) (w : ℕ) (lent to_left to_right : LotCounts) : Type 0 where
  pub left_since : to_left.since ≡ lent.since
  pub right_since : to_right.since ≡ to_left.upto
  pub right_upto : to_right.upto ≡ to_left.upto
  pub first : AreAtMost lent.since to_left.upto
  pub there : (i : ℕ) → slice_index to_left.upto i ≤ length (events_at (setting_of k) i)
  pub own : IsComplete (setting_of k) (own (job k) (nodes k) w) to_left.upto
  pub outside : (i : ℕ) → below (job k) (nodes k) w i ≡ false → slice_index to_left.upto i ≡ slice_index lent.upto i

-- what the lots of both children join to brings all, by the loan of their node; and the counts of the three are one another's
pub record JoinsAll (k : Content) (w l r : ℕ) (lent : LotCounts) (left right lot : Lot) : Type 0 where
  pub all : BringsAll k w lent lot
  pub own : IsComplete (setting_of k) (own (job k) (nodes k) w) lot.upto
  pub at_left : (i : ℕ) → below (job k) (nodes k) l i ≡ true → slice_index lot.upto i ≡ slice_index left.upto i
  pub at_right : (i : ℕ) → below (job k) (nodes k) r i ≡ true → slice_index lot.upto i ≡ slice_index right.upto i

-- ---- the laws

-- A LEAF BRINGS ALL once the events of its own are counted
abbrev pub LeavesBringAll : Type 0
LeavesBringAll =
    (k : Content) (w : ℕ) (lent : LotCounts) (lot : Lot) → kids k w ≡ None → LotFits k w lot → lot.since ≡ lent.since
    → IsComplete (setting_of k) (own (job k) (nodes k) w) lot.upto
    → ((i : ℕ) → below (job k) (nodes k) w i ≡ false → slice_index lot.upto i ≡ slice_index lent.upto i) → BringsAll k w lent lot

-- two lots that bring all from the last fork are paired
abbrev pub LastOnesArePaired : Type 0
LastOnesArePaired =
    (k : Content) (w l r : ℕ) (lent to_left to_right : LotCounts) (left right : Lot) → IsLastFork k w lent to_left to_right
    → BringsAll k l to_left left → BringsAll k r to_right right → LotsPaired k l r left right

-- THEIR JOIN BRINGS ALL
abbrev pub JoinsBringAll : Type 0
JoinsBringAll =
    (k : Content) (w l r : ℕ) (lent to_left to_right : LotCounts) (left right lot : Lot) → kids k w ≡ Some (l, r) → IsLastFork k w lent to_left to_right
    → BringsAll k l to_left left → BringsAll k r to_right right → LotFits k w lot → HasJoinedCounts k w left right lot
    → JoinsAll k w l r lent left right lot
