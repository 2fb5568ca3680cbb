-- What the calls of a worker do.
use Rattle.std.specs.Prelude.{◌≡◌, ◌≢◌, ◌⊎◌, ℕ, zero, suc, ◌+◌, ◌≤◌, true, false, Option, Some, None}
use Rattle.std.specs.Prelude.{List, ◌∷◌, ◌++◌, length, slice_index, slice_index_or, [], IsSome}
use Rattle.flu_model.specs.declared.events.Out.{Out}
use Rattle.flu_model.specs.Listed.{listed}
use Rattle.flu_cells.specs.Holding.{held}
use Rattle.flu_cells.specs.declared.state.State.{State}
use Rattle.flu_laws.specs.Spans.{Moment, AreAtMost}
use Rattle.flu_fork.specs.declared.content.Content.{Content}
use Rattle.flu_fork.specs.declared.lots.Lot.{Lot}
use Rattle.flu_fork.specs.declared.lots.Ask.{Ask}
use Rattle.flu_fork.specs.Fitting.{Fits}
use Rattle.flu_fork.specs.Settings.{events_at, moments}
use Rattle.flu_fork.specs.Laws.{no_counts}
use Rattle.flu_fork.specs.Lots.{job, kids, setting_of, LotFits}
use Rattle.flu_fork.specs.Serving.{counts_of, none_counted, AsksAbove, GrownFrom}
use Rattle.flu_fork.specs.Texts.{outputs_then, IsComplete}
use Rattle.flu_worker.specs.declared.hand.Hand.{Hand}
use Rattle.flu_worker.specs.declared.hand.Hand.TheVariants.{Empty, Whole, Down}
use Rattle.flu_worker.specs.declared.hand.Side.{Side}
use Rattle.flu_worker.specs.Hands.{at_side, first_hand, after_lend, after_take}
use Rattle.flu_worker.specs.Notes.{WorkerNote, lent_to, taken_from, own_of, above_of, below_of}

-- ---- what stays the same
pub record IsSamePlace (old new : WorkerNote) : Type 0 where
  pub case : new.case ≡ old.case
  pub node : new.node ≡ old.node
  pub seen : new.seen ≡ old.seen

pub record IsSameBelow (old new : WorkerNote) : Type 0 where
  pub lent_left : new.lent_left ≡ old.lent_left
  pub lent_right : new.lent_right ≡ old.lent_right
  pub taken_left : new.taken_left ≡ old.taken_left
  pub taken_right : new.taken_right ≡ old.taken_right

-- ---- new: a worker that has seen, counted, held and given nothing; the root has the opening lot
abbrev pub start_hand : Content → ℕ → Hand
start_hand k zero = first_hand (kids k 0)
start_hand k (suc w) = Empty

pub record IsNew (k : Content) (w : ℕ) (n : WorkerNote) : Type 0 where
  pub case : n.case ≡ k
  pub node : n.node ≡ w
  pub hand : n.hand ≡ start_hand k w
  pub kept : n.kept ≡ None
  pub seen : n.seen ≡ no_counts (job k)
  pub counts : n.counts ≡ no_counts (job k)
  pub held : n.held ≡ none_counted k
  pub given : n.given ≡ no_counts (job k)
  pub taken_left : n.taken_left ≡ no_counts (job k)
  pub taken_right : n.taken_right ≡ no_counts (job k)
  pub lent_left : n.lent_left ≡ none_counted k
  pub lent_right : n.lent_right ≡ none_counted k

-- the counts of a lot that a worker hands on are what the worker counted, for its own itags and for those above it
abbrev pub IsTied : WorkerNote → Lot → Type 0
IsTied n lot = (i : ℕ) → (own_of n i ≡ true) ⊎ (above_of n i ≡ true) → slice_index lot.upto i ≡ slice_index n.counts i

-- ---- hold: the events of the itags above the node are counted as in the lot, and all others as before
pub record HoldsLot (lot : Lot) (old new : WorkerNote) : Type 0 where
  pub place : IsSamePlace old new
  pub same : IsSameBelow old new
  pub hand : new.hand ≡ first_hand (kids old.case old.node)
  pub kept : new.kept ≡ None
  pub held : new.held ≡ counts_of lot
  pub given : new.given ≡ old.given
  pub counts_above : (i : ℕ) → above_of old i ≡ true → slice_index new.counts i ≡ slice_index lot.upto i
  pub counts_rest : (i : ℕ) → above_of old i ≡ false → slice_index new.counts i ≡ slice_index old.counts i
  pub counts_own : (i : ℕ) → own_of old i ≡ true → slice_index new.counts i ≡ slice_index old.counts i

-- ---- give
pub record GivesLot (lot : Lot) (old new : WorkerNote) : Type 0 where
  pub place : IsSamePlace old new
  pub same : IsSameBelow old new
  pub hand_was : old.hand ≡ Whole
  pub hand : new.hand ≡ Empty
  pub kept : new.kept ≡ None
  pub held : new.held ≡ old.held
  pub given : new.given ≡ lot.upto
  pub counts : new.counts ≡ old.counts
  pub tied : IsTied old lot

-- ---- handle
pub record HandlesEvent (x : Ask) (old new : WorkerNote) : Type 0 where
  pub place : IsSamePlace old new
  pub same : IsSameBelow old new
  pub hand_was : old.hand ≡ Whole
  pub hand : new.hand ≡ first_hand (kids old.case old.node)
  pub kept : new.kept ≡ None
  pub held : new.held ≡ old.held
  pub given : new.given ≡ old.given
  pub owned : own_of old x.itag.0 ≡ true

-- the event that x names is the next of its itag, it is counted, and its outputs in the fold are appended
pub record CountsEvent (k : Content) (x : Ask) (old new : List ℕ) (before after : List Out) : Type 0 where
  pub front : List Moment
  pub back : List Moment
  pub moment : Moment
  pub stands : moments (setting_of k) ≡ front ++ moment ∷ back
  pub itag : moment.event.itag ≡ x.itag
  pub index : moment.index ≡ x.index
  pub next : slice_index old x.itag.0 ≡ x.index
  pub counts : (j : ℕ) → (j ≡ x.itag.0 → slice_index new j ≡ x.index + 1) × (j ≢ x.itag.0 → slice_index new j ≡ slice_index old j)
  pub outputs : after ≡ before ++ outputs_then (job k) moment

-- ---- lend
pub record LendsPart (s : Side) (part : Lot) (old new : WorkerNote) : Type 0 where
  pub place : IsSamePlace old new
  pub hand : new.hand ≡ after_lend s old.hand
  pub kept : new.kept ≡ old.kept
  pub counts : new.counts ≡ old.counts
  pub held : new.held ≡ old.held
  pub given : new.given ≡ old.given
  pub lent_left : new.lent_left ≡ at_side s (counts_of part) old.lent_left
  pub lent_right : new.lent_right ≡ at_side s old.lent_right (counts_of part)
  pub taken_left : new.taken_left ≡ old.taken_left
  pub taken_right : new.taken_right ≡ old.taken_right
  pub tied : IsTied old part

-- what is lent to a child fits it, and its counts continue from those of the lot taken last from this child
pub record IsFitPart (s : Side) (part : Lot) (n : WorkerNote) : Type 0 where
  pub fits : (l r : ℕ) → kids n.case n.node ≡ Some (l, r) → LotFits n.case (at_side s l r) part
  pub grown : (l r : ℕ) → kids n.case n.node ≡ Some (l, r) → GrownFrom n.case (at_side s l r) (taken_from s n) part.upto

-- ---- take_reply
pub record TakesPart (s : Side) (part : Lot) (old new : WorkerNote) : Type 0 where
  pub place : IsSamePlace old new
  pub hand : new.hand ≡ after_take s old.hand
  pub kept : new.kept ≡ old.kept
  pub counts : new.counts ≡ old.counts
  pub held : new.held ≡ old.held
  pub given : new.given ≡ old.given
  pub lent_left : new.lent_left ≡ old.lent_left
  pub lent_right : new.lent_right ≡ old.lent_right
  pub taken_left : new.taken_left ≡ at_side s part.upto old.taken_left
  pub taken_right : new.taken_right ≡ at_side s old.taken_right part.upto

-- ---- ask_of: the target, if there is one, is kept; one that was kept before stays
pub record KeepsTarget (found : Option Ask) (old new : WorkerNote) : Type 0 where
  pub rest : new ≡ record old { kept = new.kept }
  pub some : (a : Ask) → found ≡ Some a → new.kept ≡ Some a
  pub same : (a : Ask) → old.kept ≡ Some a → new.kept ≡ Some a

-- for each child, the target names the next event of an itag above that child, by the counts of the part lent to it last
abbrev pub IsAskable : WorkerNote → Ask → Type 0
IsAskable n a = (l r : ℕ) → kids n.case n.node ≡ Some (l, r) → (s : Side)
    → AsksAbove n.case (at_side s l r) a × (a.index ≡ slice_index (lent_to s n).upto a.itag.0)

-- ---- finished

-- all items of a set of itags are seen
abbrev pub SeesAll : WorkerNote → (ℕ → Type 0) → Type 0
SeesAll n set = (i : ℕ) → set i → slice_index n.seen i ≡ length (slice_index_or (listed n.case.streams) i [])

-- the lot is whole or both its parts are out, and for the node's own itags and those above it all items are seen and all events counted
pub record HasDoneAll (n : WorkerNote) : Type 0 where
  pub hand : (n.hand ≡ Whole) ⊎ (n.hand ≡ Down)
  pub seen_own : SeesAll n (λ i. own_of n i ≡ true)
  pub seen_above : SeesAll n (λ i. above_of n i ≡ true)
  pub own : IsComplete (setting_of n.case) (own_of n) n.counts
  pub above : IsComplete (setting_of n.case) (above_of n) n.counts

-- the parts that were lent last come from one fork of the lot with these counts
pub record IsForked (n : WorkerNote) : Type 0 where
  pub left_since : n.lent_left.since ≡ n.held.since
  pub right_since : n.lent_right.since ≡ n.lent_left.upto
  pub right_upto : n.lent_right.upto ≡ n.lent_left.upto
  pub first : AreAtMost n.held.since n.lent_left.upto
  pub there : (i : ℕ) → slice_index n.lent_left.upto i ≤ length (events_at (setting_of n.case) i)
  pub own : (i : ℕ) → own_of n i ≡ true → slice_index n.lent_left.upto i ≡ slice_index n.counts i
  pub outside : (i : ℕ) → below_of n i ≡ false → slice_index n.lent_left.upto i ≡ slice_index n.held.upto i

-- the worker has no event left, its own or an ancestor's: a leaf has its lot, and the parts of an inner worker's lot are out
pub record IsFinished (n : WorkerNote) : Type 0 where
  pub own : IsComplete (setting_of n.case) (own_of n) n.counts
  pub above : IsComplete (setting_of n.case) (above_of n) n.held.upto
  pub kept : n.kept ≡ None
  pub hand : (n.hand ≡ Whole) ⊎ (n.hand ≡ Down)
  pub leaf : n.hand ≡ Whole → kids n.case n.node ≡ None
  pub inner : n.hand ≡ Down → IsSome (kids n.case n.node)
  pub forked : n.hand ≡ Down → IsForked n

-- ---- held, into_lot: the lot of a whole hand

-- counts with which a state fits the node: it has the effects of the events since the lot held last, of the node's own events it has those that are counted,
-- and no event from outside the subtree was added since
pub record AreWholeCounts (n : WorkerNote) (s : State) (upto : List ℕ) : Type 0 where
  pub fits : Fits (setting_of n.case) n.node (held s) n.held.since upto
  pub own : (i : ℕ) → own_of n i ≡ true → slice_index upto i ≡ slice_index n.counts i
  pub outside : (i : ℕ) → below_of n i ≡ false → slice_index upto i ≡ slice_index n.held.upto i

pub record IsWholeState (n : WorkerNote) (s : State) : Type 0 where
  pub upto : List ℕ
  pub counts : AreWholeCounts n s upto

pub record IsWholeLot (n : WorkerNote) (lot : Lot) : Type 0 where
  pub fits : LotFits n.case n.node lot
  pub since : lot.since ≡ n.held.since
  pub own : (i : ℕ) → own_of n i ≡ true → slice_index lot.upto i ≡ slice_index n.counts i
  pub outside : (i : ℕ) → below_of n i ≡ false → slice_index lot.upto i ≡ slice_index n.held.upto i
