-- THE RULE of a worker: what holds for it between its calls, by what it has in its hand.
--
-- Empty: the lot is with the worker above. What the worker counted for its own itags is what it gave.
-- Whole: the lot fits the node. A leaf keeps no target. An inner worker's lot was joined for a target, and is served for it.
-- Lending: the lot was forked, and a part of it is still here. It fits the child that it is for.
-- Down: both parts are lent, and they come from one fork. A target may be kept: the event for which the parts are asked back.
-- Taking: one part is back. It fits its child, and is served for the target; the other part is out.
--
-- In each hand the counts of the lot, or of the fork, agree with what the worker counted, held and took, so that the next loan to each child continues from
-- what this child gave last.
use Rattle.std.specs.Prelude.{◌≡◌, ℕ, ◌<◌, true, Some, None, List, length, slice_index, IsSome}
use Rattle.flu_model.specs.Listed.{listed}
use Rattle.flu_laws.specs.Spans.{AreAtMost}
use Rattle.flu_fork.specs.declared.content.Content.{Content}
use Rattle.flu_fork.specs.declared.lots.Ask.{Ask}
use Rattle.flu_fork.specs.declared.lots.Lot.{Lot}
use Rattle.flu_fork.specs.Lots.{job, nodes, kids, LotFits}
use Rattle.flu_fork.specs.Serving.{LotCounts, GrownFrom, Served, counts_of}
use Rattle.flu_mail.specs.declared.mailbox.Mailbox.{Mailbox}
use Rattle.flu_mail.specs.Mailboxes as mails
use Rattle.flu_mail.specs.Mailboxes.{IsAt, IsOver}
use Rattle.flu_worker.specs.declared.holding.Holding.{Holding}
use Rattle.flu_worker.specs.declared.holding.Holding.TheVariants.{Empty as NoLot, Whole as WholeLot, LendingBoth, LendingLeft}
use Rattle.flu_worker.specs.declared.holding.Holding.TheVariants.{LendingRight, Down as BothOut, TakingLeft, TakingRight, Gone}
use Rattle.flu_worker.specs.Agreeing.{Agrees, Grows, IsTarget, IsForkedAt, left_loan, right_loan}
use Rattle.flu_worker.specs.Holding.{hand_of}
use Rattle.flu_worker.specs.Notes.{WorkerNote, own_of}

-- ---- Empty
pub record HoldsNone (n : WorkerNote) : Type 0 where
  pub kept : n.kept ≡ None
  pub mine : (i : ℕ) → own_of n i ≡ true → slice_index n.counts i ≡ slice_index n.given i
  pub most : AreAtMost n.counts n.given
  pub grows : Grows n.case n.node n.taken_left n.taken_right n.given

-- ---- Whole
pub record HoldsWhole (n : WorkerNote) (lot : Lot) : Type 0 where
  pub fits : LotFits n.case n.node lot
  pub since : lot.since ≡ n.held.since
  pub agrees : Agrees n.case n.node n.counts n.held.upto lot.upto
  pub grows : Grows n.case n.node n.taken_left n.taken_right lot.upto
  -- a leaf keeps no target, and an inner worker has one
  pub leaf : kids n.case n.node ≡ None → n.kept ≡ None
  pub inner : IsSome (kids n.case n.node) → IsSome n.kept
  pub target : (y : Ask) → n.kept ≡ Some y → IsTarget n.case n.node n.counts lot.upto y
  -- it could be asked for, by the counts of the parts lent last
  pub lent : (y : Ask) → n.kept ≡ Some y → (y.index ≡ slice_index n.lent_left.upto y.itag.0) × (y.index ≡ slice_index n.lent_right.upto y.itag.0)
  -- the lot is served for it
  pub served : (y : Ask) → n.kept ≡ Some y → Served n.case n.node n.held y lot

-- ---- Lending

-- a part that is to be lent to the child v: it fits, it has the counts of the loan, and these continue from what was taken last
pub record IsPart (k : Content) (v : ℕ) (loan : LotCounts) (taken : List ℕ) (lot : Lot) : Type 0 where
  pub fits : LotFits k v lot
  pub loaned : counts_of lot ≡ loan
  pub grown : GrownFrom k v taken loan.upto

abbrev pub IsLeftPart : WorkerNote → List ℕ → Lot → Type 0
IsLeftPart n upto lot = (l r : ℕ) → kids n.case n.node ≡ Some (l, r) → IsPart n.case l (left_loan n.held upto) n.taken_left lot

abbrev pub IsRightPart : WorkerNote → List ℕ → Lot → Type 0
IsRightPart n upto lot = (l r : ℕ) → kids n.case n.node ≡ Some (l, r) → IsPart n.case r (right_loan upto) n.taken_right lot

pub record LendsBoth (n : WorkerNote) (a b : Lot) : Type 0 where
  pub kept : n.kept ≡ None
  pub forked : IsForkedAt n.case n.node n.counts n.held a.upto
  pub left : IsLeftPart n a.upto a
  pub right : IsRightPart n a.upto b

pub record LendsLeft (n : WorkerNote) (a : Lot) : Type 0 where
  pub kept : n.kept ≡ None
  pub forked : IsForkedAt n.case n.node n.counts n.held a.upto
  pub left : IsLeftPart n a.upto a
  pub right : n.lent_right ≡ right_loan a.upto

pub record LendsRight (n : WorkerNote) (b : Lot) : Type 0 where
  pub kept : n.kept ≡ None
  pub forked : IsForkedAt n.case n.node n.counts n.held b.upto
  pub left : n.lent_left ≡ left_loan n.held b.upto
  pub right : IsRightPart n b.upto b

-- ---- Down
pub record IsDown (n : WorkerNote) : Type 0 where
  pub forked : IsForkedAt n.case n.node n.counts n.held n.lent_left.upto
  pub left : n.lent_left ≡ left_loan n.held n.lent_left.upto
  pub right : n.lent_right ≡ right_loan n.lent_left.upto
  pub target : (y : Ask) → n.kept ≡ Some y → IsTarget n.case n.node n.counts n.lent_left.upto y

-- ---- Taking
pub record TakesLeft (n : WorkerNote) (left : Lot) : Type 0 where
  pub down : IsDown n
  pub kept : IsSome n.kept
  pub fits : (l r : ℕ) → kids n.case n.node ≡ Some (l, r) → LotFits n.case l left
  pub taken : n.taken_left ≡ left.upto
  pub served : (y : Ask) (l r : ℕ) → n.kept ≡ Some y → kids n.case n.node ≡ Some (l, r) → Served n.case l n.lent_left y left

pub record TakesRight (n : WorkerNote) (right : Lot) : Type 0 where
  pub down : IsDown n
  pub kept : IsSome n.kept
  pub fits : (l r : ℕ) → kids n.case n.node ≡ Some (l, r) → LotFits n.case r right
  pub taken : n.taken_right ≡ right.upto
  pub served : (y : Ask) (l r : ℕ) → n.kept ≡ Some y → kids n.case n.node ≡ Some (l, r) → Served n.case r n.lent_right y right

-- ---- each hand. If memory ran out, the rule says only that the worker keeps no target: it must be discarded
abbrev pub Holds : WorkerNote → Holding → Type 0
Holds n NoLot = HoldsNone n
Holds n (WholeLot lot) = HoldsWhole n lot
Holds n (LendingBoth left right) = LendsBoth n left right
Holds n (LendingLeft left) = LendsLeft n left
Holds n (LendingRight right) = LendsRight n right
Holds n BothOut = IsDown n
Holds n (TakingLeft left) = TakesLeft n left
Holds n (TakingRight right) = TakesRight n right
Holds n Gone = n.kept ≡ None

-- ---- what it has seen and counted
pub record IsMailed (n : WorkerNote) (mail : Mailbox) : Type 0 where
  pub there : n.node < length (nodes n.case)
  pub node : mails.node_of mail ≡ n.node
  pub seen : mails.seen_of mail ≡ n.seen
  pub counts : mails.counts_of mail ≡ n.counts
  pub at_node : IsAt (job n.case) (nodes n.case) mail
  pub over : IsOver (listed n.case.streams) mail

-- THE RULE
pub record Rule (n : WorkerNote) (mail : Mailbox) (holding : Holding) : Type 0 where
  pub mailed : IsMailed n mail
  pub hand : n.hand ≡ hand_of holding
  pub here : n.holding ≡ holding
  pub holds : Holds n holding
