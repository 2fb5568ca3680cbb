-- What the steps at one end of a worker leave unchanged for its other ends.
use Rattle.std.specs.Prelude.{◌≡◌, ◌⊎◌, true, false, Some}
use Rattle.flu_fork.specs.declared.lots.Ask.{Ask}
use Rattle.flu_worker.specs.declared.hand.Side.{Side}
use Rattle.flu_worker.specs.Hands.{is_open, is_out, may_take}
use Rattle.flu_worker.specs.Notes.{WorkerNote, lent_to, taken_from}
use Rattle.flu_worker.specs.Calls.{IsSamePlace, IsSameBelow}
use Rattle.flu_worker.specs.Turning.{other}
use Rattle.flu_link.specs.Notes.{UpperNote}

-- a step at the end above: the worker is the same, or both parts are here before and after
pub record StaysHome (old new : WorkerNote) : Type 0 where
  pub place : IsSamePlace old new
  pub same : IsSameBelow old new
  pub home : ((new.hand ≡ old.hand) × (new.kept ≡ old.kept)) ⊎ ((s : Side) → (is_out s old.hand ≡ false) × (is_out s new.hand ≡ false))

-- a step at the end below of a side
pub record StaysThere (s : Side) (old new : WorkerNote) : Type 0 where
  pub place : IsSamePlace old new
  pub held : new.held ≡ old.held
  pub given : new.given ≡ old.given
  pub counts : new.counts ≡ old.counts
  pub opens : (new.hand ≡ old.hand) ⊎ ((is_open old.hand ≡ true) × (is_open new.hand ≡ true))
  pub lent : lent_to (other s) new ≡ lent_to (other s) old
  pub taken : taken_from (other s) new ≡ taken_from (other s) old
  pub out : is_out (other s) new.hand ≡ is_out (other s) old.hand
  pub take : may_take (other s) old.hand ≡ true → may_take (other s) new.hand ≡ true
  pub kept : (a : Ask) → old.kept ≡ Some a → new.kept ≡ Some a

-- what steps at the ends below leave unchanged for the end above
pub record StaysUnder (old new : WorkerNote) : Type 0 where
  pub place : IsSamePlace old new
  pub held : new.held ≡ old.held
  pub given : new.given ≡ old.given
  pub counts : new.counts ≡ old.counts
  pub opens : (new.hand ≡ old.hand) ⊎ ((is_open old.hand ≡ true) × (is_open new.hand ≡ true))

-- the upper end of the same link
pub record IsSameUpper (old new : UpperNote) : Type 0 where
  pub link : new.link ≡ old.link
  pub lower : new.lower ≡ old.lower
