-- What a step at the edge to one child leaves unchanged for the edge to the other one.
use Rattle.std.specs.Prelude.{◌≡◌, ℕ, true, Some}
use Rattle.flu_fork.specs.declared.content.Content.{Content}
use Rattle.flu_fork.specs.declared.lots.Ask.{Ask}
use Rattle.flu_fork.specs.Lots.{kids}
use Rattle.flu_worker.specs.declared.hand.Side.{Side}
use Rattle.flu_worker.specs.Hands.{at_side, is_out, may_take}
use Rattle.flu_worker.specs.Notes.{WorkerNote, lent_to, taken_from}

-- v is a child of w
pub record IsKid (k : Content) (w v : ℕ) : Type 0 where
  pub side : Side
  pub left : ℕ
  pub right : ℕ
  pub are : kids k w ≡ Some (left, right)
  pub is : v ≡ at_side side left right

-- what the edge to the child at side s shows of the worker
pub record StaysAt (s : Side) (old new : WorkerNote) : Type 0 where
  pub lent : lent_to s new ≡ lent_to s old
  pub taken : taken_from s new ≡ taken_from s old
  pub out : is_out s new.hand ≡ is_out s old.hand
  pub take : may_take s old.hand ≡ true → may_take s new.hand ≡ true
  pub kept : (a : Ask) → old.kept ≡ Some a → new.kept ≡ Some a
