-- HANDS: what the steps do to the shape of a hand. A step at one side leaves the other side as it was.
use Rattle.std.specs.Prelude.{◌≡◌, ℕ, ◌<◌, true, false, Option}
use Rattle.flu_fork.specs.declared.content.Content.{Content}
use Rattle.flu_worker.specs.declared.hand.Hand.{Hand}
use Rattle.flu_worker.specs.declared.hand.Side.{Side}
use Rattle.flu_worker.specs.declared.hand.Side.TheVariants.{Left, Right}
use Rattle.flu_worker.specs.Hands.{is_open, is_out, may_lend, may_take, first_hand, after_lend, after_take}
use Rattle.flu_worker.specs.Calls.{start_hand}

abbrev pub other : Side → Side
other Left = Right
other Right = Left

-- a part that may be lent is here, and then it is out
pub record TurnsAtLend (s : Side) (h : Hand) : Type 0 where
  pub open_before : is_open h ≡ true
  pub open_after : is_open (after_lend s h) ≡ true
  pub here : is_out s h ≡ false
  pub out : is_out s (after_lend s h) ≡ true
  pub rest : is_out (other s) (after_lend s h) ≡ is_out (other s) h

abbrev pub LendTurns : Type 0
LendTurns = (s : Side) (h : Hand) → may_lend s h ≡ true → TurnsAtLend s h

-- a part that may be taken is out, and then it is here
pub record TurnsAtTake (s : Side) (h : Hand) : Type 0 where
  pub open_before : is_open h ≡ true
  pub open_after : is_open (after_take s h) ≡ true
  pub out : is_out s h ≡ true
  pub here : is_out s (after_take s h) ≡ false
  pub rest : is_out (other s) (after_take s h) ≡ is_out (other s) h
  pub rest_to_take : may_take (other s) (after_take s h) ≡ may_take (other s) h

abbrev pub TakeTurns : Type 0
TakeTurns = (s : Side) (h : Hand) → may_take s h ≡ true → TurnsAtTake s h

-- just after a lot becomes whole, and at the start, no part is out
abbrev pub FirstIsHere : Type 0
FirstIsHere = (kids : Option (ℕ × ℕ)) (s : Side) → is_out s (first_hand kids) ≡ false

abbrev pub StartIsHere : Type 0
StartIsHere = (k : Content) (w : ℕ) (s : Side) → is_out s (start_hand k w) ≡ false

-- and only the root has a lot at the start
abbrev pub StartIsShut : Type 0
StartIsShut = (k : Content) (w : ℕ) → 0 < w → is_open (start_hand k w) ≡ false
