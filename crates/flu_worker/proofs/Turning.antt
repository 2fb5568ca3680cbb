-- What the steps do to the shape of a hand.
use Rattle.std.proofs.Common.{◌≡◌, zero, suc, true, false, Some, None, refl, arith}
use Rattle.flu_fork.specs.Lots.{kids}
use Rattle.flu_worker.specs.declared.hand.Hand.{Hand}
use Rattle.flu_worker.specs.declared.hand.Hand.TheVariants.{Empty, Whole, Lending, Down, Taking}
use Rattle.flu_worker.specs.declared.hand.Side.{Side}
use Rattle.flu_worker.specs.declared.hand.Side.TheVariants.{Left, Right}
use Rattle.flu_worker.specs.Hands.{may_lend, may_take}
use Rattle.flu_worker.specs.Turning.{TurnsAtLend, TurnsAtTake, LendTurns, TakeTurns, FirstIsHere, StartIsHere, StartIsShut}

lend_turns : (s : Side) (h : Hand) → may_lend s h ≡ true → TurnsAtLend s h
lend_turns s Empty e = cc
lend_turns s Whole e = cc
lend_turns Left (Lending true true) e = record { open_before = refl; open_after = refl; here = refl; out = refl; rest = refl }
lend_turns Left (Lending true false) e = record { open_before = refl; open_after = refl; here = refl; out = refl; rest = refl }
lend_turns Left (Lending false r) e = cc
lend_turns Right (Lending true true) e = record { open_before = refl; open_after = refl; here = refl; out = refl; rest = refl }
lend_turns Right (Lending false true) e = record { open_before = refl; open_after = refl; here = refl; out = refl; rest = refl }
lend_turns Right (Lending l false) e = cc
lend_turns s Down e = cc
lend_turns s (Taking l r) e = cc

pub lend_law : LendTurns
lend_law s h e = lend_turns s h e

take_turns : (s : Side) (h : Hand) → may_take s h ≡ true → TurnsAtTake s h
take_turns s Empty e = cc
take_turns s Whole e = cc
take_turns s (Lending l r) e = cc
take_turns Left Down e = record { open_before = refl; open_after = refl; out = refl; here = refl; rest = refl; rest_to_take = refl }
take_turns Right Down e = record { open_before = refl; open_after = refl; out = refl; here = refl; rest = refl; rest_to_take = refl }
take_turns Left (Taking true r) e = cc
take_turns Left (Taking false true) e = record { open_before = refl; open_after = refl; out = refl; here = refl; rest = refl; rest_to_take = refl }
take_turns Left (Taking false false) e = record { open_before = refl; open_after = refl; out = refl; here = refl; rest = refl; rest_to_take = refl }
take_turns Right (Taking l true) e = cc
take_turns Right (Taking true false) e = record { open_before = refl; open_after = refl; out = refl; here = refl; rest = refl; rest_to_take = refl }
take_turns Right (Taking false false) e = record { open_before = refl; open_after = refl; out = refl; here = refl; rest = refl; rest_to_take = refl }

pub take_law : TakeTurns
take_law s h e = take_turns s h e

pub first_law : FirstIsHere
first_law None s = refl
first_law (Some kids) Left = refl
first_law (Some kids) Right = refl

pub start_law : StartIsHere
start_law k zero s = first_law (kids k 0) s
start_law k (suc w) s = refl

pub shut_law : StartIsShut
shut_law k zero some = absurd (omega arith)
shut_law k (suc w) some = refl
