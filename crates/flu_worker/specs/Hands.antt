-- The shape of what a worker has in its hand, and how the steps change it.
use Rattle.std.specs.Prelude.{ℕ, Bool, true, false, not, ◌&&◌, Option, Some, None, if◌then◌else◌}
use Rattle.flu_worker.specs.declared.hand.Hand.{Hand}
use Rattle.flu_worker.specs.declared.hand.Hand.TheVariants.{Empty, Whole, Lending, Down, Taking}
use Rattle.flu_worker.specs.declared.hand.Side.{Side}
use Rattle.flu_worker.specs.declared.hand.Side.TheVariants.{Left, Right}

abbrev pub at_side : {A : Type 0} → Side → A → A → A
at_side Left x y = x
at_side Right x y = y

-- the lot is here, or parts of it are out
abbrev pub is_open : Hand → Bool
is_open Empty = false
is_open Whole = true
is_open (Lending l r) = true
is_open Down = true
is_open (Taking l r) = true

abbrev pub is_whole : Hand → Bool
is_whole Empty = false
is_whole Whole = true
is_whole (Lending l r) = false
is_whole Down = false
is_whole (Taking l r) = false

abbrev pub is_down : Hand → Bool
is_down Empty = false
is_down Whole = false
is_down (Lending l r) = false
is_down Down = true
is_down (Taking l r) = false

-- memory ran out, and the lot is lost
abbrev pub is_lost : Hand → Bool
is_lost Empty = false
is_lost Whole = false
is_lost (Lending l r) = false
is_lost Down = false
is_lost (Taking l r) = l && r

-- the part for this side is to be lent
abbrev pub may_lend : Side → Hand → Bool
may_lend s Empty = false
may_lend s Whole = false
may_lend s (Lending l r) = at_side s l r
may_lend s Down = false
may_lend s (Taking l r) = false

-- the part of this side is to be taken
abbrev pub may_take : Side → Hand → Bool
may_take s Empty = false
may_take s Whole = false
may_take s (Lending l r) = false
may_take s Down = true
may_take s (Taking l r) = not (at_side s l r)

-- the part of this side was lent and is not back
abbrev pub is_out : Side → Hand → Bool
is_out s Empty = false
is_out s Whole = false
is_out s (Lending l r) = not (at_side s l r)
is_out s Down = true
is_out s (Taking l r) = not (at_side s l r)

-- just after the lot becomes whole: an inner worker forks it
abbrev pub first_hand : Option (ℕ × ℕ) → Hand
first_hand None = Whole
first_hand (Some kids) = Lending true true

abbrev pub after_lend : Side → Hand → Hand
after_lend s Empty = Empty
after_lend s Whole = Whole
after_lend Left (Lending l r) = if r then Lending false true else Down
after_lend Right (Lending l r) = if l then Lending true false else Down
after_lend s Down = Down
after_lend s (Taking l r) = Taking l r

abbrev pub after_take : Side → Hand → Hand
after_take s Empty = Empty
after_take s Whole = Whole
after_take s (Lending l r) = Lending l r
after_take Left Down = Taking true false
after_take Right Down = Taking false true
after_take Left (Taking l r) = if r then Whole else Taking true false
after_take Right (Taking l r) = if l then Whole else Taking false true
