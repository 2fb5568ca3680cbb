-- What the shape of a hand says of its parts.
use Rattle.std.proofs.Common.{◌≡◌, ◌⊎◌, ℕ, true, false, Option, Some, None, inl, inr, refl}
use Rattle.flu_worker.specs.declared.hand.Hand.{Hand}
use Rattle.flu_worker.specs.declared.hand.Hand.TheVariants.{Empty, Whole, Lending, Down, Taking}
use Rattle.flu_worker.specs.declared.hand.Side.{Side}
use Rattle.flu_worker.specs.declared.hand.Side.TheVariants.{Left, Right}
use Rattle.flu_worker.specs.Hands.{is_open, is_out, may_lend, may_take, first_hand}
use Rattle.flu_worker.specs.Turning.{other}

pub first_open : (o : Option (ℕ × ℕ)) → is_open (first_hand o) ≡ true
first_open None = refl
first_open (Some kids) = refl

-- a part that is still to be lent is not to be taken: what is out and not to be taken while lending
pub lending_takes_none : (s t : Side) (h : Hand) → may_lend s h ≡ true → may_take t h ≡ false
lending_takes_none s t Empty e = refl
lending_takes_none s t Whole e = refl
lending_takes_none s t (Lending l r) e = refl
lending_takes_none s t Down e = cc
lending_takes_none s t (Taking l r) e = cc

pub shut_home : (s : Side) (h : Hand) → is_open h ≡ false → is_out s h ≡ false
shut_home s Empty e = refl
shut_home s Whole e = cc
shut_home s (Lending l r) e = cc
shut_home s Down e = cc
shut_home s (Taking l r) e = cc

pub out_open : (s : Side) (h : Hand) → is_out s h ≡ true → is_open h ≡ true
out_open s Empty e = cc
out_open s Whole e = cc
out_open s (Lending l r) e = refl
out_open s Down e = refl
out_open s (Taking l r) e = refl

pub sides : (s t : Side) → (t ≡ s) ⊎ (t ≡ other s)
sides Left Left = inl refl
sides Left Right = inr refl
sides Right Left = inr refl
sides Right Right = inl refl
