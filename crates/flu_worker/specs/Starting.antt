-- What a worker has at the start: the root has the opening lot, and the others have nothing.
use Rattle.std.specs.Prelude.{◌≡◌, ℕ, zero, suc}
use Rattle.flu_fork.specs.declared.content.Content.{Content}
use Rattle.flu_fork.specs.declared.lots.Lot.{Lot}
use Rattle.flu_fork.specs.Lots.{LotFits, CountsNothing}
use Rattle.flu_worker.specs.declared.holding.Holding.{Holding}
use Rattle.flu_worker.specs.declared.holding.Holding.TheVariants.{Empty}
use Rattle.flu_worker.specs.Holding.{IsHeldAs}

pub record HoldsOpening (k : Content) (h : Holding) : Type 0 where
  pub opening : Lot
  pub fits : LotFits k 0 opening
  pub nothing : CountsNothing k opening
  pub is : IsHeldAs k 0 opening h

abbrev pub IsFirst : Content → ℕ → Holding → Type 0
IsFirst k zero h = HoldsOpening k h
IsFirst k (suc w) h = h ≡ Empty
