use Rattle.std.proofs.Common.{ap}
use Rattle.std.specs.Prelude.{◌==◌}
use Rattle.std.proofs.lemmas.Nat.Bits.{bit_at-zero}
use Rattle.flu_dense.specs.Masks.{has}
use Rattle.flu_dense.proofs.mask.Mask.none.Goals as goal

pub returns : goal.returns
unfolding has
returns c k = ap (λ b. b == 1) (bit_at-zero k)
