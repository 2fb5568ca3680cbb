use Rattle.flu_dense.specs.Masks.{has}
use Rattle.flu_dense.proofs.BitLemmas.{is_cleared}
use Rattle.flu_dense.proofs.mask.Mask.without.Goals as goal

pub returns : goal.returns
unfolding has
returns c j below = is_cleared c.args.self.bits c.args.k j c.requires below
