use Rattle.flu_dense.specs.Masks.{has}
use Rattle.flu_dense.proofs.BitLemmas.{is_set}
use Rattle.flu_dense.proofs.mask.Mask.with.Goals as goal

pub returns : goal.returns
unfolding has
returns c j = is_set c.args.self.bits c.args.k j c.requires
