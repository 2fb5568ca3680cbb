use Rattle.flu_dense.proofs.PartLemmas.{parts_copied}
use Rattle.flu_dense.proofs.sparse.Sparse.copy.Goals as goal

pub returns : goal.returns
returns g c = parts_copied c.args.self.now.parts c.in_ok-clone.field-0 c.in_ok-clone.ensures.cases
