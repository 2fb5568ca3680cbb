use Rattle.std.proofs.Common.{◌≡◌, ◌/◌, None, rules}
use Rattle.std.specs.Ordering.{nat_cmp}
use Rattle.std.specs.BTreeMap.{get}
use Rattle.flu_dense.proofs.PartLemmas.{without_table}
use Rattle.flu_dense.proofs.sparse.Sparse.new.Goals as goal

pub returns : goal.returns
returns g c n =
    let none : None ≡ get nat_cmp c.new.result (n / 4096) = search rules in
    without_table c.new.result n none
