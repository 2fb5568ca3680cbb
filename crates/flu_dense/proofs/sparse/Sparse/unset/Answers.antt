use Rattle.std.proofs.Common.{◌≡◌, ◌/◌, ◌%◌, Some, None, sym, ap, ◌∙◌}
use Rattle.std.specs.Prelude.{is_some}
use Rattle.std.specs.Ordering.{nat_cmp}
use Rattle.std.specs.BTreeMap.{get}
use Rattle.flu_dense.specs.Parts.{value_in_table, value_among}
use Rattle.flu_dense.specs.Values.{with_value}
use Rattle.flu_dense.proofs.TableLemmas.{none_changed}
use Rattle.flu_dense.proofs.PartLemmas.{with_table, without_table, part_changed}
use Rattle.flu_dense.proofs.sparse.Sparse.unset.Goals as goal

pub returns-in-Some-clause-value : goal.returns-in-Some-clause-value
returns-in-Some-clause-value g c = c.unset.ensures.value ∙ sym (with_table c.args.self.now.parts c.args.n c.in-Some.table.now c.in-Some.ensures.value)

pub returns-in-Some-clause-left : goal.returns-in-Some-clause-left
returns-in-Some-clause-left g c =
    let parts = c.args.self.now.parts in
    let n = c.args.n in
    let there : Some c.in-Some.table.now ≡ get nat_cmp parts (n / 4096) = c.in-Some.ensures.value in
    part_changed parts (c.get_mut.follows.lender c.unset.new.self) n c.unset.new.self None
    ((c.get_mut.follows.holds c.unset.new.self).3 (ap is_some (sym there)))
    (c.unset.ensures.left ∙ ap (λ o. with_value (λ s. value_in_table o s) (n % 4096) None) there)

pub returns-in-None-clause-value : goal.returns-in-None-clause-value
returns-in-None-clause-value g c = sym (without_table c.args.self.now.parts c.args.n c.in-None.ensures.value)

pub returns-in-None-clause-left : goal.returns-in-None-clause-left
returns-in-None-clause-left g c =
    ap value_among c.get_mut.follows.holds-at-none
    ∙ none_changed (value_among c.args.self.now.parts) c.args.n (without_table c.args.self.now.parts c.args.n c.in-None.ensures.value)
