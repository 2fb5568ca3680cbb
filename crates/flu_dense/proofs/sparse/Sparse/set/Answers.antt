use Rattle.std.proofs.Common.{◌≡◌, ◌/◌, ◌%◌, false, Some, None, sym, ap, subst, ◌∙◌}
use Rattle.std.specs.Prelude.{IsSome, is_some}
use Rattle.std.specs.Ordering.{nat_cmp}
use Rattle.std.specs.BTreeMap.{get, Updates}
use Rattle.std.proofs.lemmas.Result.{on_ok_weaker, on_err_weaker}
use Rattle.flu_lemmas.proofs.Results.{on_err}
use Rattle.flu_dense.specs.Holding.{value_at, value_for}
use Rattle.flu_dense.specs.Parts.{value_in_table, value_among}
use Rattle.flu_dense.specs.Values.{with_value}
use Rattle.flu_dense.proofs.PartLemmas.{with_table, without_table, part_changed, part_same, parts_unchanged}
use Rattle.flu_dense.proofs.sparse.Sparse.set.Goals as goal

pub returns-in-Some-clause-ok : goal.returns-in-Some-clause-ok
returns-in-Some-clause-ok g c =
    let parts = c.args.self.now.parts in
    let n = c.args.n in
    let there : Some c.in-Some.table.now ≡ get nat_cmp parts (n / 4096) = c.in-Some.ensures.value in
    on_ok_weaker c.set.result
    (λ changed. part_changed parts (c.get_mut.follows.lender c.set.new.self) n c.set.new.self (Some c.args.value)
    ((c.get_mut.follows.holds c.set.new.self).3 (ap is_some (sym there)))
    (changed ∙ ap (λ o. with_value (λ s. value_in_table o s) (n % 4096) (Some c.args.value)) there))
    c.set.ensures.ok

pub returns-in-Some-clause-err : goal.returns-in-Some-clause-err
returns-in-Some-clause-err g c =
    let parts = c.args.self.now.parts in
    let n = c.args.n in
    let there : Some c.in-Some.table.now ≡ get nat_cmp parts (n / 4096) = c.in-Some.ensures.value in
    on_err_weaker c.set.result
    (λ same. part_same parts (c.get_mut.follows.lender c.set.new.self) (n / 4096) c.set.new.self
    ((c.get_mut.follows.holds c.set.new.self).3 (ap is_some (sym there)))
    (same ∙ ap (λ o s. value_in_table o s) there))
    c.set.ensures.err

pub returns-in-Some-clause-held : goal.returns-in-Some-clause-held
returns-in-Some-clause-held g c some =
    c.set.ensures.held (subst IsSome (with_table c.args.self.now.parts c.args.n c.in-Some.table.now c.in-Some.ensures.value) some)

pub returns-in_err-set-clause-held : goal.returns-in_err-set-clause-held
returns-in_err-set-clause-held g c some = let none : value_for c.args.self.now c.args.n ≡ None = without_table c.args.self.now.parts c.args.n c.in_default.ensures.value in
    let never : is_some (value_for c.args.self.now c.args.n) ≡ false = ap is_some none in cc

pub returns-in_err-insert-clause-err : goal.returns-in_err-insert-clause-err
returns-in_err-insert-clause-err g c =
    on_err _ c.from_residual-in_err-insert.result
    (parts_unchanged c.get_mut.follows.lender-at-none c.insert.new.self c.in_err-insert.ensures.err
    ∙ ap value_among c.get_mut.follows.holds-at-none)

pub returns-in_err-insert-clause-held : goal.returns-in_err-insert-clause-held
returns-in_err-insert-clause-held g c some =
    let none : value_for c.args.self.now c.args.n ≡ None = without_table c.args.self.now.parts c.args.n c.in_default.ensures.value in
    let never : is_some (value_for c.args.self.now c.args.n) ≡ false = ap is_some none in cc

pub returns-clause-ok : goal.returns-clause-ok
returns-clause-ok g c =
    let parts = c.args.self.now.parts in
    let n = c.args.n in
    let none : None ≡ get nat_cmp parts (n / 4096) = c.in_default.ensures.value in
    let base : value_at c.new-table.result ≡ (λ s. value_in_table (get nat_cmp parts (n / 4096)) s) =
    (λ i s. (c.new-table.ensures s ∙ ap (λ o. value_in_table o s) none) i) in
    part_changed parts c.insert.new.self n c.set-2.new.self (Some c.args.value)
    (subst (λ m. Updates nat_cmp m c.insert.new.self (n / 4096) (Some c.set-2.new.self)) c.get_mut.follows.holds-at-none c.in_ok-insert.ensures.updates)
    (c.in_ok-set.ensures.ok ∙ ap (λ m. with_value m (n % 4096) (Some c.args.value)) base)
