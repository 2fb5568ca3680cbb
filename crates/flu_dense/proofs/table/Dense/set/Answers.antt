use Rattle.std.proofs.Common.{◌≡◌, ◌≤◌, ◌/◌, Some, length, refl, sym, ap, subst, ◌∙◌, arith}
use Rattle.std.specs.Prelude.{IsSome, slice_set}
use Rattle.std.proofs.lemmas.List.{length-set}
use Rattle.std.proofs.lemmas.Option.{slice_get_read}
use Rattle.flu_lemmas.proofs.Results.{on_err}
use Rattle.flu_dense.specs.Tables.{value_of}
use Rattle.flu_dense.specs.Values.{with_value}
use Rattle.flu_dense.proofs.TableLemmas.{with_row, slots_in_range, row_changed, row_same, row_there, empty_beside-same, empty_beside-set}
use Rattle.flu_dense.proofs.table.Dense.set.Goals as goal

pub returns-in_err-reach-clause-held : goal.returns-in_err-reach-clause-held
returns-in_err-reach-clause-held g c some =
    let never = c.in_err-reach.ensures.held (row_there c.args.self.now.rows.items c.args.slot some) in cc

pub invariant_of-self : goal.invariant_of-self
invariant_of-self g c =
    let rows = c.reach.new.self.rows.items in
    let lt = c.in_ok-reach.ensures.room in
    let few : length (slice_set rows (c.args.slot / 64) c.set.new.self) ≤ 64 =
    omega (arith, length-set rows (c.args.slot / 64) c.set.new.self, c.reach.new.self.few_rows) in
    let same : value_of (slice_set rows (c.args.slot / 64) c.set.new.self) ≡ value_of rows =
    row_same rows c.args.slot c.index_mut.result.now c.set.new.self
    (slice_get_read rows (length rows) (c.args.slot / 64) c.index_mut.result.now refl lt c.index_mut.ensures.value) lt c.in_err-set.ensures.err in
    record {
      few_rows = few;
      empty_beside = empty_beside-same c.reach.new.self.filled _ _ same c.reach.new.self.empty_beside;
      in_range = slots_in_range _ few;
    }

pub returns-in_err-set-clause-err : goal.returns-in_err-set-clause-err
returns-in_err-set-clause-err g c =
    let rows = c.reach.new.self.rows.items in
    let lt = c.in_ok-reach.ensures.room in
    on_err _ c.from_residual-in_err-set.result
    (row_same rows c.args.slot c.index_mut.result.now c.set.new.self
    (slice_get_read rows (length rows) (c.args.slot / 64) c.index_mut.result.now refl lt c.index_mut.ensures.value) lt c.in_err-set.ensures.err
    ∙ c.in_ok-reach.ensures.same)

pub returns-in_err-set-clause-held : goal.returns-in_err-set-clause-held
returns-in_err-set-clause-held g c some =
    let rows = c.reach.new.self.rows.items in
    let lt = c.in_ok-reach.ensures.room in
    let never = c.in_err-set.ensures.held
    (subst IsSome
    (ap (λ m. m c.args.slot) (sym c.in_ok-reach.ensures.same)
    ∙ with_row rows c.args.slot c.index_mut.result.now
    (slice_get_read rows (length rows) (c.args.slot / 64) c.index_mut.result.now refl lt c.index_mut.ensures.value)) some) in cc

pub invariant_of-self-2 : goal.invariant_of-self-2
invariant_of-self-2 g c =
    let rows = c.reach.new.self.rows.items in
    let lt = c.in_ok-reach.ensures.room in
    let few : length (slice_set rows (c.args.slot / 64) c.set.new.self) ≤ 64 =
    omega (arith, length-set rows (c.args.slot / 64) c.set.new.self, c.reach.new.self.few_rows) in
    let changed : value_of (slice_set rows (c.args.slot / 64) c.set.new.self) ≡ with_value (value_of rows) c.args.slot (Some c.args.value) =
    row_changed rows c.args.slot c.index_mut.result.now c.set.new.self (Some c.args.value)
    (slice_get_read rows (length rows) (c.args.slot / 64) c.index_mut.result.now refl lt c.index_mut.ensures.value) lt c.in_ok-set.ensures.ok in
    record {
      few_rows = few;
      empty_beside = empty_beside-same c.with-self.result _ _ changed
          (empty_beside-set c.reach.new.self.filled c.with-self.result (value_of rows) c.args.slot (Some c.args.value) c.with-self.ensures
          c.reach.new.self.empty_beside);
      in_range = slots_in_range _ few;
    }

pub returns-clause-ok : goal.returns-clause-ok
returns-clause-ok g c =
    let rows = c.reach.new.self.rows.items in
    let lt = c.in_ok-reach.ensures.room in
    row_changed rows c.args.slot c.index_mut.result.now c.set.new.self (Some c.args.value)
    (slice_get_read rows (length rows) (c.args.slot / 64) c.index_mut.result.now refl lt c.index_mut.ensures.value) lt c.in_ok-set.ensures.ok
    ∙ ap (λ m. with_value m c.args.slot (Some c.args.value)) c.in_ok-reach.ensures.same
