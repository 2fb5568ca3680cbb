use Rattle.std.proofs.Common.{◌≡◌, ◌≤◌, ◌/◌, ◌%◌, ℕ, true, None, length, refl, sym, ap, ◌∙◌, arith, rules}
use Rattle.std.specs.Prelude.{slice_get, slice_set}
use Rattle.std.proofs.lemmas.List.{length-set}
use Rattle.std.proofs.lemmas.Option.{slice_get_read}
use Rattle.flu_lemmas.proofs.Replaced.{slice_get-set_same}
use Rattle.flu_dense.specs.Tables.{value_of}
use Rattle.flu_dense.specs.Values.{with_value}
use Rattle.flu_dense.proofs.TableLemmas.{with_row, past_rows, slots_in_range, row_changed, none_changed, empty_beside-unset}
use Rattle.flu_dense.proofs.table.Dense.unset.Goals as goal

pub returns-in_err-row-clause-value : goal.returns-in_err-row-clause-value
returns-in_err-row-clause-value g c =
    let none : c.from_residual.result ≡ None = search rules in
    none ∙ sym (past_rows c.args.self.now.rows.items c.args.slot c.in_err-row.ensures.item.3)

pub returns-in_err-row-clause-left : goal.returns-in_err-row-clause-left
returns-in_err-row-clause-left g c =
    none_changed (value_of c.args.self.now.rows.items) c.args.slot (past_rows c.args.self.now.rows.items c.args.slot c.in_err-row.ensures.item.3)

pub invariant_of-self-2 : goal.invariant_of-self-2
invariant_of-self-2 g c =
    let rows = c.args.self.now.rows.items in
    let row = c.unset-value.new.self in
    let then = slice_set rows (c.args.slot / 64) row in
    let found = c.in_ok-row.ensures.item in
    let few : length then ≤ 64 = omega (arith, length-set rows (c.args.slot / 64) row, c.args.self.now.few_rows) in
    let changed : value_of then ≡ with_value (value_of rows) c.args.slot None =
    row_changed rows c.args.slot c.in_ok-row.row.now row None
    (slice_get_read rows (length rows) (c.args.slot / 64) c.in_ok-row.row.now refl found.3.0 found.1) found.3.0 c.unset-value.ensures.left in
    let emptied : c.is_empty.result ≡ true → (s : ℕ) → s / 64 ≡ c.args.slot / 64 → value_of then s ≡ None =
    λ gone s same. with_row then s row (ap (slice_get then) same ∙ slice_get-set_same rows (c.args.slot / 64) row found.3.0)
    ∙ c.is_empty.ensures gone (s % 64) (omega arith) in
    record {
      few_rows = few;
      empty_beside = empty_beside-unset c.args.self.now.filled c.without_if-self.result (value_of rows) (value_of then) c.args.slot c.is_empty.result
          c.without_if-self.ensures changed emptied c.args.self.now.empty_beside;
      in_range = slots_in_range _ few;
    }

pub returns-clause-value : goal.returns-clause-value
returns-clause-value g c =
    let rows = c.args.self.now.rows.items in
    let found = c.in_ok-row.ensures.item in
    c.unset-value.ensures.value ∙ sym (with_row rows c.args.slot c.in_ok-row.row.now
    (slice_get_read rows (length rows) (c.args.slot / 64) c.in_ok-row.row.now refl found.3.0 found.1))

pub returns-clause-left : goal.returns-clause-left
returns-clause-left g c =
    let rows = c.args.self.now.rows.items in
    let found = c.in_ok-row.ensures.item in
    row_changed rows c.args.slot c.in_ok-row.row.now c.unset-value.new.self None
    (slice_get_read rows (length rows) (c.args.slot / 64) c.in_ok-row.row.now refl found.3.0 found.1)
    found.3.0 c.unset-value.ensures.left
