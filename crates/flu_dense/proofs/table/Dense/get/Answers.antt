use Rattle.std.proofs.Common.{◌≡◌, ◌/◌, Some, length, refl, sym, ap, ◌∙◌}
use Rattle.std.specs.Prelude.{slice_get}
use Rattle.std.proofs.lemmas.Option.{slice_get_read}
use Rattle.flu_dense.specs.Tables.{value_of}
use Rattle.flu_dense.proofs.TableLemmas.{with_row, past_rows}
use Rattle.flu_dense.proofs.table.Dense.get.Goals as goal

pub returns-in-Some : goal.returns-in-Some
returns-in-Some g c =
    let found = c.in-Some.ensures.lookup in
    let rows = c.deref.result.now in
    let is : slice_get c.args.self.now.rows.items (c.args.slot / 64) ≡ Some c.in-Some.row.now =
    ap (λ rs. slice_get rs (c.args.slot / 64)) (sym c.deref.ensures.value)
    ∙ slice_get_read rows (length rows) (c.args.slot / 64) c.in-Some.row.now refl found.3.0 found.1 in
    c.get-in-Some.ensures ∙ sym (with_row c.args.self.now.rows.items c.args.slot c.in-Some.row.now is)

pub returns-in-None : goal.returns-in-None
returns-in-None g c =
    sym (ap (λ rs. value_of rs c.args.slot) (sym c.deref.ensures.value) ∙ past_rows c.deref.result.now c.args.slot c.in-None.ensures.lookup.3)
