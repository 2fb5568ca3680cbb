use Rattle.std.proofs.Common.{◌≡◌, ◌≤◌, Some, length, refl, sym, ap, ◌∙◌, arith}
use Rattle.std.specs.Prelude.{slice_get}
use Rattle.std.proofs.lemmas.Grind.{common_steps}
use Rattle.std.proofs.lemmas.Option.{slice_get_read}
use Rattle.flu_dense.specs.Tables.{value_of}
use Rattle.flu_dense.proofs.TableLemmas.{slots_in_range, row_copied, rows_copied, empty_beside-same}
use Rattle.flu_dense.proofs.table.Dense.copy.Goals as goal

pub loop-row-preserved : goal.loop-row-preserved
loop-row-preserved g c =
    let rows = c.args.self.now.rows.items in
    let i = c.loop-row.row-index in
    let is : slice_get rows i ≡ Some c.row-item.result =
    ap (λ rs. slice_get rs i) (sym c.deref-row-items.ensures.value)
    ∙ slice_get_read c.deref-row-items.result.now (length c.deref-row-items.result.now) i c.row-item.result refl c.loop-row-test.true c.row-item.is in (
      grind (arith, common_steps, ap length c.in_ok-push.ensures.items, c.loop-row.invariant.0),
      row_copied rows c.loop-row.rows.items c.push.new.self.items i c.row-item.result c.in_ok-copy.field-0 c.in_ok-push.ensures.items is c.in_ok-copy.ensures
          c.loop-row.invariant.0
          c.loop-row.invariant.1,
    )

pub invariant_of-result : goal.invariant_of-result
invariant_of-result g c =
    let few : length c.loop-row.rows.items ≤ 64 =
    omega (arith, c.loop-row.invariant.0, ap length c.deref-row-items.ensures.value, c.args.self.now.few_rows, c.loop-row.auto.row-index-end) in
    let same : value_of c.loop-row.rows.items ≡ value_of c.args.self.now.rows.items =
    rows_copied c.args.self.now.rows.items c.loop-row.rows.items c.loop-row.row-index
    (omega (arith, ap length c.deref-row-items.ensures.value, c.loop-row-test.false))
    c.loop-row.invariant.0 c.loop-row.invariant.1 in
    record {
      few_rows = few;
      empty_beside = empty_beside-same c.args.self.now.filled _ _ same c.args.self.now.empty_beside;
      in_range = slots_in_range _ few;
    }

pub returns : goal.returns
returns g c =
    rows_copied c.args.self.now.rows.items c.loop-row.rows.items c.loop-row.row-index
    (omega (arith, ap length c.deref-row-items.ensures.value, c.loop-row-test.false))
    c.loop-row.invariant.0 c.loop-row.invariant.1
