use Rattle.std.proofs.Common.{◌≡◌, ◌≤◌, ◌/◌, ℕ, Some, None, length, refl, sym, ap, ◌∙◌, arith}
use Rattle.std.specs.Prelude.{slice_get}
use Rattle.std.proofs.lemmas.Option.{slice_get_read}
use Rattle.flu_dense.specs.Holding.{value_at}
use Rattle.flu_dense.proofs.TableLemmas.{found_in_row, none_in_row, past_rows, none_anyway}
use Rattle.flu_dense.proofs.table.Dense.next_in_row.Goals as goal

pub returns-in_err-row-clause-none : goal.returns-in_err-row-clause-none
returns-in_err-row-clause-none g c =
    let none : (k : ℕ) → c.args.at ≤ k → k / 64 ≡ c.args.at / 64 → value_at c.args.self.now k ≡ None =
    λ k le same. past_rows c.args.self.now.rows.items k
    (omega (arith, same, c.in_err-row.ensures.lookup.3, ap length c.deref.ensures.value)) in
    none_anyway c.from_residual.result none

pub returns-in_err-place-clause-none : goal.returns-in_err-place-clause-none
returns-in_err-place-clause-none g c =
    let rows = c.args.self.now.rows.items in
    let found = c.in_ok-row.ensures.lookup in
    let at = c.args.at in
    let is : slice_get rows (at / 64) ≡ Some c.in_ok-row.row.now =
    ap (λ rs. slice_get rs (at / 64)) (sym c.deref.ensures.value)
    ∙ slice_get_read c.deref.result.now (length c.deref.result.now) (at / 64) c.in_ok-row.row.now refl found.3.0 found.1 in
    let none : (k : ℕ) → at ≤ k → k / 64 ≡ at / 64 → value_at c.args.self.now k ≡ None =
    λ k le same. none_in_row rows at 64 k c.in_ok-row.row.now is (omega arith) c.in_err-place.ensures.none le (omega (arith, same)) in
    none_anyway c.from_residual-in_err-place.result none

pub returns-clause-found : goal.returns-clause-found
returns-clause-found g c =
    let rows = c.args.self.now.rows.items in
    let found = c.in_ok-row.ensures.lookup in
    let at = c.args.at in
    let is : slice_get rows (at / 64) ≡ Some c.in_ok-row.row.now =
    ap (λ rs. slice_get rs (at / 64)) (sym c.deref.ensures.value)
    ∙ slice_get_read c.deref.result.now (length c.deref.result.now) (at / 64) c.in_ok-row.row.now refl found.3.0 found.1 in
    let there = c.in_ok-place.ensures.found in (
      omega (arith, there.0),
      omega (arith, there.1),
      found_in_row rows at c.in_ok-place.place c.in_ok-row.row.now is there.1 there.2,
    )

pub returns-clause-least : goal.returns-clause-least
returns-clause-least g c k le lt =
    let rows = c.args.self.now.rows.items in
    let found = c.in_ok-row.ensures.lookup in
    let at = c.args.at in
    let is : slice_get rows (at / 64) ≡ Some c.in_ok-row.row.now =
    ap (λ rs. slice_get rs (at / 64)) (sym c.deref.ensures.value)
    ∙ slice_get_read c.deref.result.now (length c.deref.result.now) (at / 64) c.in_ok-row.row.now refl found.3.0 found.1 in
    none_in_row rows at c.in_ok-place.place k c.in_ok-row.row.now is (omega (arith, c.in_ok-place.ensures.found.1)) c.in_ok-place.ensures.least le lt
