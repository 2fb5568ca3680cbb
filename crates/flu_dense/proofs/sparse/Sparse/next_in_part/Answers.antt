use Rattle.std.proofs.Common.{◌≡◌, ◌≤◌, ◌/◌, ◌*◌, ◌+◌, ℕ, None, sym, ap, subst, ◌∙◌, arith}
use Rattle.std.specs.Prelude.{IsSome}
use Rattle.std.specs.Ordering.{nat_cmp}
use Rattle.std.specs.BTreeMap.{get}
use Rattle.flu_dense.specs.Holding.{value_for}
use Rattle.flu_dense.proofs.TableLemmas.{none_anyway}
use Rattle.flu_dense.proofs.PartLemmas.{without_table, none_in_part, found_in_part}
use Rattle.flu_dense.proofs.sparse.Sparse.next_in_part.Goals as goal

pub returns-in_err-table-clause-none : goal.returns-in_err-table-clause-none
returns-in_err-table-clause-none g c =
    let none : (k : ℕ) → c.args.at ≤ k → k / 4096 ≡ c.args.at / 4096 → value_for c.args.self.now k ≡ None =
    λ k le same. without_table c.args.self.now.parts k (c.in_err-table.ensures.value ∙ ap (get nat_cmp c.args.self.now.parts) (sym same)) in
    none_anyway c.from_residual.result none

pub returns-in_err-slot-clause-none : goal.returns-in_err-slot-clause-none
returns-in_err-slot-clause-none g c =
    let none : (k : ℕ) → c.args.at ≤ k → k / 4096 ≡ c.args.at / 4096 → value_for c.args.self.now k ≡ None =
    λ k le same. none_in_part c.args.self.now.parts c.args.at 4096 k c.in_ok-table.table.now c.in_ok-table.ensures.value
    (λ s at lt. c.in_err-slot.ensures.none s at) le same (omega arith) in
    none_anyway c.from_residual-in_err-slot.result none

pub returns-clause-found : goal.returns-clause-found
returns-clause-found g c =
    let there = c.in_ok-slot.ensures.found in (
      omega (arith, c.from.ensures, there.0),
      subst (λ s. IsSome (value_for c.args.self.now (c.args.at / 4096 * 4096 + s))) (sym c.from.ensures)
          (found_in_part c.args.self.now.parts c.args.at c.in_ok-slot.slot c.in_ok-table.table.now c.in_ok-table.ensures.value there.1 there.2),
    )

pub returns-clause-least : goal.returns-clause-least
returns-clause-least g c k le lt =
    let slot = c.in_ok-slot.slot in
    let small = c.in_ok-slot.ensures.found.1 in
    none_in_part c.args.self.now.parts c.args.at slot k c.in_ok-table.table.now c.in_ok-table.ensures.value c.in_ok-slot.ensures.least le
    (omega (arith, le, lt, small, c.from.ensures)) (omega (arith, le, lt, small, c.from.ensures))
