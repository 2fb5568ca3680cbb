use Rattle.std.proofs.Common.{◌≡◌, ◌<◌, ◌≤◌, ◌/◌, ◌%◌, ℕ, true, None, sym, ap, subst, ◌∙◌, arith}
use Rattle.std.specs.Prelude.{IsSome}
use Rattle.flu_model.specs.Contents.{cell}
use Rattle.flu_dense.specs.Holding.{value_at}
use Rattle.flu_cells.specs.Entries.{is_near, slot_of}
use Rattle.flu_cells.specs.Holding.{held}
use Rattle.flu_cells.proofs.NearLemmas.{in_slot, near_from, near_key, none_anyway}
use Rattle.flu_cells.proofs.state.State.near_key.Goals as goal

pub returns-in_err-slot-clause-none : goal.returns-in_err-slot-clause-none
returns-in_err-slot-clause-none c =
    let none : (j : ℕ) → c.args.from ≤ j → is_near (cell c.args.family j) ≡ true → held c.args.self.now (cell c.args.family j) ≡ None =
    λ j le is. in_slot c.args.self.now.near c.args.self.now.far (cell c.args.family j) is
    ∙ c.in_err-slot.ensures.none (slot_of (cell c.args.family j)) (omega (arith, c.in_ok-first.ensures.some.0, le)) in
    none_anyway c.from_residual-in_err-slot.result none

pub returns-then-slot-family-clause-found : goal.returns-then-slot-family-clause-found
returns-then-slot-family-clause-found c =
    let slot = c.in_ok-slot.slot in
    let f = c.args.family in
    let s = c.args.self.now in
    let found = c.in_ok-slot.ensures.found in
    let first = c.in_ok-first.ensures.some in
    let row : slot / 64 ≡ f = c.if-slot-family.true in
    let again : slot_of (cell f (slot % 64)) ≡ slot = omega (arith, row) in
    let is : is_near (cell f (slot % 64)) ≡ true = near_from (cell f (slot % 64)) (omega (arith, row, found.1)) (omega arith) in (
      omega (arith, row, first.0, found.0),
      is,
      subst IsSome (sym (in_slot s.near s.far (cell f (slot % 64)) is ∙ ap (value_at s.near) again)) found.2,
    )

pub returns-then-slot-family-clause-least : goal.returns-then-slot-family-clause-least
returns-then-slot-family-clause-least c j le lt =
    let slot = c.in_ok-slot.slot in
    let f = c.args.family in
    let s = c.args.self.now in
    let row : slot / 64 ≡ f = c.if-slot-family.true in
    let first = c.in_ok-first.ensures.some in
    in_slot s.near s.far (cell f j) (near_from (cell f j) (omega (arith, row, c.in_ok-slot.ensures.found.1)) (omega (arith, lt)))
    ∙ c.in_ok-slot.ensures.least (slot_of (cell f j)) (omega (arith, first.0, le)) (omega (arith, row, lt))

pub returns-else-slot-family-clause-none : goal.returns-else-slot-family-clause-none
returns-else-slot-family-clause-none c j le is =
    let slot = c.in_ok-slot.slot in
    let f = c.args.family in
    let s = c.args.self.now in
    let first = c.in_ok-first.ensures.some in
    let key : j < 64 = near_key (cell f j) is in
    in_slot s.near s.far (cell f j) is
    ∙ c.in_ok-slot.ensures.least (slot_of (cell f j)) (omega (arith, first.0, le))
    (omega (arith, key, first.0, c.in_ok-slot.ensures.found.0, c.if-slot-family.false))
