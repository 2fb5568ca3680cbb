use Rattle.std.proofs.Common.{None, sym, ap, ◌∙◌, arith}
use Rattle.flu_model.specs.Contents.{join}
use Rattle.flu_dense.specs.Holding.{value_at}
use Rattle.flu_cells.specs.Entries.{near_held}
use Rattle.flu_cells.specs.Holding.{held}
use Rattle.flu_cells.proofs.Moves.{join-nothing, not_both}
use Rattle.flu_cells.proofs.NearLemmas.{cell_of, slot_held, slot_unset, near_before, near_emptied, some_value}
use Rattle.flu_cells.proofs.Numbered.{below_slot, all_slots}
use Rattle.flu_cells.proofs.state.State.absorb_near.Goals as goal

pub absorb_slot-requires-clause-clean : goal.absorb_slot-requires-clause-clean
absorb_slot-requires-clause-clean c d w e = c.requires d w (c.loop-slot.invariant.1 d w e)

pub loop-slot-preserved : goal.loop-slot-preserved
loop-slot-preserved c =
    let slot = c.in-Some.slot in
    let near = c.loop-slot.near in
    let left = c.in_ok-absorb_slot.ensures.left in (
      c.in_ok-absorb_slot.ensures.ok ∙ c.loop-slot.invariant.0,
      (λ d w e. c.loop-slot.invariant.1 d w (near_before (near_held near) (cell_of slot) d w
          (sym (ap (λ s. s d) (slot_unset near _ slot None c.in-Some.ensures.found.1 left)) ∙ e))),
      below_slot (value_at near) _ c.loop-slot.from slot left c.loop-slot.invariant.2 c.in-Some.ensures.least,
      omega (arith, c.in-Some.ensures.found.1),
    )

pub returns-in_err-absorb_slot-clause-empty : goal.returns-in_err-absorb_slot-clause-empty
returns-in_err-absorb_slot-clause-empty c none =
    let slot = c.in-Some.slot in
    let there = some_value (value_at c.loop-slot.near slot) c.in-Some.ensures.found.2 in
    absurd (not_both _ there.0 (c.loop-slot.invariant.1 (cell_of slot) there.0 (slot_held c.loop-slot.near slot c.in-Some.ensures.found.1 ∙ there.1))
    (ap (λ s. s (cell_of slot)) none))

pub returns-clause-ok : goal.returns-clause-ok
returns-clause-ok c =
    sym (join-nothing (held c.loop-slot.self))
    ∙ ap (join (held c.loop-slot.self)) (sym (near_emptied c.loop-slot.near
    (all_slots (value_at c.loop-slot.near) c.loop-slot.from c.loop-slot.invariant.2 c.in_default.ensures.none)))
    ∙ c.loop-slot.invariant.0
