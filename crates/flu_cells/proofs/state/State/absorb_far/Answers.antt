use Rattle.std.proofs.Common.{◌<◌, None, sym, ap, ◌∙◌, arith}
use Rattle.flu_model.specs.Contents.{join}
use Rattle.flu_dense.specs.Holding.{value_for}
use Rattle.flu_cells.specs.Entries.{far_held}
use Rattle.flu_cells.specs.Holding.{held}
use Rattle.flu_cells.proofs.Moves.{join-nothing, not_both}
use Rattle.flu_cells.proofs.NearLemmas.{near_before, some_value}
use Rattle.flu_cells.proofs.Numbered.{below_slot}
use Rattle.flu_cells.proofs.FarLemmas.{cell_at, place_held, place_unset, far_emptied}
use Rattle.flu_cells.proofs.state.State.absorb_far.Goals as goal

pub absorb_place-requires-clause-clean : goal.absorb_place-requires-clause-clean
absorb_place-requires-clause-clean c d w e = c.requires.clean d w (c.loop-place.invariant.1 d w e)

pub absorb_place-requires-clause-keys : goal.absorb_place-requires-clause-keys
absorb_place-requires-clause-keys c d w e = c.requires.keys d w (c.loop-place.invariant.1 d w e)

pub loop-place-preserved : goal.loop-place-preserved
loop-place-preserved c =
    let place = c.in-Some.place in
    let far = c.loop-place.far in
    let left = c.in_ok-absorb_place.ensures.left in
    let fits : place < 18446744073709551616 = omega (arith, c.in-Some.ensures.found.1) in (
      c.in_ok-absorb_place.ensures.ok ∙ c.loop-place.invariant.0,
      (λ d w e. c.loop-place.invariant.1 d w (near_before (far_held far) (cell_at place) d w
          (sym (ap (λ s. s d) (place_unset far _ place None fits left)) ∙ e))),
      below_slot (value_for far) _ c.loop-place.from place left c.loop-place.invariant.2 c.in-Some.ensures.least,
      omega (arith, c.in-Some.ensures.found.1),
    )

pub returns-in_err-absorb_place-clause-empty : goal.returns-in_err-absorb_place-clause-empty
returns-in_err-absorb_place-clause-empty c none =
    let place = c.in-Some.place in
    let fits : place < 18446744073709551616 = omega (arith, c.in-Some.ensures.found.1) in
    let there = some_value (value_for c.loop-place.far place) c.in-Some.ensures.found.2 in
    absurd (not_both _ there.0 (c.loop-place.invariant.1 (cell_at place) there.0 (place_held c.loop-place.far place fits ∙ there.1))
    (ap (λ s. s (cell_at place)) none))

pub returns-clause-ok : goal.returns-clause-ok
returns-clause-ok c =
    sym (join-nothing (held c.loop-place.self))
    ∙ ap (join (held c.loop-place.self)) (sym (far_emptied c.loop-place.far c.loop-place.from
    (λ d w e. c.requires.keys d w (c.loop-place.invariant.1 d w e)) c.loop-place.invariant.2 c.in_default.ensures.none))
    ∙ c.loop-place.invariant.0
