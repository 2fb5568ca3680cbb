use Rattle.std.proofs.Common.{sym, ap, subst, ◌∙◌}
use Rattle.std.specs.Int.{w128}
use Rattle.std.specs.Prelude.{FitsSigned, slice_get}
use Rattle.std.proofs.lemmas.Int.{to_z-of_z}
use Rattle.flu_lemmas.proofs.Tests.{not_both}
use Rattle.flu_model.specs.Sorts.{IsWorthIn, key_is_in}
use Rattle.flu_handover.proofs.Filled.{declared, number_fits}
use Rattle.flu_handover.proofs.states.worth_of.Goals as goal

pub returns-then-has_key-clause-found : goal.returns-then-has_key-clause-found
returns-then-has_key-clause-found c w fits width number =
    let there = declared c.args.p.now.families c.items.result.now c.args.amount.cell.family c.in_ok-family.family.now c.items.ensures
    c.in_ok-family.ensures.lookup.3.0 c.in_ok-family.ensures.lookup.1 in
    let small = subst (FitsSigned w128) (sym number) (number_fits (slice_get c.args.p.now.families c.args.amount.cell.family) w fits.1 width) in
    c.worth_in.ensures.found w (subst (λ o. IsWorthIn o w) there fits.1) width (to_z-of_z w128 c.args.amount.value small ∙ number)

pub returns-else-has_key-clause-found : goal.returns-else-has_key-clause-found
returns-else-has_key-clause-found c w fits width number =
    let there = declared c.args.p.now.families c.items.result.now c.args.amount.cell.family c.in_ok-family.family.now c.items.ensures
    c.in_ok-family.ensures.lookup.3.0 c.in_ok-family.ensures.lookup.1 in
    absurd (not_both c.has_key.result (c.has_key.ensures ∙ ap (λ o. key_is_in o c.args.amount.cell.key) (sym there) ∙ fits.0) c.if-has_key.false)
