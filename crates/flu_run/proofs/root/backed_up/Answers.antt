use Rattle.std.proofs.Common.{◌≡◌, ap, ◌∙◌}
use Rattle.std.specs.List.Sorted.{IsPermutation}
use Rattle.flu_model.specs.Folding.{final_state, final_outputs}
use Rattle.flu_model.specs.Listed.{listed}
use Rattle.flu_cells.specs.Holding.{held}
use Rattle.flu_run.proofs.Rooted.{batch_as, opening_sorts}
use Rattle.flu_run.proofs.root.backed_up.Goals as goal

pub fall_back-requires-clause-sorts : goal.fall_back-requires-clause-sorts
fall_back-requires-clause-sorts g c =
    opening_sorts c.laws_below.ensures _ _ _ _ c.requires c.case-case.ensures (c.in_ok-start.ensures ∙ ap held c.opening.ensures)

pub returns-clause-state : goal.returns-clause-state
returns-clause-state g c =
    batch_as c.fall_back.result (λ p o l r. held r.0 ≡ final_state p o l) _ _ _ _ _ _ c.requires
    (c.in_ok-start.ensures ∙ ap held c.opening.ensures ∙ ap (λ k. held k.opening) c.case-case.ensures)
    (ap listed c.streams.ensures ∙ ap (λ k. listed k.streams) c.case-case.ensures) c.fall_back.ensures.state

pub returns-clause-outputs : goal.returns-clause-outputs
returns-clause-outputs g c =
    batch_as c.fall_back.result (λ p o l r. IsPermutation (final_outputs p o l) r.1) _ _ _ _ _ _ c.requires
    (c.in_ok-start.ensures ∙ ap held c.opening.ensures ∙ ap (λ k. held k.opening) c.case-case.ensures)
    (ap listed c.streams.ensures ∙ ap (λ k. listed k.streams) c.case-case.ensures) c.fall_back.ensures.outputs
