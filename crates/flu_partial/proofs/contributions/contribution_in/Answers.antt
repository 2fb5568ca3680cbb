use Rattle.std.proofs.Common.{Option, Some, subst, ◌∙◌}
use Rattle.flu_partial.specs.declared.contributions.Parts.{Parts}
use Rattle.flu_partial.specs.Entries.{AreParts}
use Rattle.flu_partial.proofs.Entries.{same_lists, contribution_fits}
use Rattle.flu_partial.proofs.contributions.contribution_in.Goals as goal

pub returns-in_default-clause-found : goal.returns-in_default-clause-found
returns-in_default-clause-found c x is has =
    absurd (subst (λ (o : Option Parts). AreParts o x) c.in_default.is (c.parts_of.ensures.found x is has))

pub returns-clause-fits : goal.returns-clause-fits
returns-clause-fits c =
    contribution_fits c.in-Some.parts.place c.in_ok-cells.cells c.in-Some.parts.events c.in_ok-outs.outs c.contribution_with.result
    c.contribution_with.ensures.some c.in-Some.ensures.fits c.in_ok-cells.ensures.fits c.in_ok-outs.ensures.fits

pub returns-clause-found : goal.returns-clause-found
returns-clause-found c x is has =
    let p = c.in-Some.ensures.found x is has in
    c.contribution_with.ensures.found x p.0 (c.in_ok-cells.ensures.found x.cells is.amounts (same_lists _ _ p.2)) p.1
    (c.in_ok-outs.ensures.found x.outs is.outs (same_lists _ _ p.3)) is.rising
