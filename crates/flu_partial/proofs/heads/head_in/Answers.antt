use Rattle.std.proofs.Common.{Option, Some, subst, ◌∙◌}
use Rattle.flu_partial.specs.declared.heads.HeadParts.{HeadParts}
use Rattle.flu_partial.specs.Parts.{AreHeadParts}
use Rattle.flu_partial.proofs.heads.head_in.Goals as goal

pub returns-in_default-clause-found : goal.returns-in_default-clause-found
returns-in_default-clause-found c h is has =
    absurd (subst (λ (o : Option HeadParts). AreHeadParts o h) c.in_default.is (c.parts_of.ensures.found h is has))

pub returns-clause-found : goal.returns-clause-found
returns-clause-found c h is has =
    let p = c.in-Some.ensures.found h is has in
    λ i. Some (record { first = p.0 i; job = (c.in_ok-job.ensures ∙ p.1) i; node = (c.in_ok-node.ensures ∙ p.2) i; plan = (c.in_ok-plan.ensures ∙ p.3) i })
