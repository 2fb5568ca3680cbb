use Rattle.std.proofs.Common.{Option, Some, subst, ◌∙◌}
use Rattle.flu_partial.specs.declared.contributions.EmittedParts.{EmittedParts}
use Rattle.flu_partial.specs.Entries.{AreEmittedParts}
use Rattle.flu_partial.proofs.contributions.emitted_in.Goals as goal

pub returns-in_default-clause-found : goal.returns-in_default-clause-found
returns-in_default-clause-found c e fits is =
    absurd (subst (λ (o : Option EmittedParts). AreEmittedParts o e) c.in_default.is (c.emitted_parts.ensures.found e fits is))

pub returns-clause-found : goal.returns-clause-found
returns-clause-found c e fits is =
    let p = c.in-Some.ensures.found e fits is in
    λ i. Some (record { time = p.0 i; tag = (c.in_ok-tag.ensures ∙ p.1) i; text = (c.in_ok-text.ensures ∙ p.2) i })
