use Rattle.std.proofs.Common.{◌≡◌, Option, Some, None, sym, ap, subst, ◌∙◌}
use Rattle.std.specs.Prelude.{IfSome}
use Rattle.serde_json.specs.View.{view}
use Rattle.flu_lemmas.proofs.Tests.{not_both}
use Rattle.flu_partial.specs.declared.values.Contribution.{Contribution}
use Rattle.flu_partial.specs.Partial.{contribution_text, IsContribution}
use Rattle.flu_partial.proofs.Found.{contribution_found, of_some}
use Rattle.flu_partial.proofs.contributions.contribution_of.Goals as goal

pub returns-in_default-clause-found : goal.returns-in_default-clause-found
returns-in_default-clause-found c h line =
    sym c.in_default.is ∙ c.in_ok-contribution.ensures.found h line.contribution (contribution_found h c.args.bytes.now (view c.args.value.now) line c.requires.json)

pub returns-then-is_text-clause-line : goal.returns-then-is_text-clause-line
returns-then-is_text-clause-line c = record {
  short = c.requires.short;
  utf8 = c.requires.json.0;
  contribution = subst (λ (o : Option Contribution). IfSome o IsContribution) c.in-Some.is c.in_ok-contribution.ensures.fits;
  text = c.is_text.ensures.0 c.if-is_text.true ∙ c.in_ok-text.ensures;
}

pub returns-then-is_text-clause-found : goal.returns-then-is_text-clause-found
returns-then-is_text-clause-found c h line =
    sym c.in-Some.is ∙ c.in_ok-contribution.ensures.found h line.contribution (contribution_found h c.args.bytes.now (view c.args.value.now) line c.requires.json)

pub returns-else-is_text-clause-found : goal.returns-else-is_text-clause-found
returns-else-is_text-clause-found c h line =
    let there = c.in_ok-contribution.ensures.found h line.contribution (contribution_found h c.args.bytes.now (view c.args.value.now) line c.requires.json) in
    let same : c.in-Some.contribution ≡ h = of_some _ _ (sym c.in-Some.is ∙ there) in
    absurd (not_both c.is_text.result (c.is_text.ensures.1 (line.text ∙ ap contribution_text (sym same) ∙ sym c.in_ok-text.ensures)) c.if-is_text.false)
