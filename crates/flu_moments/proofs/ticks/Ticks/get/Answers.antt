use Rattle.std.proofs.Common.{◌∙◌, sym, ap}
use Rattle.std.specs.Prelude.{slice_get}
use Rattle.flu_moments.proofs.StepLemmas.{step_at, no_step_at}
use Rattle.flu_moments.proofs.ticks.Ticks.get.Goals as goal

pub returns-then-number-self : goal.returns-then-number-self
returns-then-number-self c =
    sym (ap (λ l. slice_get l c.args.number) (sym c.self.view_is)
    ∙ step_at c.self.inside.time c.self.inside.every c.self.inside.left c.args.number c.if-number-self.true)

pub returns-else-number-self : goal.returns-else-number-self
returns-else-number-self c =
    sym (ap (λ l. slice_get l c.args.number) (sym c.self.view_is)
    ∙ no_step_at c.self.inside.time c.self.inside.every c.self.inside.left c.args.number c.if-number-self.false)
