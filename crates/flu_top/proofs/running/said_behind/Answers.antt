use Rattle.std.proofs.Common.{sym, ap, ◌∙◌}
use Rattle.flu_deps.specs.Checking.{program_of}
use Rattle.flu_deps.specs.Validated.{plan_of}
use Rattle.flu_plan.specs.Printing.{printed}
use Rattle.flu_top.proofs.RunReports.{plan_is_said}
use Rattle.flu_top.proofs.running.said_behind.Goals as goal

pub returns-in_ok-text-in-Closed : goal.returns-in_ok-text-in-Closed
returns-in_ok-text-in-Closed g c closed =
    let note = c.args.engine.now in
    plan_is_said note.adapts (program_of note.checked) note.counts (plan_of note.valid).nodes c.in_ok-text-in-Closed.text
    (sym c.adapts.ensures ∙ c.if-not-adapts.false) c.requires
    (c.in_ok-text-in-Closed.ensures.text ∙ (λ i. printed ((c.program.ensures ∙ ap program_of c.checked.ensures) i)
    ((c.plan.ensures ∙ ap plan_of c.valid.ensures.plan) i).nodes))
