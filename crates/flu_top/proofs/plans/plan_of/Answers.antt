use Rattle.std.proofs.Common.{ap, ◌∙◌, subst, List, ℕ, sym}
use Rattle.flu_plan.specs.Faults.{Fails}
use Rattle.flu_plan.specs.Reading.{plan_in}
use Rattle.flu_top.specs.Plans.{IsTextRefusal}
use Rattle.flu_top.proofs.PlanTexts.{plan_is_read, plan_is_refused}
use Rattle.flu_top.proofs.plans.plan_of.Goals as goal

pub returns-in-Err-clause-refused : goal.returns-in-Err-clause-refused
returns-in-Err-clause-refused g c =
    let left = g.F.Files.left in
    let faults = g.F.Files.faults in
    let p = c.args.program.now in
    let plan = c.args.plan.now in
    let fault = c.in-Err.fault in
    let fails = subst (λ (bytes : List ℕ). Fails fault (plan_in p bytes)) c.deref.ensures.value c.in-Err.ensures in
    subst (IsTextRefusal p plan (left c.args.files.now) (left c.read_whole.new.files) (faults c.args.files.now) (faults c.read_whole.new.files))
    (sym c.plan_refusal.ensures)
    (plan_is_refused p plan c.in_ok-bytes.bytes fault _ _ (faults c.args.files.now) (faults c.read_whole.new.files) c.in_ok-bytes.ensures.whole fails)

pub returns-in-Ok-clause-read : goal.returns-in-Ok-clause-read
returns-in-Ok-clause-read g c =
    plan_is_read c.plans_are_grammar.ensures c.args.program.now c.args.plan.now c.in_ok-bytes.bytes.items c.in-Ok.found.nodes _ _
    c.in_ok-bytes.ensures.whole (sym (ap (plan_in c.args.program.now) c.deref.ensures.value) ∙ c.in-Ok.ensures)
