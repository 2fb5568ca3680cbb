use Rattle.std.proofs.Common.{sym, subst}
use Rattle.std.proofs.lemmas.Result.{IfOk-weaker, IfErr-weaker}
use Rattle.flu_deps.specs.Checking.{program_of}
use Rattle.flu_deps.specs.Validated.{plan_of}
use Rattle.flu_words.specs.Words.{Valid}
use Rattle.flu_top.specs.Refusing.{IsRefusal}
use Rattle.flu_top.proofs.Validations.{is_validated}
use Rattle.flu_top.proofs.validating.valid_plan.Goals as goal

pub returns-in-Ok-clause-written : goal.returns-in-Ok-clause-written
returns-in-Ok-clause-written g c =
    let planned = c.in-Ok.planned in
    IfOk-weaker c.normal_form_of.result _ _
    (λ text is. is_validated c.args.job.now c.args.plan.now (program_of planned.checked)
    (plan_of planned.valid).nodes text _ _ c.in-Ok.ensures.accepted c.in-Ok.ensures.ready c.in-Ok.ensures.nodes is)
    c.normal_form_of.ensures.is

pub returns-in-Ok-clause-refused : goal.returns-in-Ok-clause-refused
returns-in-Ok-clause-refused g c =
    let left = g.F.Files.left in
    let faults = g.F.Files.faults in
    IfErr-weaker c.normal_form_of.result _ _
    (λ refusal none. subst (IsRefusal (Valid c.args.job.now c.args.plan.now) (left c.args.files.now) (left c.planned_by.new.files) (faults c.args.files.now)
    (faults c.planned_by.new.files)) (sym none) tt)
    c.normal_form_of.ensures.refused
