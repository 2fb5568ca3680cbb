use Rattle.std.proofs.Common.{refl, sym, ap, subst}
use Rattle.std.proofs.lemmas.Bool.{false≢true}
use Rattle.flu_outside.specs.Outside.{WhereTold}
use Rattle.flu_model.specs.Validity.{IsValid}
use Rattle.flu_deps.specs.Checking.{program_of}
use Rattle.flu_lemmas.proofs.Named.{fronts_at, fronts_then}
use Rattle.flu_words.specs.Words.{Valid}
use Rattle.flu_lines.specs.declared.refusals.PlanDefect.TheVariants as defects
use Rattle.flu_lines.specs.declared.refusals.Refusal.TheVariants as refusals
use Rattle.flu_command.specs.Causes.{IsJobRead}
use Rattle.flu_command.specs.Ready.{HasNodes}
use Rattle.flu_top.specs.Plans.{IsPlanRead, IsTextRefusal}
use Rattle.flu_top.proofs.Checks.{check_refusal}
use Rattle.flu_top.proofs.Sequence.{job_refusal}
use Rattle.flu_top.proofs.Validations.{is_ready, has_nodes, only_with_plan, text_refusal, valid_refusal}
use Rattle.flu_top.proofs.planned.planned_by.Goals as goal

pub returns-in-Err-clause-refused : goal.returns-in-Err-clause-refused
returns-in-Err-clause-refused g c =
    job_refusal (Valid c.args.job.now c.args.plan.now) c.args.job.now _ _ _ _ c.in-Err.refusal refl c.in-Err.ensures.refused

pub returns-in-Err-accepted-clause-refused : goal.returns-in-Err-accepted-clause-refused
returns-in-Err-accepted-clause-refused g c =
    check_refusal (Valid c.args.job.now c.args.plan.now) c.args.job.now c.in-Ok.program _ _ _ _ c.in-Err-accepted.refusal refl refl c.in-Ok.ensures.read
    c.in-Err-accepted.ensures.refused

pub returns-in-Err-clause-fronts : goal.returns-in-Err-clause-fronts
returns-in-Err-clause-fronts g c = fronts_at c.args.job.now _ _ c.in-Err.ensures.taken

pub returns-in-Err-accepted-clause-fronts : goal.returns-in-Err-accepted-clause-fronts
returns-in-Err-accepted-clause-fronts g c = fronts_at c.args.job.now _ _ c.in-Ok.ensures.taken

pub returns-in-Err-plan_of-clause-refused : goal.returns-in-Err-plan_of-clause-refused
returns-in-Err-plan_of-clause-refused g c =
    let left = g.F.Files.left in
    let faults = g.F.Files.faults in
    let p = program_of c.in-Ok-accepted.checked in
    let read = subst (λ q. WhereTold (left c.args.files.now) (left c.program_of.new.files) (IsJobRead c.args.job.now q))
    (sym c.in-Ok-accepted.ensures.same) c.in-Ok.ensures.read in
    let refused = subst (λ q. IsTextRefusal q c.args.plan.now (left c.program_of.new.files) (left c.plan_of.new.files) (faults c.program_of.new.files)
    (faults c.plan_of.new.files) c.in-Err-plan_of.refusal) c.program.ensures c.in-Err-plan_of.ensures.refused in
    text_refusal c.args.job.now c.args.plan.now p (left c.args.files.now) (left c.program_of.new.files) (left c.plan_of.new.files) (faults c.args.files.now)
    (faults c.program_of.new.files) (faults c.plan_of.new.files) c.in-Err-plan_of.refusal read c.in-Ok.ensures.taken c.in-Ok.ensures.counts
    c.in-Ok-accepted.ensures.accepted refused

pub returns-in-Err-plan_of-clause-fronts : goal.returns-in-Err-plan_of-clause-fronts
returns-in-Err-plan_of-clause-fronts g c = fronts_then _ _ _ (fronts_at c.args.job.now _ _ c.in-Ok.ensures.taken)
    (fronts_at c.args.plan.now _ _ c.in-Err-plan_of.ensures.taken)

pub returns-in-Err-plan_of-clause-only : goal.returns-in-Err-plan_of-clause-only
returns-in-Err-plan_of-clause-only g c =
    let left = g.F.Files.left in
    let read = subst (λ q. WhereTold (left c.args.files.now) (left c.program_of.new.files) (IsJobRead c.args.job.now q))
    (sym c.in-Ok-accepted.ensures.same) c.in-Ok.ensures.read in
    only_with_plan c.args.job.now c.args.plan.now (program_of c.in-Ok-accepted.checked) _ _ _ read c.in-Ok.ensures.taken c.in-Ok-accepted.ensures.accepted
    c.in-Err-plan_of.ensures.taken

pub returns-in-Ok-validate-clause-fronts : goal.returns-in-Ok-validate-clause-fronts
returns-in-Ok-validate-clause-fronts g c = fronts_then _ _ _ (fronts_at c.args.job.now _ _ c.in-Ok.ensures.taken)
    (fronts_at c.args.plan.now _ _ c.in-Ok-plan_of.ensures.taken)

pub returns-in-Ok-validate-clause-only : goal.returns-in-Ok-validate-clause-only
returns-in-Ok-validate-clause-only g c =
    let left = g.F.Files.left in
    let read = subst (λ q. WhereTold (left c.args.files.now) (left c.program_of.new.files) (IsJobRead c.args.job.now q))
    (sym c.in-Ok-accepted.ensures.same) c.in-Ok.ensures.read in
    only_with_plan c.args.job.now c.args.plan.now (program_of c.in-Ok-accepted.checked) _ _ _ read c.in-Ok.ensures.taken c.in-Ok-accepted.ensures.accepted
    c.in-Ok-plan_of.ensures.taken

pub returns-in-Err-validate-clause-fronts : goal.returns-in-Err-validate-clause-fronts
returns-in-Err-validate-clause-fronts g c = fronts_then _ _ _ (fronts_at c.args.job.now _ _ c.in-Ok.ensures.taken)
    (fronts_at c.args.plan.now _ _ c.in-Ok-plan_of.ensures.taken)

pub returns-in-Err-validate-clause-only : goal.returns-in-Err-validate-clause-only
returns-in-Err-validate-clause-only g c =
    let left = g.F.Files.left in
    let read = subst (λ q. WhereTold (left c.args.files.now) (left c.program_of.new.files) (IsJobRead c.args.job.now q))
    (sym c.in-Ok-accepted.ensures.same) c.in-Ok.ensures.read in
    only_with_plan c.args.job.now c.args.plan.now (program_of c.in-Ok-accepted.checked) _ _ _ read c.in-Ok.ensures.taken c.in-Ok-accepted.ensures.accepted
    c.in-Ok-plan_of.ensures.taken

pub returns-in-Ok-validate-clause-ready : goal.returns-in-Ok-validate-clause-ready
returns-in-Ok-validate-clause-ready g c =
    let left = g.F.Files.left in
    let p = program_of c.in-Ok-accepted.checked in
    let nodes = c.in-Ok-plan_of.found.nodes in
    let read = subst (λ q. WhereTold (left c.args.files.now) (left c.program_of.new.files) (IsJobRead c.args.job.now q))
    (sym c.in-Ok-accepted.ensures.same) c.in-Ok.ensures.read in
    let found = subst (λ q. WhereTold (left c.program_of.new.files) (left c.plan_of.new.files) (IsPlanRead q c.args.plan.now nodes)) c.program.ensures
    c.in-Ok-plan_of.ensures.read in
    let valid = subst (λ x. IsValid p x.nodes) c.in-Ok-validate.ensures.plan c.in-Ok-validate.ensures.of.valid in
    is_ready c.args.job.now c.args.plan.now p nodes _ _ _ read c.in-Ok.ensures.taken found c.in-Ok-plan_of.ensures.taken valid

pub returns-in-Ok-validate-clause-nodes : goal.returns-in-Ok-validate-clause-nodes
returns-in-Ok-validate-clause-nodes g c =
    let left = g.F.Files.left in
    let p = program_of c.in-Ok-accepted.checked in
    let nodes = c.in-Ok-plan_of.found.nodes in
    let read = subst (λ q. WhereTold (left c.args.files.now) (left c.program_of.new.files) (IsJobRead c.args.job.now q))
    (sym c.in-Ok-accepted.ensures.same) c.in-Ok.ensures.read in
    let found = subst (λ q. WhereTold (left c.program_of.new.files) (left c.plan_of.new.files) (IsPlanRead q c.args.plan.now nodes)) c.program.ensures
    c.in-Ok-plan_of.ensures.read in
    subst (λ x. WhereTold (left c.args.files.now) (left c.plan_of.new.files) (HasNodes c.args.job.now c.args.plan.now p x.nodes))
    (sym c.in-Ok-validate.ensures.plan)
    (has_nodes c.args.job.now c.args.plan.now p nodes _ _ _ read c.in-Ok.ensures.taken found)

pub returns-in-Err-validate-clause-refused : goal.returns-in-Err-validate-clause-refused
returns-in-Err-validate-clause-refused g c =
    let left = g.F.Files.left in
    let faults = g.F.Files.faults in
    let checked = c.in-Ok-accepted.checked in
    let nodes = c.in-Ok-plan_of.found.nodes in
    let fault = c.in-Err-validate.fault in
    let read = subst (λ q. WhereTold (left c.args.files.now) (left c.program_of.new.files) (IsJobRead c.args.job.now q))
    (sym c.in-Ok-accepted.ensures.same) c.in-Ok.ensures.read in
    let found = subst (λ q. WhereTold (left c.program_of.new.files) (left c.plan_of.new.files) (IsPlanRead q c.args.plan.now nodes)) c.program.ensures
    c.in-Ok-plan_of.ensures.read in
    valid_refusal c.args.job.now c.args.plan.now checked nodes (left c.args.files.now) (left c.program_of.new.files) (left c.plan_of.new.files)
    (faults c.args.files.now) (faults c.plan_of.new.files)
    (refusals.PlanDefect (defects.Invalid checked fault)) read c.in-Ok.ensures.taken c.in-Ok-accepted.ensures.accepted found (
      refl,
      ap (λ x. x.nodes) c.in-Err-validate.ensures.back,
      record {
        refused = λ valid. false≢true (c.in-Err-validate.ensures.valid.1 valid);
        first =
            c.in-Err-validate.ensures.fault;
      },
    )
