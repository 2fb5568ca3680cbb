use Rattle.std.proofs.Common.{refl}
use Rattle.std.proofs.lemmas.Result.{IfErr-weaker}
use Rattle.flu_deps.specs.Checking.{program_of}
use Rattle.flu_deps.specs.Validated.{plan_of}
use Rattle.flu_lemmas.proofs.Named.{fronts_then}
use Rattle.flu_words.specs.Words.{Replay}
use Rattle.flu_top.proofs.AsValid.{replay_reads, ready_as_valid, only_as_valid, refusal_as_valid}
use Rattle.flu_top.proofs.Replays.{replayed, only_replayed, replay_refusal}
use Rattle.flu_top.proofs.replaying.replay_planned.Goals as goal

pub returns-in-Err-clause-refused : goal.returns-in-Err-clause-refused
returns-in-Err-clause-refused g c =
    let job = c.args.job.now in
    let plan = c.args.plan.now in
    let trace = c.args.trace.now in
    refusal_as_valid (Replay job plan trace) job plan _ _ _ _ c.in-Err.refusal (replay_reads job plan trace) c.in-Err.ensures.refused

pub returns-in-Err-clause-only : goal.returns-in-Err-clause-only
returns-in-Err-clause-only g c =
    let job = c.args.job.now in
    let plan = c.args.plan.now in
    let trace = c.args.trace.now in
    only_as_valid (Replay job plan trace) job plan _ _ (replay_reads job plan trace) c.in-Err.ensures.only

pub returns-clause-written : goal.returns-clause-written
returns-clause-written g c =
    let job = c.args.job.now in
    let plan = c.args.plan.now in
    let trace = c.args.trace.now in
    let p = program_of c.in-Ok.planned.checked in
    let left = g.F.Files.left in
    let ready = ready_as_valid (Replay job plan trace) job plan p (left c.args.files.now) (left c.planned_by.new.files)
    (replay_reads job plan trace) refl c.in-Ok.ensures.ready in
    replayed job plan trace p (plan_of c.in-Ok.planned.valid).nodes (left c.args.files.now) (left c.planned_by.new.files)
    (left c.report_of.new.files) c.in-Ok.ensures.accepted ready c.in-Ok.ensures.nodes
    c.report_of.result c.report_of.ensures.replayed c.report_of.ensures.stays

pub returns-clause-refused : goal.returns-clause-refused
returns-clause-refused g c =
    let job = c.args.job.now in
    let plan = c.args.plan.now in
    let trace = c.args.trace.now in
    let p = program_of c.in-Ok.planned.checked in
    let left = g.F.Files.left in
    let faults = g.F.Files.faults in
    let ready = ready_as_valid (Replay job plan trace) job plan p (left c.args.files.now) (left c.planned_by.new.files)
    (replay_reads job plan trace) refl c.in-Ok.ensures.ready in
    IfErr-weaker c.report_of.result _ _
    (λ refusal refused. replay_refusal job plan trace p (plan_of c.in-Ok.planned.valid).nodes (left c.args.files.now) (left c.planned_by.new.files)
    (left c.report_of.new.files) c.in-Ok.ensures.accepted ready c.in-Ok.ensures.nodes
    (faults c.args.files.now) (faults c.planned_by.new.files) (faults c.report_of.new.files) refusal c.in-Ok.ensures.counts refused)
    c.report_of.ensures.refused

pub returns-clause-fronts : goal.returns-clause-fronts
returns-clause-fronts g c = fronts_then _ _ _ c.in-Ok.ensures.fronts c.report_of.ensures.fronts

pub returns-clause-only : goal.returns-clause-only
returns-clause-only g c =
    let job = c.args.job.now in
    let plan = c.args.plan.now in
    let trace = c.args.trace.now in
    let p = program_of c.in-Ok.planned.checked in
    only_replayed job plan trace p _ _ _ c.in-Ok.ensures.accepted (ready_as_valid (Replay job plan trace) job plan p _ _
    (replay_reads job plan trace) refl c.in-Ok.ensures.ready) c.report_of.ensures.only
