use Rattle.std.proofs.Common.{ap, ◌∙◌, Err}
use Rattle.std.proofs.lemmas.Result.{err_from_is_err_and}
use Rattle.flu_model.specs.Listed.{listed}
use Rattle.flu_cells.specs.Holding.{held}
use Rattle.flu_deps.specs.Checking.{program_of}
use Rattle.flu_deps.specs.Validated.{plan_of}
use Rattle.flu_lemmas.proofs.Named.{none_taken}
use Rattle.flu_trace.specs.Replaying.{Complete, ending_of}
use Rattle.flu_lines.specs.Answer.{refusal_of_replay}
use Rattle.flu_top.specs.Replays.{IsNetRefusal}
use Rattle.flu_top.proofs.Jobs.{if_err_at}
use Rattle.flu_top.proofs.Replays.{on_net, told_on_net, net_refusal, as_refused}
use Rattle.flu_top.proofs.RunReports.{run_report}
use Rattle.flu_top.proofs.Simulations.{case_from_nothing}
use Rattle.flu_top.proofs.replaying.net_report.Goals as goal

pub returns-in_err-case-clause-taken : goal.returns-in_err-case-clause-taken
returns-in_err-case-clause-taken g c = none_taken c.args.trace.now _

pub returns-in_err-outs-clause-refused : goal.returns-in_err-outs-clause-refused
returns-in_err-outs-clause-refused g c =
    let left = g.F.Files.left in
    let faults = g.F.Files.faults in
    let p = program_of c.args.planned.now.checked in
    let nodes = (plan_of c.args.planned.now.valid).nodes in
    let lists = listed c.args.streams.now in
    let trace = c.args.trace.now in
    let k = c.in_ok-case.case in
    let fault = c.in_err-outs.field-0.0 in
    if_err_at (IsNetRefusal p nodes lists trace (left c.args.files.now) (left c.replay.new.files) (faults c.args.files.now) (faults c.replay.new.files))
    c.from_residual-in_err-outs.result (refusal_of_replay fault)
    (err_from_is_err_and c.from_residual-in_err-outs.result c.from_residual-in_err-outs.ensures.1)
    (net_refusal p nodes lists trace (left c.args.files.now) (left c.replay.new.files) (faults c.args.files.now) (faults c.replay.new.files) fault
    (told_on_net p nodes lists trace k (left c.args.files.now) (left c.replay.new.files) (ending_of fault)
    (case_from_nothing c.args.planned.now.checked c.args.planned.now.valid c.args.streams.now k c.in_ok-case.ensures.checked c.in_ok-case.ensures.valid
    c.in_ok-case.ensures.streams
    (ap held c.in_ok-case.ensures.opening ∙ c.new.ensures)) c.in_err-outs.ensures.faults)
    (λ same. c.in_err-outs.ensures.cause (ap Err same)))

pub returns-clause-report : goal.returns-clause-report
returns-clause-report g c =
    run_report (program_of c.args.planned.now.checked) c.program-program.result.now c.in_ok-case.case c.args.streams.now c.in_ok-outs.outs c.in_ok-text.text
    (ap program_of c.in_ok-case.ensures.checked)
    c.program-program.ensures (ap held c.in_ok-case.ensures.opening ∙ c.new.ensures) c.in_ok-case.ensures.streams c.in_ok-outs.ensures.outputs
    c.in_ok-text.ensures.order

pub returns-clause-complete : goal.returns-clause-complete
returns-clause-complete g c =
    on_net (program_of c.args.planned.now.checked) (plan_of c.args.planned.now.valid).nodes
    (listed c.args.streams.now) c.args.trace.now c.in_ok-case.case _ _ Complete
    (case_from_nothing c.args.planned.now.checked c.args.planned.now.valid c.args.streams.now c.in_ok-case.case c.in_ok-case.ensures.checked
    c.in_ok-case.ensures.valid c.in_ok-case.ensures.streams
    (ap held c.in_ok-case.ensures.opening ∙ c.new.ensures)) c.in_ok-outs.ensures.complete

pub returns-in_err-outs-clause-quiet : goal.returns-in_err-outs-clause-quiet
returns-in_err-outs-clause-quiet g c =
    let answer = err_from_is_err_and c.from_residual-in_err-outs.result c.from_residual-in_err-outs.ensures.1 in
    λ no. c.in_err-outs.ensures.quiet (λ e. no (answer.1 ∙ ap Err answer.2 ∙ ap as_refused e))
