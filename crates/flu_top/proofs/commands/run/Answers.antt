use Rattle.std.proofs.Common.{refl, sym, ap, subst, ◌⊎◌}
use Rattle.flu_outside.specs.Outside.{WhereTold}
use Rattle.flu_words.specs.Words.{Command, Fold, Check, Valid, Plan, Simulate, Replay, Demo, plain_command}
use Rattle.flu_lines.specs.declared.refusals.Refusal.TheVariants.{ReadFault}
use Rattle.flu_command.specs.Taking.{TookOnly}
use Rattle.flu_lines.specs.Answer.{code_after}
use Rattle.flu_command.specs.Done.{IsReadName, IsPutAt}
use Rattle.flu_top.specs.Ending.{call}
use Rattle.flu_top.proofs.Demos.{refused_anyhow}
use Rattle.flu_top.proofs.Endings.{ends_text, ends_product, fronts_of_all, not_refused, only_of_command, text_not_refused}
use Rattle.flu_top.proofs.commands.run.Goals as goal

pub returns-in-Fold-clause-ends : goal.returns-in-Fold-clause-ends
returns-in-Fold-clause-ends g c =
    ends_text (call (g.F.Files.left c.args.files.now) (g.F.Files.left c.fold_job.new.files) (g.F.Files.faults c.args.files.now)
    (g.F.Files.faults c.fold_job.new.files) (g.F.Files.put_faults c.args.files.now) (g.F.Files.put_faults c.fold_job.new.files)
    (g.K.Sink.taken c.args.out.now) (g.K.Sink.taken c.put_printed.new.out) (g.K.Sink.faults c.args.out.now) (g.K.Sink.faults c.put_printed.new.out))
    (plain_command c.args.command) (Fold c.in-Fold.job.now) c.fold_job.result c.put_printed.result (ap plain_command c.in-Fold.is)
    (λ e. cc) refl c.fold_job.ensures.written c.fold_job.ensures.refused c.put_printed.ensures.put

pub returns-in-Check-clause-ends : goal.returns-in-Check-clause-ends
returns-in-Check-clause-ends g c =
    ends_text (call (g.F.Files.left c.args.files.now) (g.F.Files.left c.check_job.new.files) (g.F.Files.faults c.args.files.now)
    (g.F.Files.faults c.check_job.new.files) (g.F.Files.put_faults c.args.files.now) (g.F.Files.put_faults c.check_job.new.files)
    (g.K.Sink.taken c.args.out.now) (g.K.Sink.taken c.put_printed-in-Check.new.out) (g.K.Sink.faults c.args.out.now)
    (g.K.Sink.faults c.put_printed-in-Check.new.out))
    (plain_command c.args.command) (Check c.in-Check.job.now) c.check_job.result c.put_printed-in-Check.result (ap plain_command c.in-Check.is)
    (λ e. cc) refl c.check_job.ensures.written c.check_job.ensures.refused c.put_printed-in-Check.ensures.put

pub returns-in-Valid-clause-ends : goal.returns-in-Valid-clause-ends
returns-in-Valid-clause-ends g c =
    ends_text (call (g.F.Files.left c.args.files.now) (g.F.Files.left c.valid_plan.new.files) (g.F.Files.faults c.args.files.now)
    (g.F.Files.faults c.valid_plan.new.files) (g.F.Files.put_faults c.args.files.now) (g.F.Files.put_faults c.valid_plan.new.files)
    (g.K.Sink.taken c.args.out.now) (g.K.Sink.taken c.put_text.new.out) (g.K.Sink.faults c.args.out.now)
    (g.K.Sink.faults c.put_text.new.out))
    (plain_command c.args.command) (Valid c.in-Valid.job.now c.in-Valid.plan.now) c.valid_plan.result c.put_text.result
    (ap plain_command c.in-Valid.is) (λ e. cc) refl c.valid_plan.ensures.written c.valid_plan.ensures.refused c.put_text.ensures.put

pub returns-in-Plan-clause-ends : goal.returns-in-Plan-clause-ends
returns-in-Plan-clause-ends g c =
    ends_text (call (g.F.Files.left c.args.files.now) (g.F.Files.left c.plan_job.new.files) (g.F.Files.faults c.args.files.now)
    (g.F.Files.faults c.plan_job.new.files) (g.F.Files.put_faults c.args.files.now) (g.F.Files.put_faults c.plan_job.new.files)
    (g.K.Sink.taken c.args.out.now) (g.K.Sink.taken c.put_text-in-Plan.new.out) (g.K.Sink.faults c.args.out.now)
    (g.K.Sink.faults c.put_text-in-Plan.new.out))
    (plain_command c.args.command) (Plan c.in-Plan.job.now c.in-Plan.depth.levels) c.plan_job.result c.put_text-in-Plan.result
    (ap plain_command c.in-Plan.is) (λ e. cc) refl c.plan_job.ensures.written c.plan_job.ensures.refused c.put_text-in-Plan.ensures.put

pub returns-in-Simulate-clause-ends : goal.returns-in-Simulate-clause-ends
returns-in-Simulate-clause-ends g c =
    ends_product (call (g.F.Files.left c.args.files.now) (g.F.Files.left c.simulate_planned.new.files) (g.F.Files.faults c.args.files.now)
    (g.F.Files.faults c.simulate_planned.new.files) (g.F.Files.put_faults c.args.files.now) (g.F.Files.put_faults c.simulate_planned.new.files)
    (g.K.Sink.taken c.args.out.now) (g.K.Sink.taken c.put.new.out) (g.K.Sink.faults c.args.out.now) (g.K.Sink.faults c.put.new.out))
    (plain_command c.args.command) (Simulate c.in-Simulate.job.now c.in-Simulate.plan.now c.in-Simulate.seed.number c.in-Simulate.trace)
    c.simulate_planned.result c.put.result (ap plain_command c.in-Simulate.is) (λ e. cc)
    c.simulate_planned.ensures.written c.simulate_planned.ensures.says c.simulate_planned.ensures.refused c.put.ensures.put

pub returns-in-Replay-clause-ends : goal.returns-in-Replay-clause-ends
returns-in-Replay-clause-ends g c =
    ends_text (call (g.F.Files.left c.args.files.now) (g.F.Files.left c.replay_planned.new.files) (g.F.Files.faults c.args.files.now)
    (g.F.Files.faults c.replay_planned.new.files) (g.F.Files.put_faults c.args.files.now) (g.F.Files.put_faults c.replay_planned.new.files)
    (g.K.Sink.taken c.args.out.now) (g.K.Sink.taken c.put_text-in-Replay.new.out) (g.K.Sink.faults c.args.out.now)
    (g.K.Sink.faults c.put_text-in-Replay.new.out))
    (plain_command c.args.command) (Replay c.in-Replay.job.now c.in-Replay.plan.now c.in-Replay.trace.now) c.replay_planned.result
    c.put_text-in-Replay.result (ap plain_command c.in-Replay.is) (λ e. cc) refl c.replay_planned.ensures.written c.replay_planned.ensures.refused
    c.put_text-in-Replay.ensures.put

pub returns-in-Demo-clause-ends : goal.returns-in-Demo-clause-ends
returns-in-Demo-clause-ends g c =
    ends_product (call (g.F.Files.left c.args.files.now) (g.F.Files.left c.args.files.now) (g.F.Files.faults c.args.files.now)
    (g.F.Files.faults c.args.files.now) (g.F.Files.put_faults c.args.files.now) (g.F.Files.put_faults c.args.files.now) (g.K.Sink.taken c.args.out.now)
    (g.K.Sink.taken c.put-in-Demo.new.out) (g.K.Sink.faults c.args.out.now) (g.K.Sink.faults c.put-in-Demo.new.out))
    (plain_command c.args.command) (Demo c.in-Demo.n.count c.in-Demo.seed.number) c.demo.result c.put-in-Demo.result (ap plain_command c.in-Demo.is)
    (λ e. cc) c.demo.ensures.written c.demo.ensures.says
    (refused_anyhow c.in-Demo.n.count c.in-Demo.seed.number c.demo.result _ _ _ _ c.demo.ensures.refused) c.put-in-Demo.ensures.put

pub returns-in-Fold-clause-fronts : goal.returns-in-Fold-clause-fronts
returns-in-Fold-clause-fronts g c = fronts_of_all _ _ _ c.fold_job.ensures.fronts

pub returns-in-Fold-clause-only : goal.returns-in-Fold-clause-only
returns-in-Fold-clause-only g c = only_of_command (plain_command c.args.command) (Fold c.in-Fold.job.now) _ _ _
    (ap plain_command c.in-Fold.is) c.fold_job.ensures.only

pub returns-in-Check-clause-fronts : goal.returns-in-Check-clause-fronts
returns-in-Check-clause-fronts g c = fronts_of_all _ _ _ c.check_job.ensures.fronts

pub returns-in-Check-clause-only : goal.returns-in-Check-clause-only
returns-in-Check-clause-only g c = only_of_command (plain_command c.args.command) (Check c.in-Check.job.now) _ _ _
    (ap plain_command c.in-Check.is) c.check_job.ensures.only

pub returns-in-Valid-clause-fronts : goal.returns-in-Valid-clause-fronts
returns-in-Valid-clause-fronts g c = fronts_of_all _ _ _ c.valid_plan.ensures.fronts

pub returns-in-Valid-clause-only : goal.returns-in-Valid-clause-only
returns-in-Valid-clause-only g c = only_of_command (plain_command c.args.command) (Valid c.in-Valid.job.now c.in-Valid.plan.now) _ _ _
    (ap plain_command c.in-Valid.is) c.valid_plan.ensures.only

pub returns-in-Plan-clause-fronts : goal.returns-in-Plan-clause-fronts
returns-in-Plan-clause-fronts g c = fronts_of_all _ _ _ c.plan_job.ensures.fronts

pub returns-in-Plan-clause-only : goal.returns-in-Plan-clause-only
returns-in-Plan-clause-only g c = only_of_command (plain_command c.args.command) (Plan c.in-Plan.job.now c.in-Plan.depth.levels) _ _ _
    (ap plain_command c.in-Plan.is) c.plan_job.ensures.only

pub returns-in-Simulate-clause-fronts : goal.returns-in-Simulate-clause-fronts
returns-in-Simulate-clause-fronts g c = fronts_of_all _ _ _ c.simulate_planned.ensures.fronts

pub returns-in-Simulate-clause-only : goal.returns-in-Simulate-clause-only
returns-in-Simulate-clause-only g c = only_of_command (plain_command c.args.command)
    (Simulate c.in-Simulate.job.now c.in-Simulate.plan.now c.in-Simulate.seed.number c.in-Simulate.trace) _ _ _
    (ap plain_command c.in-Simulate.is) c.simulate_planned.ensures.only

pub returns-in-Replay-clause-fronts : goal.returns-in-Replay-clause-fronts
returns-in-Replay-clause-fronts g c = fronts_of_all _ _ _ c.replay_planned.ensures.fronts

pub returns-in-Replay-clause-only : goal.returns-in-Replay-clause-only
returns-in-Replay-clause-only g c = only_of_command (plain_command c.args.command)
    (Replay c.in-Replay.job.now c.in-Replay.plan.now c.in-Replay.trace.now) _ _ _ (ap plain_command c.in-Replay.is) c.replay_planned.ensures.only

pub returns-in-Run-clause-only : goal.returns-in-Run-clause-only
returns-in-Run-clause-only g c =
    let left = g.F.Files.left c.args.files.now in
    subst (λ (d : Command). WhereTold left (g.F.Files.left c.run_job.new.files)
    (TookOnly (λ name. IsReadName left d name ⊎ IsPutAt d (code_after c.run_job.result) name))) (sym (ap plain_command c.in-Run.is))
    c.run_job.ensures.only

pub returns-in-Fold-clause-quiet : goal.returns-in-Fold-clause-quiet
returns-in-Fold-clause-quiet g c = λ other. c.fold_job.ensures.quiet
    (text_not_refused c.fold_job.result (g.K.Sink.taken c.args.out.now) (g.K.Sink.taken c.put_printed.new.out)
    (g.K.Sink.faults c.args.out.now) (g.K.Sink.faults c.put_printed.new.out) c.put_printed.result ReadFault c.put_printed.ensures.put other)

pub returns-in-Check-clause-quiet : goal.returns-in-Check-clause-quiet
returns-in-Check-clause-quiet g c = λ other. c.check_job.ensures.quiet
    (text_not_refused c.check_job.result (g.K.Sink.taken c.args.out.now) (g.K.Sink.taken c.put_printed-in-Check.new.out)
    (g.K.Sink.faults c.args.out.now) (g.K.Sink.faults c.put_printed-in-Check.new.out) c.put_printed-in-Check.result ReadFault c.put_printed-in-Check.ensures.put other)

pub returns-in-Valid-clause-quiet : goal.returns-in-Valid-clause-quiet
returns-in-Valid-clause-quiet g c = λ other. c.valid_plan.ensures.quiet
    (text_not_refused c.valid_plan.result (g.K.Sink.taken c.args.out.now) (g.K.Sink.taken c.put_text.new.out)
    (g.K.Sink.faults c.args.out.now) (g.K.Sink.faults c.put_text.new.out) c.put_text.result ReadFault c.put_text.ensures.put other)

pub returns-in-Plan-clause-quiet : goal.returns-in-Plan-clause-quiet
returns-in-Plan-clause-quiet g c = λ other. c.plan_job.ensures.quiet
    (text_not_refused c.plan_job.result (g.K.Sink.taken c.args.out.now) (g.K.Sink.taken c.put_text-in-Plan.new.out)
    (g.K.Sink.faults c.args.out.now) (g.K.Sink.faults c.put_text-in-Plan.new.out) c.put_text-in-Plan.result ReadFault c.put_text-in-Plan.ensures.put other)

pub returns-in-Simulate-clause-quiet : goal.returns-in-Simulate-clause-quiet
returns-in-Simulate-clause-quiet g c = λ other. c.simulate_planned.ensures.quiet (not_refused c.simulate_planned.result (g.K.Sink.taken c.args.out.now) (g.K.Sink.taken c.put.new.out)
    (g.K.Sink.faults c.args.out.now) (g.K.Sink.faults c.put.new.out) c.put.result ReadFault c.put.ensures.put other)

pub returns-in-Replay-clause-quiet : goal.returns-in-Replay-clause-quiet
returns-in-Replay-clause-quiet g c = λ other. c.replay_planned.ensures.quiet
    (text_not_refused c.replay_planned.result (g.K.Sink.taken c.args.out.now) (g.K.Sink.taken c.put_text-in-Replay.new.out)
    (g.K.Sink.faults c.args.out.now) (g.K.Sink.faults c.put_text-in-Replay.new.out) c.put_text-in-Replay.result ReadFault c.put_text-in-Replay.ensures.put other)
