use Rattle.std.proofs.Common.{refl, sym, ap, ◌∙◌, subst, None, Err}
use Rattle.flu_adaptive.specs.Notes.{AdaptiveNote}
use Rattle.flu_deps.specs.Checking.{program_of}
use Rattle.flu_model.specs.declared.jobs.Program.{Program}
use Rattle.flu_rounds.specs.Halves.{AppendsReport, AppendsPartOfReport}
use Rattle.flu_top.specs.Running.{SaysCounts}
use Rattle.flu_top.proofs.Beside.{IsDone, ends_ahead, no_name, not_run, not_written, within_none}
use Rattle.flu_top.proofs.Roundings.{laws_of}
use Rattle.flu_top.proofs.ahead.last_round.Goals as goal

pub returns-in_default-clause-ends : goal.returns-in_default-clause-ends
returns-in_default-clause-ends g c adapts p o a k s had x closed has =
    let left = g.F.Files.left in
    let counts = g.F.Files.faults in
    let puts = g.F.Files.put_faults in
    let taken = g.K.Sink.taken in
    let count = g.K.Sink.faults in
    let laws = laws_of c.resumed_runs_go_on.ensures.going_on c.resumed_runs_write_the_fold.ensures.state
    c.resumed_runs_write_the_fold.ensures.next_with_state c.resumed_runs_write_the_fold.ensures.last
    c.resumed_runs_write_the_fold.ensures.defect c.resumed_runs_write_the_fold.ensures.defect_with_state c.other_names_leave_runs_alone.ensures
    c.rounds_are_counted_in_turn.ensures.one_more c.runs_count_their_events.ensures.last o in
    not_run adapts p c.args.engine.now o a (left c.args.files.now) k (counts c.args.files.now) s (puts c.args.files.now) had (taken c.args.out.now) x
    (count c.args.out.now) c.args.rounds.now c.args.begun has laws (left c.args.files.now) (counts c.args.files.now)
    (puts c.args.files.now) c.args.rounds.now has.stands.program
    (within_none c.args.rounds.now (left c.args.files.now) (counts c.args.files.now) (puts c.args.files.now))

pub returns-in_default-said_behind-clause-ends : goal.returns-in_default-said_behind-clause-ends
returns-in_default-said_behind-clause-ends g c adapts p o a k s had x closed has =
    let left = g.F.Files.left in
    let counts = g.F.Files.faults in
    let puts = g.F.Files.put_faults in
    let taken = g.K.Sink.taken in
    let count = g.K.Sink.faults in
    let laws = laws_of c.resumed_runs_go_on.ensures.going_on c.resumed_runs_write_the_fold.ensures.state
    c.resumed_runs_write_the_fold.ensures.next_with_state c.resumed_runs_write_the_fold.ensures.last
    c.resumed_runs_write_the_fold.ensures.defect c.resumed_runs_write_the_fold.ensures.defect_with_state c.other_names_leave_runs_alone.ensures
    c.rounds_are_counted_in_turn.ensures.one_more c.runs_count_their_events.ensures.last o in
    not_run adapts p c.args.engine.now o a (left c.args.files.now) k (counts c.args.files.now) s (puts c.args.files.now) had (taken c.args.out.now) x
    (count c.args.out.now) c.args.rounds.now c.args.begun has laws (left c.args.files.now) (counts c.args.files.now)
    (puts c.args.files.now) c.args.rounds.now has.stands.program
    (within_none c.args.rounds.now (left c.args.files.now) (counts c.args.files.now) (puts c.args.files.now))

pub returns-in-Ok-finish-clause-ends : goal.returns-in-Ok-finish-clause-ends
returns-in-Ok-finish-clause-ends g c adapts p o a k s had x closed has =
    let left = g.F.Files.left in
    let counts = g.F.Files.faults in
    let puts = g.F.Files.put_faults in
    let taken = g.K.Sink.taken in
    let count = g.K.Sink.faults in
    let laws = laws_of c.resumed_runs_go_on.ensures.going_on c.resumed_runs_write_the_fold.ensures.state
    c.resumed_runs_write_the_fold.ensures.next_with_state c.resumed_runs_write_the_fold.ensures.last
    c.resumed_runs_write_the_fold.ensures.defect c.resumed_runs_write_the_fold.ensures.defect_with_state c.other_names_leave_runs_alone.ensures
    c.rounds_are_counted_in_turn.ensures.one_more c.runs_count_their_events.ensures.last o in
    let ran : IsDone c.args.engine.now c.batch.new.self c.args.begun c.in-Ok.state c.in-Ok.outs = record {
      folded = c.in-Ok.ensures.state;
      outputs = c.in-Ok.ensures.outputs;
      counts = c.in-Ok.ensures.counts;
      engine = c.in-Ok.ensures.same;
      adapting = c.in-Ok.ensures.adapts;
    } in
    ends_ahead adapts p c.args.engine.now o a (left c.args.files.now) k (counts c.args.files.now) s (puts c.args.files.now) had (taken c.args.out.now) x
    (count c.args.out.now) c.args.rounds.now c.args.begun has c.batch.new.self c.in-Ok.state c.in-Ok.outs ran
    c.finish.new.self.state c.in-Ok-finish.ensures.state (taken c.finish.new.out) (count c.finish.new.out)
    (subst (λ (q : Program). AppendsReport q c.in-Ok.outs (taken c.args.out.now) (taken c.finish.new.out))
    (c.program-program.ensures ∙ ap program_of c.checked.ensures) c.in-Ok-finish.ensures.written)
    (c.in-Ok-finish.ensures.quiet (λ e. cc)) laws closed c.in-Ok-said_behind.says (c.in-Ok-said_behind.ensures closed)

pub returns-clause-ends : goal.returns-clause-ends
returns-clause-ends g c adapts p o a k s had x closed has =
    let left = g.F.Files.left in
    let counts = g.F.Files.faults in
    let puts = g.F.Files.put_faults in
    let taken = g.K.Sink.taken in
    let count = g.K.Sink.faults in
    let laws = laws_of c.resumed_runs_go_on.ensures.going_on c.resumed_runs_write_the_fold.ensures.state
    c.resumed_runs_write_the_fold.ensures.next_with_state c.resumed_runs_write_the_fold.ensures.last
    c.resumed_runs_write_the_fold.ensures.defect c.resumed_runs_write_the_fold.ensures.defect_with_state c.other_names_leave_runs_alone.ensures
    c.rounds_are_counted_in_turn.ensures.one_more c.runs_count_their_events.ensures.last o in
    let ran : IsDone c.args.engine.now c.batch.new.self c.args.begun c.in-Ok.state c.in-Ok.outs = record {
      folded = c.in-Ok.ensures.state;
      outputs = c.in-Ok.ensures.outputs;
      counts = c.in-Ok.ensures.counts;
      engine = c.in-Ok.ensures.same;
      adapting = c.in-Ok.ensures.adapts;
    } in
    not_written adapts p c.args.engine.now o a (left c.args.files.now) k (counts c.args.files.now) s (puts c.args.files.now) had (taken c.args.out.now) x
    (count c.args.out.now) c.args.rounds.now c.args.begun has laws (left c.args.files.now) (counts c.args.files.now)
    (puts c.args.files.now) c.args.rounds.now has.stands.program
    (within_none c.args.rounds.now (left c.args.files.now) (counts c.args.files.now) (puts c.args.files.now)) c.halves_make_a_round.ensures.part
    c.batch.new.self c.in-Ok.state c.in-Ok.outs ran (taken c.finish.new.out) (count c.finish.new.out) c.in-Err.fault c.in-Err.ensures.causes
    c.in-Err.ensures.nothing
    (λ is. subst (λ (q : Program). AppendsPartOfReport q c.in-Ok.outs (taken c.args.out.now) (taken c.finish.new.out))
    (c.program-program.ensures ∙ ap program_of c.checked.ensures) (c.in-Err.ensures.part (ap Err is)))
    (λ is. c.in-Err.ensures.failed (ap Err is))
