use Rattle.std.proofs.Common.{◌≡◌, refl, sym, ap, ◌∙◌, subst, None, Err}
use Rattle.flu_deps.specs.Checking.{program_of}
use Rattle.flu_model.specs.declared.jobs.Program.{Program}
use Rattle.flu_rounds.specs.declared.faults.RoundsFault.TheVariants.{NoMemory, ReadFault}
use Rattle.flu_rounds.specs.Halves.{AppendsReport, AppendsPartOfReport}
use Rattle.flu_top.proofs.Beside.{IsDone, err_of, filled_of, next_begun, not_next, not_read, not_run, not_written, ok_of, on_ok_of}
use Rattle.flu_top.proofs.Roundings.{laws_of}
use Rattle.flu_top.proofs.ahead.next_round.Goals as goal

pub returns-in-Err-ReadFault-clause-steps : goal.returns-in-Err-ReadFault-clause-steps
returns-in-Err-ReadFault-clause-steps g c adapts p o a k s had x t at has =
    let left = g.F.Files.left in
    let counts = g.F.Files.faults in
    let puts = g.F.Files.put_faults in
    let taken = g.K.Sink.taken in
    let count = g.K.Sink.faults in
    let laws = laws_of c.resumed_runs_go_on.ensures.going_on c.resumed_runs_write_the_fold.ensures.state
    c.resumed_runs_write_the_fold.ensures.next_with_state c.resumed_runs_write_the_fold.ensures.last
    c.resumed_runs_write_the_fold.ensures.defect c.resumed_runs_write_the_fold.ensures.defect_with_state c.other_names_leave_runs_alone.ensures
    c.rounds_are_counted_in_turn.ensures.one_more c.runs_count_their_events.ensures.last o in
    let failed : c.both-ran.result.1 ≡ Err c.in-Err-ReadFault.field-0 = c.in-Err-ReadFault.is in
    let is : c.in-Err-ReadFault.field-0 ≡ ReadFault = rw failed at c.in-Err-ReadFault.field-0-is in
    not_read adapts p c.args.engine.now o a (left c.args.files.now) k (counts c.args.files.now) s (puts c.args.files.now) had (taken c.args.out.now) x
    (count c.args.out.now) c.args.rounds.now c.args.begun has laws (left c.both-ran.new.files) (counts c.both-ran.new.files)
    (puts c.both-ran.new.files) c.args.rounds.now has.stands.program c.both-ran.ensures.filled.within t at
    (c.both-ran.ensures.filled.hides (failed ∙ ap Err is))

pub returns-in_default-ran-clause-steps : goal.returns-in_default-ran-clause-steps
returns-in_default-ran-clause-steps g c adapts p o a k s had x t at has =
    let left = g.F.Files.left in
    let counts = g.F.Files.faults in
    let puts = g.F.Files.put_faults in
    let taken = g.K.Sink.taken in
    let count = g.K.Sink.faults in
    let laws = laws_of c.resumed_runs_go_on.ensures.going_on c.resumed_runs_write_the_fold.ensures.state
    c.resumed_runs_write_the_fold.ensures.next_with_state c.resumed_runs_write_the_fold.ensures.last
    c.resumed_runs_write_the_fold.ensures.defect c.resumed_runs_write_the_fold.ensures.defect_with_state c.other_names_leave_runs_alone.ensures
    c.rounds_are_counted_in_turn.ensures.one_more c.runs_count_their_events.ensures.last o in
    not_run adapts p c.args.engine.now o a (left c.args.files.now) k (counts c.args.files.now) s (puts c.args.files.now) had (taken c.args.out.now) x
    (count c.args.out.now) c.args.rounds.now c.args.begun has laws (left c.both-ran.new.files) (counts c.both-ran.new.files)
    (puts c.both-ran.new.files) c.args.rounds.now has.stands.program c.both-ran.ensures.filled.within

pub returns-in-Err-clause-steps : goal.returns-in-Err-clause-steps
returns-in-Err-clause-steps g c adapts p o a k s had x t at has =
    let left = g.F.Files.left in
    let counts = g.F.Files.faults in
    let puts = g.F.Files.put_faults in
    let taken = g.K.Sink.taken in
    let count = g.K.Sink.faults in
    let laws = laws_of c.resumed_runs_go_on.ensures.going_on c.resumed_runs_write_the_fold.ensures.state
    c.resumed_runs_write_the_fold.ensures.next_with_state c.resumed_runs_write_the_fold.ensures.last
    c.resumed_runs_write_the_fold.ensures.defect c.resumed_runs_write_the_fold.ensures.defect_with_state c.other_names_leave_runs_alone.ensures
    c.rounds_are_counted_in_turn.ensures.one_more c.runs_count_their_events.ensures.last o in
    let ran : IsDone c.args.engine.now c.both-ran.new.engine c.args.begun c.in-Ok.state c.in-Ok.outs = record {
      folded = ok_of _ _ _ c.in-Ok.is c.both-ran.ensures.state;
      outputs = ok_of _ _ _ c.in-Ok.is c.both-ran.ensures.outputs;
      counts = on_ok_of _ _ _ c.in-Ok.is c.both-ran.ensures.counts;
      engine = c.both-ran.ensures.engine;
      adapting = c.both-ran.ensures.adapts;
    } in
    let of_engine = c.program-program.ensures ∙ ap program_of c.checked.ensures in
    not_written adapts p c.args.engine.now o a (left c.args.files.now) k (counts c.args.files.now) s (puts c.args.files.now) had (taken c.args.out.now) x
    (count c.args.out.now) c.args.rounds.now c.args.begun has laws (left c.both-ran.new.files) (counts c.both-ran.new.files)
    (puts c.both-ran.new.files) c.args.rounds.now has.stands.program c.both-ran.ensures.filled.within
    c.halves_make_a_round.ensures.part c.both-ran.new.engine c.in-Ok.state c.in-Ok.outs ran (taken c.finish.new.out) (count c.finish.new.out)
    c.in-Err.fault c.in-Err.ensures.causes c.in-Err.ensures.nothing
    (λ is. subst (λ (q : Program). AppendsPartOfReport q c.in-Ok.outs (taken c.args.out.now) (taken c.finish.new.out)) of_engine
    (c.in-Err.ensures.part (ap Err is)))
    (λ is. c.in-Err.ensures.failed (ap Err is))

pub returns-in-Err-filled-clause-steps : goal.returns-in-Err-filled-clause-steps
returns-in-Err-filled-clause-steps g c adapts p o a k s had x t at has =
    let left = g.F.Files.left in
    let counts = g.F.Files.faults in
    let puts = g.F.Files.put_faults in
    let taken = g.K.Sink.taken in
    let count = g.K.Sink.faults in
    let laws = laws_of c.resumed_runs_go_on.ensures.going_on c.resumed_runs_write_the_fold.ensures.state
    c.resumed_runs_write_the_fold.ensures.next_with_state c.resumed_runs_write_the_fold.ensures.last
    c.resumed_runs_write_the_fold.ensures.defect c.resumed_runs_write_the_fold.ensures.defect_with_state c.other_names_leave_runs_alone.ensures
    c.rounds_are_counted_in_turn.ensures.one_more c.runs_count_their_events.ensures.last o in
    let ran : IsDone c.args.engine.now c.both-ran.new.engine c.args.begun c.in-Ok.state c.in-Ok.outs = record {
      folded = ok_of _ _ _ c.in-Ok.is c.both-ran.ensures.state;
      outputs = ok_of _ _ _ c.in-Ok.is c.both-ran.ensures.outputs;
      counts = on_ok_of _ _ _ c.in-Ok.is c.both-ran.ensures.counts;
      engine = c.both-ran.ensures.engine;
      adapting = c.both-ran.ensures.adapts;
    } in
    let of_engine = c.program-program.ensures ∙ ap program_of c.checked.ensures in
    not_next adapts p c.args.engine.now o a (left c.args.files.now) k (counts c.args.files.now) s (puts c.args.files.now) had (taken c.args.out.now) x
    (count c.args.out.now) c.args.rounds.now c.args.begun has c.both-ran.new.engine c.in-Ok.state c.in-Ok.outs ran
    c.finish.new.self.state c.in_default-finish.ensures.state (taken c.finish.new.out) (count c.finish.new.out)
    (subst (λ (q : Program). AppendsReport q c.in-Ok.outs (taken c.args.out.now) (taken c.finish.new.out)) of_engine
    c.in_default-finish.ensures.written)
    (c.in_default-finish.ensures.quiet (λ e. cc)) laws t at (left c.both-ran.new.files)
    (counts c.both-ran.new.files) (puts c.both-ran.new.files) c.both-ran.ensures.filled.within c.in-Err-filled.fault
    (err_of _ _ _ c.in-Err-filled.is c.both-ran.ensures.filled.fault)
    (λ e. c.both-ran.ensures.filled.unwritten (c.in-Err-filled.is ∙ ap Err e))
    (λ e. c.both-ran.ensures.filled.hides (c.in-Err-filled.is ∙ ap Err e))

pub returns-in-Ok-hand_out-clause-steps : goal.returns-in-Ok-hand_out-clause-steps
returns-in-Ok-hand_out-clause-steps g c adapts p o a k s had x t at has =
    let left = g.F.Files.left in
    let counts = g.F.Files.faults in
    let puts = g.F.Files.put_faults in
    let taken = g.K.Sink.taken in
    let count = g.K.Sink.faults in
    let laws = laws_of c.resumed_runs_go_on.ensures.going_on c.resumed_runs_write_the_fold.ensures.state
    c.resumed_runs_write_the_fold.ensures.next_with_state c.resumed_runs_write_the_fold.ensures.last
    c.resumed_runs_write_the_fold.ensures.defect c.resumed_runs_write_the_fold.ensures.defect_with_state c.other_names_leave_runs_alone.ensures
    c.rounds_are_counted_in_turn.ensures.one_more c.runs_count_their_events.ensures.last o in
    let ran : IsDone c.args.engine.now c.both-ran.new.engine c.args.begun c.in-Ok.state c.in-Ok.outs = record {
      folded = ok_of _ _ _ c.in-Ok.is c.both-ran.ensures.state;
      outputs = ok_of _ _ _ c.in-Ok.is c.both-ran.ensures.outputs;
      counts = on_ok_of _ _ _ c.in-Ok.is c.both-ran.ensures.counts;
      engine = c.both-ran.ensures.engine;
      adapting = c.both-ran.ensures.adapts;
    } in
    let of_engine = c.program-program.ensures ∙ ap program_of c.checked.ensures in
    next_begun adapts p c.args.engine.now o a (left c.args.files.now) k (counts c.args.files.now) s (puts c.args.files.now) had (taken c.args.out.now) x
    (count c.args.out.now) c.args.rounds.now c.args.begun has c.both-ran.new.engine c.in-Ok.state c.in-Ok.outs ran
    c.finish.new.self.state c.in_default-finish.ensures.state (taken c.finish.new.out) (count c.finish.new.out)
    (subst (λ (q : Program). AppendsReport q c.in-Ok.outs (taken c.args.out.now) (taken c.finish.new.out)) of_engine
    c.in_default-finish.ensures.written)
    (c.in_default-finish.ensures.quiet (λ e. cc)) laws c.parts_make_a_half.ensures t at
    (left c.both-ran.new.files) (counts c.both-ran.new.files) (puts c.both-ran.new.files) c.both-ran.new.rounds c.hand_out.new.self
    c.finish.new.self.held c.in-Ok-filled.border c.in-Ok-hand_out.next
    (filled_of _ _ _ _ _ c.in-Ok-filled.is c.both-ran.ensures.filled) c.finish.ensures.held c.program-program.result.now
    (sym (of_engine ∙ c.requires.program)) (of_engine ∙ has.goes.engine) c.in-Ok-hand_out.ensures.border c.in-Ok-hand_out.ensures.opening
    c.in-Ok-hand_out.ensures.lists c.in-Ok-hand_out.ensures.cut c.in-Ok-hand_out.ensures.itags c.in-Ok-hand_out.ensures.sorts

pub returns-clause-steps : goal.returns-clause-steps
returns-clause-steps g c adapts p o a k s had x t at has =
    let left = g.F.Files.left in
    let counts = g.F.Files.faults in
    let puts = g.F.Files.put_faults in
    let taken = g.K.Sink.taken in
    let count = g.K.Sink.faults in
    let laws = laws_of c.resumed_runs_go_on.ensures.going_on c.resumed_runs_write_the_fold.ensures.state
    c.resumed_runs_write_the_fold.ensures.next_with_state c.resumed_runs_write_the_fold.ensures.last
    c.resumed_runs_write_the_fold.ensures.defect c.resumed_runs_write_the_fold.ensures.defect_with_state c.other_names_leave_runs_alone.ensures
    c.rounds_are_counted_in_turn.ensures.one_more c.runs_count_their_events.ensures.last o in
    let ran : IsDone c.args.engine.now c.both-ran.new.engine c.args.begun c.in-Ok.state c.in-Ok.outs = record {
      folded = ok_of _ _ _ c.in-Ok.is c.both-ran.ensures.state;
      outputs = ok_of _ _ _ c.in-Ok.is c.both-ran.ensures.outputs;
      counts = on_ok_of _ _ _ c.in-Ok.is c.both-ran.ensures.counts;
      engine = c.both-ran.ensures.engine;
      adapting = c.both-ran.ensures.adapts;
    } in
    let of_engine = c.program-program.ensures ∙ ap program_of c.checked.ensures in
    not_next adapts p c.args.engine.now o a (left c.args.files.now) k (counts c.args.files.now) s (puts c.args.files.now) had (taken c.args.out.now) x
    (count c.args.out.now) c.args.rounds.now c.args.begun has c.both-ran.new.engine c.in-Ok.state c.in-Ok.outs ran
    c.finish.new.self.state c.in_default-finish.ensures.state (taken c.finish.new.out) (count c.finish.new.out)
    (subst (λ (q : Program). AppendsReport q c.in-Ok.outs (taken c.args.out.now) (taken c.finish.new.out)) of_engine
    c.in_default-finish.ensures.written)
    (c.in_default-finish.ensures.quiet (λ e. cc)) laws t at (left c.both-ran.new.files)
    (counts c.both-ran.new.files) (puts c.both-ran.new.files) c.both-ran.ensures.filled.within NoMemory tt (λ e. cc) (λ e. absurd (cc))
