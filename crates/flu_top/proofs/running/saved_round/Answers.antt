use Rattle.std.proofs.Common.{refl, ap, ◌∙◌, Ok, Err}
use Rattle.std.specs.Prelude.{option_map}
use Rattle.flu_deps.specs.Checking.{program_of}
use Rattle.flu_top.specs.Ending.{call}
use Rattle.flu_top.specs.Running.{IsWithin}
use Rattle.flu_top.proofs.Roundings.{IsRun, ends_halted, ends_unsaved, laws_of, not_both, steps_on, still_named}
use Rattle.flu_top.proofs.running.saved_round.Goals as goal

pub returns-in-Err-clause-steps : goal.returns-in-Err-clause-steps
returns-in-Err-clause-steps g c adapts p o a k s had x apart go =
    let left = g.F.Files.left in
    let counts = g.F.Files.faults in
    let puts = g.F.Files.put_faults in
    let taken = g.K.Sink.taken in
    let count = g.K.Sink.faults in
    let note = c.args.engine.now in
    let named = option_map (λ name. name.now) c.args.save in
    let laws = laws_of c.resumed_runs_go_on.ensures.going_on c.resumed_runs_write_the_fold.ensures.state
    c.resumed_runs_write_the_fold.ensures.next_with_state c.resumed_runs_write_the_fold.ensures.last
    c.resumed_runs_write_the_fold.ensures.defect c.resumed_runs_write_the_fold.ensures.defect_with_state c.other_names_leave_runs_alone.ensures
    c.rounds_are_counted_in_turn.ensures.one_more c.runs_count_their_events.ensures.last o in
    let within : IsWithin c.args.rounds.now (call (left c.args.files.now) (left c.round.new.files) (counts c.args.files.now) (counts c.round.new.files)
    (puts c.args.files.now) (puts c.round.new.files)
    (taken c.args.out.now) (taken c.round.new.out) (count c.args.out.now) (count c.round.new.out)) =
    record { fronts = c.round.ensures.fronts; others = c.round.ensures.others; rise = c.round.ensures.rise; puts = c.round.ensures.puts } in
    ends_halted adapts p note o named a (left c.args.files.now) (left c.round.new.files) k (counts c.args.files.now) (counts c.round.new.files) s
    (puts c.args.files.now) (puts c.round.new.files)
    had (taken c.args.out.now) (taken c.round.new.out) x (count c.args.out.now) (count c.round.new.out) c.args.rounds.now go apart within
    laws c.in-Err.fault
    (record {
      fault = c.in-Err.ensures.fault;
      nothing = c.in-Err.ensures.nothing;
      part = λ is. c.in-Err.ensures.part (ap Err is);
      failed = λ is. c.in-Err.ensures.failed (ap Err is);
      hides = λ is. c.in-Err.ensures.hides (ap Err is);
    })

pub returns-in-Ok-put_checkpoint-clause-steps : goal.returns-in-Ok-put_checkpoint-clause-steps
returns-in-Ok-put_checkpoint-clause-steps g c adapts p o a k s had x apart go =
    let left = g.F.Files.left in
    let counts = g.F.Files.faults in
    let puts = g.F.Files.put_faults in
    let taken = g.K.Sink.taken in
    let count = g.K.Sink.faults in
    let note = c.args.engine.now in
    let named = option_map (λ name. name.now) c.args.save in
    let laws = laws_of c.resumed_runs_go_on.ensures.going_on c.resumed_runs_write_the_fold.ensures.state
    c.resumed_runs_write_the_fold.ensures.next_with_state c.resumed_runs_write_the_fold.ensures.last
    c.resumed_runs_write_the_fold.ensures.defect c.resumed_runs_write_the_fold.ensures.defect_with_state c.other_names_leave_runs_alone.ensures
    c.rounds_are_counted_in_turn.ensures.one_more c.runs_count_their_events.ensures.last o in
    let within : IsWithin c.args.rounds.now (call (left c.args.files.now) (left c.round.new.files) (counts c.args.files.now) (counts c.round.new.files)
    (puts c.args.files.now) (puts c.round.new.files)
    (taken c.args.out.now) (taken c.round.new.out) (count c.args.out.now) (count c.round.new.out)) =
    record { fronts = c.round.ensures.fronts; others = c.round.ensures.others; rise = c.round.ensures.rise; puts = c.round.ensures.puts } in
    let run : IsRun note c.round.new.engine c.args.rounds.now c.round.new.rounds c.round.new.said
    (call (left c.args.files.now) (left c.round.new.files) (counts c.args.files.now) (counts c.round.new.files) (puts c.args.files.now)
    (puts c.round.new.files)
    (taken c.args.out.now) (taken c.round.new.out) (count c.args.out.now) (count c.round.new.out)) c.in-Ok.end = record {
      written = c.in-Ok.ensures.written;
      says = c.in-Ok.ensures.says;
      engine = c.in-Ok.ensures.engine;
      adapting = c.in-Ok.ensures.adapts;
      stands = c.in-Ok.ensures.stands;
      read_out = c.in-Ok.ensures.read_out;
      quiet = c.in-Ok.ensures.written_quiet (not_both _ _ _ refl);
    } in
    steps_on adapts p note o named a (left c.args.files.now) (left c.round.new.files) k (counts c.args.files.now) (counts c.round.new.files) s
    (puts c.args.files.now) (puts c.round.new.files)
    had (taken c.args.out.now) (taken c.round.new.out) x (count c.args.out.now) (count c.round.new.out) c.args.rounds.now go apart within
    (left c.put_checkpoint.new.files) (counts c.put_checkpoint.new.files)
    (puts c.put_checkpoint.new.files) c.round.new.engine c.round.new.rounds c.round.new.said c.in-Ok.end run c.put_checkpoint.ensures.others
    c.put_checkpoint.ensures.takes
    c.program-program.result.now c.state.result.now c.state.ensures.value (c.program-program.ensures ∙ ap program_of c.checked.ensures)
    c.in-Ok-put_checkpoint.ensures.put c.in-Ok-put_checkpoint.ensures.quiet laws (λ is. c.in-Ok.ensures.closed (ap Ok is))

pub returns-in-Err-put_checkpoint-clause-steps : goal.returns-in-Err-put_checkpoint-clause-steps
returns-in-Err-put_checkpoint-clause-steps g c adapts p o a k s had x apart go =
    let left = g.F.Files.left in
    let counts = g.F.Files.faults in
    let puts = g.F.Files.put_faults in
    let taken = g.K.Sink.taken in
    let count = g.K.Sink.faults in
    let note = c.args.engine.now in
    let named = option_map (λ name. name.now) c.args.save in
    let laws = laws_of c.resumed_runs_go_on.ensures.going_on c.resumed_runs_write_the_fold.ensures.state
    c.resumed_runs_write_the_fold.ensures.next_with_state c.resumed_runs_write_the_fold.ensures.last
    c.resumed_runs_write_the_fold.ensures.defect c.resumed_runs_write_the_fold.ensures.defect_with_state c.other_names_leave_runs_alone.ensures
    c.rounds_are_counted_in_turn.ensures.one_more c.runs_count_their_events.ensures.last o in
    let within : IsWithin c.args.rounds.now (call (left c.args.files.now) (left c.round.new.files) (counts c.args.files.now) (counts c.round.new.files)
    (puts c.args.files.now) (puts c.round.new.files)
    (taken c.args.out.now) (taken c.round.new.out) (count c.args.out.now) (count c.round.new.out)) =
    record { fronts = c.round.ensures.fronts; others = c.round.ensures.others; rise = c.round.ensures.rise; puts = c.round.ensures.puts } in
    let run : IsRun note c.round.new.engine c.args.rounds.now c.round.new.rounds c.round.new.said
    (call (left c.args.files.now) (left c.round.new.files) (counts c.args.files.now) (counts c.round.new.files) (puts c.args.files.now)
    (puts c.round.new.files)
    (taken c.args.out.now) (taken c.round.new.out) (count c.args.out.now) (count c.round.new.out)) c.in-Ok.end = record {
      written = c.in-Ok.ensures.written;
      says = c.in-Ok.ensures.says;
      engine = c.in-Ok.ensures.engine;
      adapting = c.in-Ok.ensures.adapts;
      stands = c.in-Ok.ensures.stands;
      read_out = c.in-Ok.ensures.read_out;
      quiet = c.in-Ok.ensures.written_quiet (not_both _ _ _ refl);
    } in
    ends_unsaved adapts p note o named a (left c.args.files.now) (left c.round.new.files) k (counts c.args.files.now) (counts c.round.new.files) s
    (puts c.args.files.now) (puts c.round.new.files)
    had (taken c.args.out.now) (taken c.round.new.out) x (count c.args.out.now) (count c.round.new.out) c.args.rounds.now go apart within
    (left c.put_checkpoint.new.files) (counts c.put_checkpoint.new.files)
    (puts c.put_checkpoint.new.files) c.round.new.engine c.round.new.rounds c.round.new.said c.in-Ok.end run c.put_checkpoint.ensures.others
    c.put_checkpoint.ensures.takes
    laws c.in-Err-put_checkpoint.fault (still_named _ c.args.save c.in-Err-put_checkpoint.ensures.named)
    (λ is. c.in-Err-put_checkpoint.ensures.failed (ap Err is)) (λ is. c.in-Err-put_checkpoint.ensures.kept (ap Err is))
