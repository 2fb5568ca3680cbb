use Rattle.std.proofs.Common.{refl, sym, ap, ◌∙◌, subst, None, Err}
use Rattle.flu_cells.specs.Holding.{held}
use Rattle.flu_deps.specs.Checking.{program_of}
use Rattle.flu_model.specs.declared.jobs.Program.{Program}
use Rattle.flu_model.specs.Itags.{count_of_itags}
use Rattle.flu_model.specs.Sorts.{IsStateOf}
use Rattle.flu_outside.specs.Outside.{WhereTold}
use Rattle.flu_streams.specs.Files.{files_of, LeavesOthers}
use Rattle.flu_top.proofs.Beside.{no_name}
use Rattle.flu_top.proofs.Roundings.{ends_halted, laws_of}
use Rattle.flu_top.proofs.ahead.first_round.Goals as goal

pub returns-in-Ok-clause-steps : goal.returns-in-Ok-clause-steps
returns-in-Ok-clause-steps g c adapts p o a k s had x go =
    let left = g.F.Files.left in
    let counts = g.F.Files.faults in
    let puts = g.F.Files.put_faults in
    let taken = g.K.Sink.taken in
    let count = g.K.Sink.faults in
    let of_engine = c.program.ensures ∙ ap program_of c.checked.ensures in
    record {
      old = c.args.rounds.now;
      left = left c.args.files.now;
      counts = counts c.args.files.now;
      puts = puts c.args.files.now;
      goes = go;
      begins = c.in-Ok.ensures.rows;
      border = c.in-Ok.ensures.border;
      stands = c.in-Ok.ensures.stands;
      read_out = c.in-Ok.ensures.read_out;
      closed = c.in-Ok.ensures.closed;
      within = record {
        fronts = c.in-Ok.ensures.fronts;
        others = subst (λ (q : Program). WhereTold (left c.args.files.now) (left c.begin.new.files) (LeavesOthers (files_of q.sources)))
            (of_engine ∙ c.requires.program) c.in-Ok.ensures.others;
        rise = c.in-Ok.ensures.counts.rise;
        puts = c.in-Ok.ensures.puts;
      };
      itags = c.in-Ok.ensures.itags ∙ ap count_of_itags (of_engine ∙ go.engine);
      sorts = subst (λ (q : Program). IsStateOf q.families (held c.in-Ok.begun.opening)) (of_engine ∙ go.engine) c.in-Ok.ensures.sorts;
    }

pub returns-in-Err-clause-steps : goal.returns-in-Err-clause-steps
returns-in-Err-clause-steps g c adapts p o a k s had x go =
    let left = g.F.Files.left in
    let counts = g.F.Files.faults in
    let puts = g.F.Files.put_faults in
    let taken = g.K.Sink.taken in
    let count = g.K.Sink.faults in
    let laws = laws_of c.resumed_runs_go_on.ensures.going_on c.resumed_runs_write_the_fold.ensures.state
    c.resumed_runs_write_the_fold.ensures.next_with_state c.resumed_runs_write_the_fold.ensures.last
    c.resumed_runs_write_the_fold.ensures.defect c.resumed_runs_write_the_fold.ensures.defect_with_state c.other_names_leave_runs_alone.ensures
    c.rounds_are_counted_in_turn.ensures.one_more c.runs_count_their_events.ensures.last o in
    let of_engine = c.program.ensures ∙ ap program_of c.checked.ensures in
    ends_halted adapts p c.args.engine.now o None a (left c.args.files.now) (left c.begin.new.files) k (counts c.args.files.now)
    (counts c.begin.new.files) s (puts c.args.files.now) (puts c.begin.new.files) had (taken c.args.out.now) (taken c.args.out.now) x
    (count c.args.out.now) (count c.args.out.now) c.args.rounds.now go (no_name p)
    (record {
      fronts = c.in-Err.ensures.fronts;
      others = subst (λ (q : Program). WhereTold (left c.args.files.now) (left c.begin.new.files) (LeavesOthers (files_of q.sources)))
          (of_engine ∙ c.requires.program) c.in-Err.ensures.others;
      rise = c.in-Err.ensures.counts.rise;
      puts = c.in-Err.ensures.puts;
    }) laws c.in-Err.fault
    (record {
      fault = c.in-Err.ensures.fault;
      nothing = λ other. refl;
      part = λ is. absurd (c.in-Err.ensures.unwritten (ap Err is));
      failed = λ is. absurd (c.in-Err.ensures.unwritten (ap Err is));
      hides = λ is. c.in-Err.ensures.hides (ap Err is);
    })
