use Rattle.std.proofs.Common.{refl, sym, ap, ◌∙◌, subst, None, Ok, Err}
use Rattle.flu_model.specs.declared.jobs.Program.{Program}
use Rattle.flu_deps.specs.Checking.{program_of}
use Rattle.flu_rounds.specs.declared.faults.RoundsFault.TheVariants.{ReadFault, WriteFault}
use Rattle.flu_rounds.specs.Standing.{IsFirstFrom}
use Rattle.flu_top.specs.declared.running.RunFault.TheVariants.{Round}
use Rattle.flu_top.specs.Ending.{call}
use Rattle.flu_top.specs.Running.{EndsRounds, plain_opening}
use Rattle.flu_top.proofs.Roundings.{rounds_start, some_at_start, given_err, none_given, closed_is}
use Rattle.flu_top.proofs.ahead.rounds_ahead.Goals as goal

pub returns-in_err-engine-clause-ends : goal.returns-in_err-engine-clause-ends
returns-in_err-engine-clause-ends g c =
    let p = program_of c.args.checked.now in
    let o = plain_opening c.args.opening in
    let left = g.F.Files.left in
    let counts = g.F.Files.faults in
    let puts = g.F.Files.put_faults in
    let taken = g.K.Sink.taken in
    let count = g.K.Sink.faults in
    let k = call (left c.args.files.now) (left c.args.files.now) (counts c.args.files.now) (counts c.args.files.now) (puts c.args.files.now)
    (puts c.args.files.now)
    (taken c.args.out.now) (taken c.args.out.now) (count c.args.out.now) (count c.args.out.now) in
    subst (EndsRounds c.args.adapts p o None k) (sym (given_err c.from_residual.result c.in_err-engine.field-0.0 c.from_residual.ensures.1
    ∙ ap Err c.in_err-engine.ensures.no_memory))
    (some_at_start c.rounds_are_folded_in_turn.ensures.none p o None (left c.args.files.now) (counts c.args.files.now) (puts c.args.files.now)
    (taken c.args.out.now) (count c.args.out.now)).0

pub returns-in_err-rounds-clause-ends : goal.returns-in_err-rounds-clause-ends
returns-in_err-rounds-clause-ends g c =
    let p = program_of c.args.checked.now in
    let o = plain_opening c.args.opening in
    let left = g.F.Files.left in
    let counts = g.F.Files.faults in
    let puts = g.F.Files.put_faults in
    let taken = g.K.Sink.taken in
    let count = g.K.Sink.faults in
    let k = call (left c.args.files.now) (left c.args.files.now) (counts c.args.files.now) (counts c.args.files.now) (puts c.args.files.now)
    (puts c.args.files.now)
    (taken c.args.out.now) (taken c.args.out.now) (count c.args.out.now) (count c.args.out.now) in
    subst (EndsRounds c.args.adapts p o None k) (sym (given_err c.from_residual-in_err-rounds.result c.in_err-rounds.field-0.0
    c.from_residual-in_err-rounds.ensures.1 ∙ ap Err c.in_err-rounds.ensures.no_memory))
    (some_at_start c.rounds_are_folded_in_turn.ensures.none p o None (left c.args.files.now) (counts c.args.files.now) (puts c.args.files.now)
    (taken c.args.out.now) (count c.args.out.now)).0

pub returns-in_err-begun-clause-ends : goal.returns-in_err-begun-clause-ends
returns-in_err-begun-clause-ends g c =
    let p = program_of c.args.checked.now in
    let o = plain_opening c.args.opening in
    let left = g.F.Files.left in
    let counts = g.F.Files.faults in
    let puts = g.F.Files.put_faults in
    let taken = g.K.Sink.taken in
    let count = g.K.Sink.faults in
    let goes = rounds_start c.args.adapts p c.in_ok-engine.engine o None (left c.args.files.now) (counts c.args.files.now) (puts c.args.files.now)
    (taken c.args.out.now) (count c.args.out.now)
    c.in_ok-rounds.rounds (c.resumed_runs_go_on.ensures.beginning o.border o.cells)
    (ap program_of c.in_ok-engine.ensures.checked) c.in_ok-engine.ensures.adapts c.in_ok-engine.ensures.counts c.requires.opening.some
    (subst (λ (q : Program). IsFirstFrom q o.rows o.border o.cells c.in_ok-rounds.rounds) c.program.ensures c.in_ok-rounds.ensures.first) in
    let whole = call (left c.args.files.now) (left c.first_round.new.files) (counts c.args.files.now) (counts c.first_round.new.files)
    (puts c.args.files.now) (puts c.first_round.new.files)
    (taken c.args.out.now) (taken c.args.out.now) (count c.args.out.now) (count c.args.out.now) in
    subst (EndsRounds c.args.adapts p o None whole) (sym (given_err c.from_residual-in_err-begun.result c.in_err-begun.field-0.0
    c.from_residual-in_err-begun.ensures.1))
    (c.in_err-begun.ensures.steps c.args.adapts p o (left c.args.files.now) (counts c.args.files.now) (puts c.args.files.now) (taken c.args.out.now)
    (count c.args.out.now) goes).0

pub returns-in_err-begun-clause-within : goal.returns-in_err-begun-clause-within
returns-in_err-begun-clause-within g c =
    let p = program_of c.args.checked.now in
    let o = plain_opening c.args.opening in
    let left = g.F.Files.left in
    let counts = g.F.Files.faults in
    let puts = g.F.Files.put_faults in
    let taken = g.K.Sink.taken in
    let count = g.K.Sink.faults in
    let goes = rounds_start c.args.adapts p c.in_ok-engine.engine o None (left c.args.files.now) (counts c.args.files.now) (puts c.args.files.now)
    (taken c.args.out.now) (count c.args.out.now)
    c.in_ok-rounds.rounds (c.resumed_runs_go_on.ensures.beginning o.border o.cells)
    (ap program_of c.in_ok-engine.ensures.checked) c.in_ok-engine.ensures.adapts c.in_ok-engine.ensures.counts c.requires.opening.some
    (subst (λ (q : Program). IsFirstFrom q o.rows o.border o.cells c.in_ok-rounds.rounds) c.program.ensures c.in_ok-rounds.ensures.first) in
    (c.in_err-begun.ensures.steps c.args.adapts p o (left c.args.files.now) (counts c.args.files.now) (puts c.args.files.now) (taken c.args.out.now)
    (count c.args.out.now) goes).1

pub loop-begun-init : goal.loop-begun-init
loop-begun-init g c =
    let p = program_of c.args.checked.now in
    let o = plain_opening c.args.opening in
    let left = g.F.Files.left in
    let counts = g.F.Files.faults in
    let puts = g.F.Files.put_faults in
    let taken = g.K.Sink.taken in
    let count = g.K.Sink.faults in
    let goes = rounds_start c.args.adapts p c.in_ok-engine.engine o None (left c.args.files.now) (counts c.args.files.now) (puts c.args.files.now)
    (taken c.args.out.now) (count c.args.out.now)
    c.in_ok-rounds.rounds (c.resumed_runs_go_on.ensures.beginning o.border o.cells)
    (ap program_of c.in_ok-engine.ensures.checked) c.in_ok-engine.ensures.adapts c.in_ok-engine.ensures.counts c.requires.opening.some
    (subst (λ (q : Program). IsFirstFrom q o.rows o.border o.cells c.in_ok-rounds.rounds) c.program.ensures c.in_ok-rounds.ensures.first) in
    record {
      has = c.in_ok-begun.ensures.steps c.args.adapts p o (left c.args.files.now) (counts c.args.files.now) (puts c.args.files.now) (taken c.args.out.now)
          (count c.args.out.now) goes;
      quiet = c.in_ok-begun.ensures.quiet (λ e. cc);
      puts = c.in_ok-begun.ensures.puts;
      written_quiet = refl;
    }

pub returns-in_err-begun-2-clause-ends : goal.returns-in_err-begun-2-clause-ends
returns-in_err-begun-2-clause-ends g c =
    let p = program_of c.args.checked.now in
    let o = plain_opening c.args.opening in
    let left = g.F.Files.left in
    let counts = g.F.Files.faults in
    let puts = g.F.Files.put_faults in
    let taken = g.K.Sink.taken in
    let count = g.K.Sink.faults in
    let whole = call (left c.args.files.now) (left c.next_round.new.files) (counts c.args.files.now) (counts c.next_round.new.files)
    (puts c.args.files.now) (puts c.next_round.new.files)
    (taken c.args.out.now) (taken c.next_round.new.out) (count c.args.out.now) (count c.next_round.new.out) in
    subst (EndsRounds c.args.adapts p o None whole) (sym (given_err c.from_residual-in_err-begun-2.result c.in_err-begun-2.field-0.0
    c.from_residual-in_err-begun-2.ensures.1))
    (c.in_err-begun-2.ensures.steps c.args.adapts p o (left c.args.files.now) (counts c.args.files.now) (puts c.args.files.now) (taken c.args.out.now)
    (count c.args.out.now) c.in-At.field-0 c.in-At.is c.loop-begun.invariant.has).0

pub returns-in_err-begun-2-clause-within : goal.returns-in_err-begun-2-clause-within
returns-in_err-begun-2-clause-within g c =
    let p = program_of c.args.checked.now in
    let o = plain_opening c.args.opening in
    let left = g.F.Files.left in
    let counts = g.F.Files.faults in
    let puts = g.F.Files.put_faults in
    let taken = g.K.Sink.taken in
    let count = g.K.Sink.faults in
    (c.in_err-begun-2.ensures.steps c.args.adapts p o (left c.args.files.now) (counts c.args.files.now) (puts c.args.files.now) (taken c.args.out.now)
    (count c.args.out.now) c.in-At.field-0 c.in-At.is c.loop-begun.invariant.has).1

pub returns-in_err-begun-2-clause-quiet : goal.returns-in_err-begun-2-clause-quiet
returns-in_err-begun-2-clause-quiet g c = λ differs n.
    c.in_err-begun-2.ensures.quiet (none_given c.from_residual-in_err-begun-2.result (Err c.in_err-begun-2.field-0.0) c.in_err-begun-2.field-0.0
    (Round ReadFault) refl c.from_residual-in_err-begun-2.ensures.1 differs) n ∙ c.loop-begun.invariant.quiet n

pub returns-in_err-begun-2-clause-written_quiet : goal.returns-in_err-begun-2-clause-written_quiet
returns-in_err-begun-2-clause-written_quiet g c = λ differs.
    c.in_err-begun-2.ensures.written_quiet (none_given c.from_residual-in_err-begun-2.result (Err c.in_err-begun-2.field-0.0) c.in_err-begun-2.field-0.0
    (Round WriteFault) refl c.from_residual-in_err-begun-2.ensures.1 differs) ∙ c.loop-begun.invariant.written_quiet

pub loop-begun-smaller : goal.loop-begun-smaller
loop-begun-smaller g c =
    let p = program_of c.args.checked.now in
    let o = plain_opening c.args.opening in
    let left = g.F.Files.left in
    let counts = g.F.Files.faults in
    let puts = g.F.Files.put_faults in
    let taken = g.K.Sink.taken in
    let count = g.K.Sink.faults in
    (c.in_ok-begun-2.ensures.steps c.args.adapts p o (left c.args.files.now) (counts c.args.files.now) (puts c.args.files.now) (taken c.args.out.now)
    (count c.args.out.now) c.in-At.field-0 c.in-At.is c.loop-begun.invariant.has).1

pub loop-begun-preserved : goal.loop-begun-preserved
loop-begun-preserved g c =
    let p = program_of c.args.checked.now in
    let o = plain_opening c.args.opening in
    let left = g.F.Files.left in
    let counts = g.F.Files.faults in
    let puts = g.F.Files.put_faults in
    let taken = g.K.Sink.taken in
    let count = g.K.Sink.faults in
    record {
      has = (c.in_ok-begun-2.ensures.steps c.args.adapts p o (left c.args.files.now) (counts c.args.files.now) (puts c.args.files.now) (taken c.args.out.now)
          (count c.args.out.now) c.in-At.field-0 c.in-At.is c.loop-begun.invariant.has).0;
      quiet = λ n. c.in_ok-begun-2.ensures.quiet (λ e. cc) n ∙ c.loop-begun.invariant.quiet n;
      puts = λ n. c.in_ok-begun-2.ensures.puts n ∙ c.loop-begun.invariant.puts n;
      written_quiet = c.in_ok-begun-2.ensures.written_quiet (λ e. cc) ∙ c.loop-begun.invariant.written_quiet;
    }

pub returns-clause-ends : goal.returns-clause-ends
returns-clause-ends g c =
    let p = program_of c.args.checked.now in
    let o = plain_opening c.args.opening in
    let left = g.F.Files.left in
    let counts = g.F.Files.faults in
    let puts = g.F.Files.put_faults in
    let taken = g.K.Sink.taken in
    let count = g.K.Sink.faults in
    (c.last_round.ensures.ends c.args.adapts p o (left c.args.files.now) (counts c.args.files.now) (puts c.args.files.now) (taken c.args.out.now)
    (count c.args.out.now) (closed_is c.loop-begun.begun.border c.in_default.not-At) c.loop-begun.invariant.has).0

pub returns-clause-within : goal.returns-clause-within
returns-clause-within g c =
    let p = program_of c.args.checked.now in
    let o = plain_opening c.args.opening in
    let left = g.F.Files.left in
    let counts = g.F.Files.faults in
    let puts = g.F.Files.put_faults in
    let taken = g.K.Sink.taken in
    let count = g.K.Sink.faults in
    (c.last_round.ensures.ends c.args.adapts p o (left c.args.files.now) (counts c.args.files.now) (puts c.args.files.now) (taken c.args.out.now)
    (count c.args.out.now) (closed_is c.loop-begun.begun.border c.in_default.not-At) c.loop-begun.invariant.has).1

pub returns-clause-written_quiet : goal.returns-clause-written_quiet
returns-clause-written_quiet g c = λ differs. c.last_round.ensures.written_quiet differs ∙ c.loop-begun.invariant.written_quiet
