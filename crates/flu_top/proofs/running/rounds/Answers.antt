use Rattle.std.proofs.Common.{refl, sym, ap, ◌∙◌, subst, Ok, Err}
use Rattle.std.specs.Prelude.{option_map}
use Rattle.flu_model.specs.declared.jobs.Program.{Program}
use Rattle.flu_deps.specs.Checking.{program_of}
use Rattle.flu_streams.specs.declared.border.Border.{Border}
use Rattle.flu_outside.specs.declared.files.PutFault.TheVariants.{Failed}
use Rattle.flu_rounds.specs.declared.faults.RoundsFault.TheVariants.{ReadFault, WriteFault}
use Rattle.flu_rounds.specs.Standing.{IsFirstFrom}
use Rattle.flu_top.specs.declared.running.RunFault.TheVariants.{Round, Unsaved}
use Rattle.flu_top.specs.Ending.{call}
use Rattle.flu_top.specs.Running.{EndsRounds, Steps, plain_opening}
use Rattle.flu_top.proofs.Roundings.{rounds_start, some_at_start, given_err, none_given, closed_is}
use Rattle.flu_top.proofs.running.rounds.Goals as goal

pub returns-in_err-engine-clause-ends : goal.returns-in_err-engine-clause-ends
returns-in_err-engine-clause-ends g c =
    let p = program_of c.args.checked.now in
    let o = plain_opening c.args.opening in
    let named = option_map (λ name. name.now) c.args.save in
    let left = g.F.Files.left in
    let counts = g.F.Files.faults in
    let puts = g.F.Files.put_faults in
    let taken = g.K.Sink.taken in
    let count = g.K.Sink.faults in
    let k = call (left c.args.files.now) (left c.args.files.now) (counts c.args.files.now) (counts c.args.files.now) (puts c.args.files.now)
    (puts c.args.files.now)
    (taken c.args.out.now) (taken c.args.out.now) (count c.args.out.now) (count c.args.out.now) in
    subst (EndsRounds c.args.adapts p o named k) (sym (given_err c.from_residual.result c.in_err-engine.field-0.0 c.from_residual.ensures.1
    ∙ ap Err c.in_err-engine.ensures.no_memory))
    (some_at_start c.rounds_are_folded_in_turn.ensures.none p o named (left c.args.files.now) (counts c.args.files.now) (puts c.args.files.now)
    (taken c.args.out.now) (count c.args.out.now)).0

pub returns-in_err-rounds-clause-ends : goal.returns-in_err-rounds-clause-ends
returns-in_err-rounds-clause-ends g c =
    let p = program_of c.args.checked.now in
    let o = plain_opening c.args.opening in
    let named = option_map (λ name. name.now) c.args.save in
    let left = g.F.Files.left in
    let counts = g.F.Files.faults in
    let puts = g.F.Files.put_faults in
    let taken = g.K.Sink.taken in
    let count = g.K.Sink.faults in
    let k = call (left c.args.files.now) (left c.args.files.now) (counts c.args.files.now) (counts c.args.files.now) (puts c.args.files.now)
    (puts c.args.files.now)
    (taken c.args.out.now) (taken c.args.out.now) (count c.args.out.now) (count c.args.out.now) in
    subst (EndsRounds c.args.adapts p o named k) (sym (given_err c.from_residual-in_err-rounds.result c.in_err-rounds.field-0.0
    c.from_residual-in_err-rounds.ensures.1 ∙ ap Err c.in_err-rounds.ensures.no_memory))
    (some_at_start c.rounds_are_folded_in_turn.ensures.none p o named (left c.args.files.now) (counts c.args.files.now) (puts c.args.files.now)
    (taken c.args.out.now) (count c.args.out.now)).0

pub loop-said-init : goal.loop-said-init
loop-said-init g c =
    let p = program_of c.args.checked.now in
    let o = plain_opening c.args.opening in
    let named = option_map (λ name. name.now) c.args.save in
    let left = g.F.Files.left in
    let counts = g.F.Files.faults in
    let puts = g.F.Files.put_faults in
    let taken = g.K.Sink.taken in
    let count = g.K.Sink.faults in
    record {
      goes = rounds_start c.args.adapts p c.in_ok-engine.engine o named (left c.args.files.now) (counts c.args.files.now) (puts c.args.files.now)
          (taken c.args.out.now) (count c.args.out.now)
          c.in_ok-rounds.rounds (c.resumed_runs_go_on.ensures.beginning o.border o.cells)
          (ap program_of c.in_ok-engine.ensures.checked) c.in_ok-engine.ensures.adapts c.in_ok-engine.ensures.counts c.requires.opening.some
          (subst (λ (q : Program). IsFirstFrom q o.rows o.border o.cells c.in_ok-rounds.rounds) c.program.ensures c.in_ok-rounds.ensures.first);
      quiet = λ n. refl;
    }

pub returns-in_err-saved_round-clause-ends : goal.returns-in_err-saved_round-clause-ends
returns-in_err-saved_round-clause-ends g c =
    let p = program_of c.args.checked.now in
    let o = plain_opening c.args.opening in
    let named = option_map (λ name. name.now) c.args.save in
    let left = g.F.Files.left in
    let counts = g.F.Files.faults in
    let puts = g.F.Files.put_faults in
    let taken = g.K.Sink.taken in
    let count = g.K.Sink.faults in
    let whole = call (left c.args.files.now) (left c.saved_round.new.files) (counts c.args.files.now) (counts c.saved_round.new.files)
    (puts c.args.files.now) (puts c.saved_round.new.files)
    (taken c.args.out.now) (taken c.saved_round.new.out) (count c.args.out.now) (count c.saved_round.new.out) in
    subst (EndsRounds c.args.adapts p o named whole) (sym (given_err c.from_residual-in_err-saved_round.result c.in_err-saved_round.field-0.0
    c.from_residual-in_err-saved_round.ensures.1))
    (c.in_err-saved_round.ensures.steps c.args.adapts p o (left c.args.files.now) (counts c.args.files.now) (puts c.args.files.now) (taken c.args.out.now)
    (count c.args.out.now) c.requires.apart c.loop-said.invariant.goes).0

pub returns-in_err-saved_round-clause-within : goal.returns-in_err-saved_round-clause-within
returns-in_err-saved_round-clause-within g c =
    let p = program_of c.args.checked.now in
    let o = plain_opening c.args.opening in
    let named = option_map (λ name. name.now) c.args.save in
    let left = g.F.Files.left in
    let counts = g.F.Files.faults in
    let puts = g.F.Files.put_faults in
    let taken = g.K.Sink.taken in
    let count = g.K.Sink.faults in
    (c.in_err-saved_round.ensures.steps c.args.adapts p o (left c.args.files.now) (counts c.args.files.now) (puts c.args.files.now) (taken c.args.out.now)
    (count c.args.out.now) c.requires.apart c.loop-said.invariant.goes).1

pub returns-in_err-saved_round-clause-quiet : goal.returns-in_err-saved_round-clause-quiet
returns-in_err-saved_round-clause-quiet g c = λ differs n.
    c.in_err-saved_round.ensures.quiet (none_given c.from_residual-in_err-saved_round.result (Err c.in_err-saved_round.field-0.0) c.in_err-saved_round.field-0.0
    (Round ReadFault) refl c.from_residual-in_err-saved_round.ensures.1 differs) n ∙ c.loop-said.invariant.quiet n

pub returns-in_err-saved_round-clause-puts : goal.returns-in_err-saved_round-clause-puts
returns-in_err-saved_round-clause-puts g c = λ differs n.
    c.in_err-saved_round.ensures.puts (none_given c.from_residual-in_err-saved_round.result (Err c.in_err-saved_round.field-0.0) c.in_err-saved_round.field-0.0
    (Unsaved Failed) refl c.from_residual-in_err-saved_round.ensures.1 differs) n ∙ c.loop-said.invariant.goes.puts n

pub returns-in_err-saved_round-clause-written_quiet : goal.returns-in_err-saved_round-clause-written_quiet
returns-in_err-saved_round-clause-written_quiet g c = λ differs.
    c.in_err-saved_round.ensures.written_quiet (none_given c.from_residual-in_err-saved_round.result (Err c.in_err-saved_round.field-0.0) c.in_err-saved_round.field-0.0
    (Round WriteFault) refl c.from_residual-in_err-saved_round.ensures.1 differs) ∙ c.loop-said.invariant.goes.quiet

pub returns-clause-ends : goal.returns-clause-ends
returns-clause-ends g c =
    let p = program_of c.args.checked.now in
    let o = plain_opening c.args.opening in
    let named = option_map (λ name. name.now) c.args.save in
    let left = g.F.Files.left in
    let counts = g.F.Files.faults in
    let puts = g.F.Files.put_faults in
    let taken = g.K.Sink.taken in
    let count = g.K.Sink.faults in
    let whole = call (left c.args.files.now) (left c.saved_round.new.files) (counts c.args.files.now) (counts c.saved_round.new.files)
    (puts c.args.files.now) (puts c.saved_round.new.files)
    (taken c.args.out.now) (taken c.saved_round.new.out) (count c.args.out.now) (count c.saved_round.new.out) in
    let closed = closed_is c.in_ok-saved_round.field-0 c.in_default.not-At in
    (subst (λ (b : Border). Steps c.args.adapts p c.saved_round.new.engine o named whole c.saved_round.new.rounds c.saved_round.new.said (Ok b)) closed
    (c.in_ok-saved_round.ensures.steps c.args.adapts p o (left c.args.files.now) (counts c.args.files.now) (puts c.args.files.now) (taken c.args.out.now)
    (count c.args.out.now) c.requires.apart c.loop-said.invariant.goes)).0

pub returns-clause-within : goal.returns-clause-within
returns-clause-within g c =
    let p = program_of c.args.checked.now in
    let o = plain_opening c.args.opening in
    let named = option_map (λ name. name.now) c.args.save in
    let left = g.F.Files.left in
    let counts = g.F.Files.faults in
    let puts = g.F.Files.put_faults in
    let taken = g.K.Sink.taken in
    let count = g.K.Sink.faults in
    let whole = call (left c.args.files.now) (left c.saved_round.new.files) (counts c.args.files.now) (counts c.saved_round.new.files)
    (puts c.args.files.now) (puts c.saved_round.new.files)
    (taken c.args.out.now) (taken c.saved_round.new.out) (count c.args.out.now) (count c.saved_round.new.out) in
    let closed = closed_is c.in_ok-saved_round.field-0 c.in_default.not-At in
    (subst (λ (b : Border). Steps c.args.adapts p c.saved_round.new.engine o named whole c.saved_round.new.rounds c.saved_round.new.said (Ok b)) closed
    (c.in_ok-saved_round.ensures.steps c.args.adapts p o (left c.args.files.now) (counts c.args.files.now) (puts c.args.files.now) (taken c.args.out.now)
    (count c.args.out.now) c.requires.apart c.loop-said.invariant.goes)).1
