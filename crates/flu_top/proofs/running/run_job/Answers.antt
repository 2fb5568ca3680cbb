use Rattle.std.proofs.Common.{refl, ◌∙◌, subst, arith}
use Rattle.std.specs.Prelude.{option_map}
use Rattle.flu_model.specs.declared.jobs.Program.{Program}
use Rattle.flu_deps.specs.Checking.{program_of}
use Rattle.flu_lemmas.proofs.Named.{fronts_then}
use Rattle.flu_words.specs.Words.{Run, plain_options}
use Rattle.flu_top.specs.Ending.{call}
use Rattle.flu_outside.specs.Outside.{WhereTold}
use Rattle.flu_top.specs.Running.{IsOpened, IsOpeningRefusal, plain_opening}
use Rattle.flu_command.specs.Starting.{AreNoSources, IsSameName}
use Rattle.flu_top.proofs.Checkpoints.{no_number}
use Rattle.flu_top.proofs.Endings.{fronts_of_all, only_of_command, stopped}
use Rattle.flu_top.proofs.Runnings.{as_before, as_before_opening, same_name_refuses, opening_refuses, only_opening, is_started, ends_run, run_fronts, run_only}
use Rattle.flu_top.proofs.running.run_job.Goals as goal

pub returns-in-Err-clause-ends : goal.returns-in-Err-clause-ends
returns-in-Err-clause-ends g c =
    let job = c.args.job.now in
    let plan = option_map (λ name. name.now) c.args.plan in
    let options = plain_options c.args.options in
    let left = g.F.Files.left in
    let counts = g.F.Files.faults in
    let puts = g.F.Files.put_faults in
    let taken = g.K.Sink.taken in
    let count = g.K.Sink.faults in
    stopped (call (left c.args.files.now) (left c.planned_for.new.files) (counts c.args.files.now) (counts c.planned_for.new.files) (puts c.args.files.now)
    (puts c.planned_for.new.files)
    (taken c.args.out.now) (taken c.args.out.now) (count c.args.out.now) (count c.args.out.now)) (Run job plan options) c.in-Err.refusal
    (c.in-Err.ensures.refused options)
    (λ how. as_before job plan options (left c.args.files.now) (left c.planned_for.new.files) c.in-Err.ensures.fronts c.in-Err.ensures.others) refl

pub returns-in-Err-clause-only : goal.returns-in-Err-clause-only
returns-in-Err-clause-only g c =
    let job = c.args.job.now in
    let plan = option_map (λ name. name.now) c.args.plan in
    let options = plain_options c.args.options in
    let left = g.F.Files.left in
    let counts = g.F.Files.faults in
    let puts = g.F.Files.put_faults in
    let taken = g.K.Sink.taken in
    let count = g.K.Sink.faults in
    only_of_command (Run job plan options) (Run job plan options) _ _ _ refl (c.in-Err.ensures.only options)

pub returns-in-Some-clause-ends : goal.returns-in-Some-clause-ends
returns-in-Some-clause-ends g c =
    let job = c.args.job.now in
    let plan = option_map (λ name. name.now) c.args.plan in
    let options = plain_options c.args.options in
    let left = g.F.Files.left in
    let counts = g.F.Files.faults in
    let puts = g.F.Files.put_faults in
    let taken = g.K.Sink.taken in
    let count = g.K.Sink.faults in
    let p = program_of c.in-Ok.planned.checked in
    let same = subst (λ (q : Program). IsSameName (Run job plan options) q c.in-Some.number) c.program.ensures (c.in-Some.ensures.found job plan) in (
      same_name_refuses job plan options p (left c.args.files.now) (left c.planned_for.new.files) c.in-Ok.ensures.accepted c.in-Ok.ensures.begun
          c.in-Some.number same,
      refl,
    )

pub returns-in-Some-clause-only : goal.returns-in-Some-clause-only
returns-in-Some-clause-only g c =
    let job = c.args.job.now in
    let plan = option_map (λ name. name.now) c.args.plan in
    let options = plain_options c.args.options in
    let left = g.F.Files.left in
    let counts = g.F.Files.faults in
    let puts = g.F.Files.put_faults in
    let taken = g.K.Sink.taken in
    let count = g.K.Sink.faults in
    only_of_command (Run job plan options) (Run job plan options) _ _ _ refl (c.in-Ok.ensures.only options)

pub returns-in-Err-opening_of-clause-ends : goal.returns-in-Err-opening_of-clause-ends
returns-in-Err-opening_of-clause-ends g c =
    let job = c.args.job.now in
    let plan = option_map (λ name. name.now) c.args.plan in
    let options = plain_options c.args.options in
    let left = g.F.Files.left in
    let counts = g.F.Files.faults in
    let puts = g.F.Files.put_faults in
    let taken = g.K.Sink.taken in
    let count = g.K.Sink.faults in
    let p = program_of c.in-Ok.planned.checked in
    let apart = subst (AreNoSources (Run job plan options)) c.program.ensures
    (c.same_name.ensures.none (no_number c.same_name.result c.in_default.not-Some) job plan) in
    let why = subst (λ (q : Program). IsOpeningRefusal options.resume q (left c.planned_for.new.files) (left c.opening_of.new.files)
    (counts c.planned_for.new.files) (counts c.opening_of.new.files) c.in-Err-opening_of.refusal)
    c.program-2.ensures c.in-Err-opening_of.ensures.refused in
    stopped (call (left c.args.files.now) (left c.opening_of.new.files) (counts c.args.files.now) (counts c.opening_of.new.files) (puts c.args.files.now)
    (puts c.opening_of.new.files)
    (taken c.args.out.now) (taken c.args.out.now) (count c.args.out.now) (count c.args.out.now)) (Run job plan options) c.in-Err-opening_of.refusal
    (opening_refuses job plan options p (left c.args.files.now) (left c.planned_for.new.files) (left c.opening_of.new.files) (counts c.args.files.now)
    (counts c.planned_for.new.files) (counts c.opening_of.new.files)
    c.in-Ok.ensures.accepted apart c.in-Ok.ensures.begun c.in-Ok.ensures.counts c.in-Err-opening_of.refusal why)
    (λ how. as_before_opening job plan options (left c.args.files.now) (left c.planned_for.new.files)
    (left c.opening_of.new.files) c.in-Ok.ensures.fronts c.in-Ok.ensures.others c.in-Err-opening_of.ensures.fronts c.in-Err-opening_of.ensures.others) refl

pub returns-in-Err-opening_of-clause-fronts : goal.returns-in-Err-opening_of-clause-fronts
returns-in-Err-opening_of-clause-fronts g c = fronts_of_all _ _ _ (fronts_then _ _ _ c.in-Ok.ensures.fronts c.in-Err-opening_of.ensures.fronts)

pub returns-in-Err-opening_of-clause-only : goal.returns-in-Err-opening_of-clause-only
returns-in-Err-opening_of-clause-only g c =
    let job = c.args.job.now in
    let plan = option_map (λ name. name.now) c.args.plan in
    let options = plain_options c.args.options in
    let left = g.F.Files.left in
    let counts = g.F.Files.faults in
    let puts = g.F.Files.put_faults in
    let taken = g.K.Sink.taken in
    let count = g.K.Sink.faults in
    let p = program_of c.in-Ok.planned.checked in
    let apart = subst (AreNoSources (Run job plan options)) c.program.ensures
    (c.same_name.ensures.none (no_number c.same_name.result c.in_default.not-Some) job plan) in
    only_opening job plan options p (left c.args.files.now) (left c.planned_for.new.files)
    (left c.opening_of.new.files) _ c.in-Ok.ensures.accepted apart c.in-Ok.ensures.begun (c.in-Ok.ensures.only options) c.in-Err-opening_of.ensures.others

pub run_in_rounds-requires-clause-apart : goal.run_in_rounds-requires-clause-apart
run_in_rounds-requires-clause-apart g c κs within =
    let job = c.args.job.now in
    let plan = option_map (λ name. name.now) c.args.plan in
    let options = plain_options c.args.options in
    let left = g.F.Files.left in
    let counts = g.F.Files.faults in
    let puts = g.F.Files.put_faults in
    let taken = g.K.Sink.taken in
    let count = g.K.Sink.faults in
    let p = program_of c.in-Ok.planned.checked in
    let apart = subst (AreNoSources (Run job plan options)) c.program.ensures
    (c.same_name.ensures.none (no_number c.same_name.result c.in_default.not-Some) job plan) in
    apart.save

pub returns-clause-ends : goal.returns-clause-ends
returns-clause-ends g c =
    let job = c.args.job.now in
    let plan = option_map (λ name. name.now) c.args.plan in
    let options = plain_options c.args.options in
    let left = g.F.Files.left in
    let counts = g.F.Files.faults in
    let puts = g.F.Files.put_faults in
    let taken = g.K.Sink.taken in
    let count = g.K.Sink.faults in
    let p = program_of c.in-Ok.planned.checked in
    let apart = subst (AreNoSources (Run job plan options)) c.program.ensures
    (c.same_name.ensures.none (no_number c.same_name.result c.in_default.not-Some) job plan) in
    let o = plain_opening c.in-Ok-opening_of.opening in
    let opened = subst (λ (q : Program). WhereTold (left c.planned_for.new.files) (left c.opening_of.new.files) (IsOpened options.rows options.resume q o))
    c.program-2.ensures c.in-Ok-opening_of.ensures.opened in
    let started = is_started job plan options p o (left c.args.files.now) (left c.planned_for.new.files)
    (left c.opening_of.new.files) apart c.in-Ok.ensures.begun c.in-Ok.ensures.fronts opened c.in-Ok-opening_of.ensures.fronts in
    ends_run job plan options p o (left c.args.files.now) (left c.opening_of.new.files) (left c.run_in_rounds.new.files) (counts c.args.files.now)
    (counts c.opening_of.new.files) (counts c.run_in_rounds.new.files)
    (puts c.args.files.now) (puts c.opening_of.new.files) (puts c.run_in_rounds.new.files) (taken c.args.out.now) (taken c.run_in_rounds.new.out)
    (count c.args.out.now) (count c.run_in_rounds.new.out)
    c.in-Ok.ensures.accepted apart started (λ n. omega (arith, c.in-Ok.ensures.counts n, c.in-Ok-opening_of.ensures.counts n))
    (λ n. c.in-Ok-opening_of.ensures.puts n ∙ c.in-Ok.ensures.puts n)
    c.run_in_rounds.ensures.within c.run_in_rounds.result c.run_in_rounds.ensures.ends

pub returns-clause-fronts : goal.returns-clause-fronts
returns-clause-fronts g c =
    let job = c.args.job.now in
    let plan = option_map (λ name. name.now) c.args.plan in
    let options = plain_options c.args.options in
    let left = g.F.Files.left in
    let counts = g.F.Files.faults in
    let puts = g.F.Files.put_faults in
    let taken = g.K.Sink.taken in
    let count = g.K.Sink.faults in
    let p = program_of c.in-Ok.planned.checked in
    let apart = subst (AreNoSources (Run job plan options)) c.program.ensures
    (c.same_name.ensures.none (no_number c.same_name.result c.in_default.not-Some) job plan) in
    let o = plain_opening c.in-Ok-opening_of.opening in
    let opened = subst (λ (q : Program). WhereTold (left c.planned_for.new.files) (left c.opening_of.new.files) (IsOpened options.rows options.resume q o))
    c.program-2.ensures c.in-Ok-opening_of.ensures.opened in
    let started = is_started job plan options p o (left c.args.files.now) (left c.planned_for.new.files)
    (left c.opening_of.new.files) apart c.in-Ok.ensures.begun c.in-Ok.ensures.fronts opened c.in-Ok-opening_of.ensures.fronts in
    run_fronts job plan options p o (left c.args.files.now) (left c.opening_of.new.files) (left c.run_in_rounds.new.files) (counts c.args.files.now)
    (counts c.opening_of.new.files) (counts c.run_in_rounds.new.files)
    (puts c.args.files.now) (puts c.opening_of.new.files) (puts c.run_in_rounds.new.files) (taken c.args.out.now) (taken c.run_in_rounds.new.out)
    (count c.args.out.now) (count c.run_in_rounds.new.out)
    c.in-Ok.ensures.accepted apart started (λ n. omega (arith, c.in-Ok.ensures.counts n, c.in-Ok-opening_of.ensures.counts n))
    (λ n. c.in-Ok-opening_of.ensures.puts n ∙ c.in-Ok.ensures.puts n)
    c.run_in_rounds.ensures.within c.run_in_rounds.result c.run_in_rounds.ensures.ends

pub returns-clause-only : goal.returns-clause-only
returns-clause-only g c =
    let job = c.args.job.now in
    let plan = option_map (λ name. name.now) c.args.plan in
    let options = plain_options c.args.options in
    let left = g.F.Files.left in
    let counts = g.F.Files.faults in
    let puts = g.F.Files.put_faults in
    let taken = g.K.Sink.taken in
    let count = g.K.Sink.faults in
    let p = program_of c.in-Ok.planned.checked in
    let apart = subst (AreNoSources (Run job plan options)) c.program.ensures
    (c.same_name.ensures.none (no_number c.same_name.result c.in_default.not-Some) job plan) in
    let o = plain_opening c.in-Ok-opening_of.opening in
    let opened = subst (λ (q : Program). WhereTold (left c.planned_for.new.files) (left c.opening_of.new.files) (IsOpened options.rows options.resume q o))
    c.program-2.ensures c.in-Ok-opening_of.ensures.opened in
    let started = is_started job plan options p o (left c.args.files.now) (left c.planned_for.new.files)
    (left c.opening_of.new.files) apart c.in-Ok.ensures.begun c.in-Ok.ensures.fronts opened c.in-Ok-opening_of.ensures.fronts in
    run_only job plan options p o (left c.args.files.now) (left c.opening_of.new.files) (left c.run_in_rounds.new.files) (counts c.args.files.now)
    (counts c.opening_of.new.files) (counts c.run_in_rounds.new.files)
    (puts c.args.files.now) (puts c.opening_of.new.files) (puts c.run_in_rounds.new.files) (taken c.args.out.now) (taken c.run_in_rounds.new.out)
    (count c.args.out.now) (count c.run_in_rounds.new.out)
    c.in-Ok.ensures.accepted apart started (λ n. omega (arith, c.in-Ok.ensures.counts n, c.in-Ok-opening_of.ensures.counts n))
    (λ n. c.in-Ok-opening_of.ensures.puts n ∙ c.in-Ok.ensures.puts n)
    c.run_in_rounds.ensures.within c.run_in_rounds.result c.run_in_rounds.ensures.ends
