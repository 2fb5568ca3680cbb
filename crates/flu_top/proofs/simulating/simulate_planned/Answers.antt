use Rattle.std.proofs.Common.{refl, sym, subst}
use Rattle.std.specs.Prelude.{Option}
use Rattle.flu_outside.specs.Outside.{WhereTold}
use Rattle.flu_deps.specs.Checking.{program_of}
use Rattle.flu_deps.specs.Validated.{plan_of}
use Rattle.flu_lemmas.proofs.Named.{fronts_then}
use Rattle.flu_words.specs.Words.{Simulate}
use Rattle.flu_lines.specs.declared.products.Said.{Said}
use Rattle.flu_lines.specs.Products.{line_said}
use Rattle.flu_command.specs.Done.{IsWritten}
use Rattle.flu_top.proofs.Sequence.{report_refusal, only_ready}
use Rattle.flu_top.proofs.AsValid.{simulation_reads, ready_as_valid, only_as_valid, refusal_as_valid}
use Rattle.flu_top.proofs.Simulations.{is_simulated}
use Rattle.flu_top.proofs.simulating.simulate_planned.Goals as goal

pub returns-in-Err-clause-refused : goal.returns-in-Err-clause-refused
returns-in-Err-clause-refused g c =
    let job = c.args.job.now in
    let plan = c.args.plan.now in
    let seed = c.args.seed.number in
    refusal_as_valid (Simulate job plan seed c.args.traced) job plan _ _ _ _ c.in-Err.refusal
    (simulation_reads job plan seed c.args.traced) c.in-Err.ensures.refused

pub returns-in-Err-clause-only : goal.returns-in-Err-clause-only
returns-in-Err-clause-only g c =
    let job = c.args.job.now in
    let plan = c.args.plan.now in
    let seed = c.args.seed.number in
    only_as_valid (Simulate job plan seed c.args.traced) job plan _ _ (simulation_reads job plan seed c.args.traced) c.in-Err.ensures.only

pub returns-in-Ok-text_of-clause-written : goal.returns-in-Ok-text_of-clause-written
returns-in-Ok-text_of-clause-written g c =
    let job = c.args.job.now in
    let plan = c.args.plan.now in
    let seed = c.args.seed.number in
    let p = program_of c.in-Ok.planned.checked in
    let ready = ready_as_valid (Simulate job plan seed c.args.traced) job plan p _ _
    (simulation_reads job plan seed c.args.traced) refl c.in-Ok.ensures.ready in
    subst (λ (said : Option Said). WhereTold (g.F.Files.left c.args.files.now) (g.F.Files.left c.text_of.new.files)
    (IsWritten (Simulate job plan seed c.args.traced) c.in-Ok-text_of.text (line_said said))) (sym c.saying.ensures)
    (is_simulated job plan seed c.args.traced p (plan_of c.in-Ok.planned.valid).nodes c.in-Ok-text_of.text c.in-Ok-text_of.steps _ _ _
    c.in-Ok.ensures.accepted ready c.in-Ok.ensures.nodes
    c.in-Ok-text_of.ensures.read c.in-Ok-text_of.ensures.text c.in-Ok-text_of.ensures.drawn c.text_of.ensures.others)

pub returns-in-Ok-text_of-clause-fronts : goal.returns-in-Ok-text_of-clause-fronts
returns-in-Ok-text_of-clause-fronts g c = fronts_then _ _ _ c.in-Ok.ensures.fronts c.text_of.ensures.fronts

pub returns-in-Ok-text_of-clause-only : goal.returns-in-Ok-text_of-clause-only
returns-in-Ok-text_of-clause-only g c =
    let job = c.args.job.now in
    let plan = c.args.plan.now in
    let seed = c.args.seed.number in
    let p = program_of c.in-Ok.planned.checked in
    only_ready (Simulate job plan seed c.args.traced) p _ _ _ (record { save = refl; resume = refl; rows = refl }) refl (λ asked. c.in-Ok.ensures.accepted)
    (ready_as_valid (Simulate job plan seed c.args.traced) job plan p _ _ (simulation_reads job plan seed c.args.traced) refl c.in-Ok.ensures.ready)
    c.text_of.ensures.others

pub returns-in-Err-text_of-clause-refused : goal.returns-in-Err-text_of-clause-refused
returns-in-Err-text_of-clause-refused g c =
    let job = c.args.job.now in
    let plan = c.args.plan.now in
    let seed = c.args.seed.number in
    let p = program_of c.in-Ok.planned.checked in
    let left = g.F.Files.left in
    let faults = g.F.Files.faults in
    let ready = ready_as_valid (Simulate job plan seed c.args.traced) job plan p (left c.args.files.now) (left c.planned_by.new.files)
    (simulation_reads job plan seed c.args.traced) refl c.in-Ok.ensures.ready in
    report_refusal (Simulate job plan seed c.args.traced) p (left c.args.files.now) (left c.planned_by.new.files) (left c.text_of.new.files)
    (faults c.args.files.now) (faults c.planned_by.new.files) (faults c.text_of.new.files) c.in-Err-text_of.refusal refl (λ asked. c.in-Ok.ensures.accepted)
    (record { save = refl; resume = refl; rows = refl }) ready c.in-Ok.ensures.counts
    c.in-Err-text_of.ensures.refused

pub returns-in-Err-text_of-clause-fronts : goal.returns-in-Err-text_of-clause-fronts
returns-in-Err-text_of-clause-fronts g c = fronts_then _ _ _ c.in-Ok.ensures.fronts c.text_of.ensures.fronts

pub returns-in-Err-text_of-clause-only : goal.returns-in-Err-text_of-clause-only
returns-in-Err-text_of-clause-only g c =
    let job = c.args.job.now in
    let plan = c.args.plan.now in
    let seed = c.args.seed.number in
    let p = program_of c.in-Ok.planned.checked in
    only_ready (Simulate job plan seed c.args.traced) p _ _ _ (record { save = refl; resume = refl; rows = refl }) refl (λ asked. c.in-Ok.ensures.accepted)
    (ready_as_valid (Simulate job plan seed c.args.traced) job plan p _ _ (simulation_reads job plan seed c.args.traced) refl c.in-Ok.ensures.ready)
    c.text_of.ensures.others
