use Rattle.std.proofs.Common.{sym, ap, ◌∙◌, subst, ◌+◌, ◌/◌}
use Rattle.std.specs.Prelude.{Option}
use Rattle.flu_model.specs.Listed.{listed}
use Rattle.flu_deps.specs.Checking.{program_of}
use Rattle.flu_gen.specs.DemoJob.{IsDemoJob}
use Rattle.flu_lines.specs.declared.products.Said.{Said}
use Rattle.flu_lines.specs.Products.{line_said}
use Rattle.flu_words.specs.Words.{Demo}
use Rattle.flu_command.specs.Done.{IsWritten}
use Rattle.flu_top.proofs.Demos.{is_summary, is_shown, only_memory}
use Rattle.flu_top.proofs.demo.demo.Goals as goal

pub returns-in-Err-clause-refused : goal.returns-in-Err-clause-refused
returns-in-Err-clause-refused g c = only_memory c.in_ok-program.program c.in-Err.refusal
    (c.demo_jobs_are_accepted.ensures c.in_ok-program.program c.in_ok-program.ensures) c.in-Err.ensures.refused

pub demo_streams-requires-clause-job : goal.demo_streams-requires-clause-job
demo_streams-requires-clause-job g c = subst IsDemoJob (sym (c.program.ensures ∙ c.in-Ok.ensures.same)) c.in_ok-program.ensures

pub returns-clause-written : goal.returns-clause-written
returns-clause-written g c =
    let n = c.args.draws.count in
    let p = program_of c.in-Ok.planned.checked in
    let demo = subst IsDemoJob (sym c.in-Ok.ensures.same) c.in_ok-program.ensures in
    λ left. subst (λ (said : Option Said). IsWritten (Demo n c.args.seed.number) c.in_ok-text.text (line_said said) left left) (sym c.saying.ensures)
    (is_shown n c.args.seed.number p c.in_ok-text.text left demo c.in-Ok.ensures.accepted
    (is_summary n c.args.seed.number _ p (listed c.in_ok-streams.streams) c.as_str.result.now c.in_ok-text.text c.in_ok-streams.ensures.lists
    (c.in_ok-streams.ensures.events ∙ ap (λ m. m + m / 1000 + 1) (sym c.from-n.ensures)) (c.as_str.ensures ∙ c.in_ok-report.ensures) c.in_ok-text.ensures))
