use Rattle.std.proofs.Common.{◌<◌, sym, subst, ap, ◌∙◌, List}
use Rattle.std.specs.List.{All}
use Rattle.flu_net.specs.declared.steps.Step.{Step}
use Rattle.flu_trace.specs.Lines.{number_of}
use Rattle.flu_command.specs.Simulating.{lines_of_steps}
use Rattle.flu_top.proofs.StepTexts.{good_lines, small_numbers}
use Rattle.flu_top.proofs.traces.trace_text.Goals as goal

pub lines_of-requires : goal.lines_of-requires
lines_of-requires c =
    subst (λ (steps : List Step). All (λ s. number_of s < 1000) steps) (sym c.as_slice.ensures.value)
    (small_numbers c.args.case.now c.in_ok-run.run'.steps.items c.in_ok-run.ensures.possible)

pub returns-clause-text : goal.returns-clause-text
returns-clause-text c =
    let run = c.in_ok-run.run' in
    let drawn = c.in_ok-run.ensures in
    record {
      steps = run.steps.items;
      run = record { steps = run.counts; mark = run.mark; run = drawn.drawn };
      good = good_lines c.args.case.now run.steps.items drawn.possible;
      is = c.in_ok-text.ensures ∙ ap lines_of_steps c.as_slice.ensures.value;
    }

pub returns-clause-drawn : goal.returns-clause-drawn
returns-clause-drawn c = record { done = c.in_ok-run.run'.steps.items; run = c.in_ok-run.ensures.drawn }
