use Rattle.std.proofs.Common.{sym, ap, ◌∙◌, subst, Bool}
use Rattle.flu_model.specs.Listed.{listed}
use Rattle.flu_cells.specs.Holding.{held}
use Rattle.flu_deps.specs.Checking.{program_of}
use Rattle.flu_deps.specs.Validated.{plan_of}
use Rattle.flu_command.specs.Simulating.{IsTextOn}
use Rattle.flu_top.proofs.RunReports.{run_report}
use Rattle.flu_top.proofs.Simulations.{case_from_nothing}
use Rattle.flu_top.proofs.simulating.net_text.Goals as goal

pub returns-then-traced-clause-text : goal.returns-then-traced-clause-text
returns-then-traced-clause-text c =
    subst (λ (b : Bool). IsTextOn b (program_of c.args.planned.now.checked) (plan_of c.args.planned.now.valid).nodes
    (listed c.args.streams.now) c.args.seed.number c.in_ok-lines.lines) (sym c.if-traced.true)
    record {
      case = c.in_ok-case.case;
      of = case_from_nothing c.args.planned.now.checked c.args.planned.now.valid c.args.streams.now c.in_ok-case.case c.in_ok-case.ensures.checked
          c.in_ok-case.ensures.valid c.in_ok-case.ensures.streams
          (ap held c.in_ok-case.ensures.opening ∙ c.new.ensures);
      trace = c.in_ok-lines.ensures.text;
    }

pub returns-then-traced-clause-drawn : goal.returns-then-traced-clause-drawn
returns-then-traced-clause-drawn c = record {
  case = c.in_ok-case.case;
  of = case_from_nothing c.args.planned.now.checked c.args.planned.now.valid c.args.streams.now c.in_ok-case.case c.in_ok-case.ensures.checked
      c.in_ok-case.ensures.valid c.in_ok-case.ensures.streams
      (ap held c.in_ok-case.ensures.opening ∙ c.new.ensures);
  run = c.in_ok-lines.ensures.drawn;
}

pub returns-clause-text : goal.returns-clause-text
returns-clause-text c =
    subst (λ (b : Bool). IsTextOn b (program_of c.args.planned.now.checked) (plan_of c.args.planned.now.valid).nodes
    (listed c.args.streams.now) c.args.seed.number c.in_ok-text.text) (sym c.if-traced.false)
    (run_report (program_of c.args.planned.now.checked) c.program-program.result.now c.in_ok-case.case c.args.streams.now c.in_ok-run.run'.outs
    c.in_ok-text.text (ap program_of c.in_ok-case.ensures.checked)
    c.program-program.ensures (ap held c.in_ok-case.ensures.opening ∙ c.new.ensures) c.in_ok-case.ensures.streams c.in_ok-run.ensures.outputs
    c.in_ok-text.ensures.order)

pub returns-clause-drawn : goal.returns-clause-drawn
returns-clause-drawn c = record {
  case = c.in_ok-case.case;
  of = case_from_nothing c.args.planned.now.checked c.args.planned.now.valid c.args.streams.now c.in_ok-case.case c.in_ok-case.ensures.checked
      c.in_ok-case.ensures.valid c.in_ok-case.ensures.streams
      (ap held c.in_ok-case.ensures.opening ∙ c.new.ensures);
  run = c.in_ok-run.ensures.drawn;
}
