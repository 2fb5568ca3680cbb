use Rattle.std.specs.Prelude.{codes}
use Rattle.flu_lines.specs.Lines.{step_line}
use Rattle.flu_lines.proofs.Written.{writes_front, writes_both}
use Rattle.flu_lines.proofs.WrittenSteps.{step_pieces, step_line_of}
use Rattle.flu_lines.proofs.lines.write_steps.Goals as goal

pub returns-in_err-write_counts : goal.returns-in_err-write_counts
returns-in_err-write_counts g c =
    writes_front (step_pieces c.args.steps c.from.result) (codes "\n") (step_line c.args.steps) _ _ _ _ _ c.from_residual.result
    (step_line_of c.args.steps c.from.result c.from.ensures)
    c.from_residual.ensures.0 c.in_err-write_counts.ensures

pub returns : goal.returns
returns g c =
    writes_both (step_pieces c.args.steps c.from.result) (codes "\n") (step_line c.args.steps) _ _ _ _ _ _ c.write_all.result
    (step_line_of c.args.steps c.from.result c.from.ensures)
    c.in_ok-write_counts.ensures c.write_all.ensures
