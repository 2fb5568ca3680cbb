use Rattle.flu_lines.proofs.Written.{writes_as, trace_pieces, trace_line_of}
use Rattle.flu_lines.proofs.lines.write_trace_line.Goals as goal

pub returns : goal.returns
returns g c =
    writes_as (trace_pieces c.digits_of-digits.result.now c.args.why.now) _ _ _ _ _ c.write_pieces.result
    (trace_line_of c.digits_of-digits.result.now c.args.why.now c.args.line c.digits_of-digits.ensures) c.write_pieces.ensures
