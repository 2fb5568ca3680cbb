use Rattle.flu_lines.proofs.Written.{writes_as, disordered_pieces, disordered_line}
use Rattle.flu_lines.proofs.lines.write_disordered.Goals as goal

pub returns : goal.returns
returns g c =
    writes_as (disordered_pieces c.as_bytes-source.result.now c.digits_of-row_digits.result.now c.digits_of-last_digits.result.now
    c.digits_of-got_digits.result.now) _ _ _ _ _ c.write_pieces.result
    (disordered_line c.args.name.now c.as_bytes-source.result.now c.digits_of-row_digits.result.now c.digits_of-last_digits.result.now
    c.digits_of-got_digits.result.now c.args.row c.args.last c.args.got c.as_bytes-source.ensures.value c.digits_of-row_digits.ensures
    c.digits_of-last_digits.ensures c.digits_of-got_digits.ensures) c.write_pieces.ensures
