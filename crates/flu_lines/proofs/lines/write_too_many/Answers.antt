use Rattle.flu_lines.proofs.Written.{writes_as, too_many_pieces, too_many_line}
use Rattle.flu_lines.proofs.lines.write_too_many.Goals as goal

pub returns : goal.returns
returns g c =
    writes_as (too_many_pieces c.as_bytes-source.result.now c.digits_of-row_digits.result.now c.digits_of-count_digits.result.now) _ _ _ _ _
    c.write_pieces.result
    (too_many_line c.args.name.now c.as_bytes-source.result.now c.digits_of-row_digits.result.now c.digits_of-count_digits.result.now c.args.row c.args.count
    c.as_bytes-source.ensures.value c.digits_of-row_digits.ensures c.digits_of-count_digits.ensures) c.write_pieces.ensures
