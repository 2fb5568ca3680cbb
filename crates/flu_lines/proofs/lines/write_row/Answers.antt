use Rattle.std.proofs.Common.{[], ◌∷◌, ◌++◌}
use Rattle.flu_lines.proofs.Written.{writes_as, row_pieces, row_line_of}
use Rattle.flu_lines.proofs.lines.write_row.Goals as goal

pub returns : goal.returns
returns g c =
    writes_as (row_pieces c.as_bytes-source.result.now c.digits_of-digits.result.now (58 ∷ 32 ∷ (c.args.why.now ++ 10 ∷ []))) _ _ _ _ _ c.write_pieces.result
    (row_line_of c.args.name.now c.as_bytes-source.result.now c.digits_of-digits.result.now c.args.why.now c.args.row c.as_bytes-source.ensures.value
    c.digits_of-digits.ensures) c.write_pieces.ensures
