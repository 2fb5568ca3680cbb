use Rattle.flu_lines.proofs.Written.{writes_as, limit_pieces, limit_line}
use Rattle.flu_lines.proofs.lines.write_over_limit.Goals as goal

pub returns : goal.returns
returns g c =
    writes_as (limit_pieces c.args.head.now c.what_word-word.result.now c.digits_of-digits.result.now) _ _ _ _ _ c.write_pieces.result
    (limit_line c.args.head.now c.what_word-word.result.now c.digits_of-digits.result.now c.args.what c.args.count c.what_word-word.ensures
    c.digits_of-digits.ensures) c.write_pieces.ensures
