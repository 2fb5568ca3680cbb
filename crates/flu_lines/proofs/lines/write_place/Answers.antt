use Rattle.flu_lines.proofs.Written.{writes_as, place_pieces, place_line}
use Rattle.flu_lines.proofs.lines.write_place.Goals as goal

pub returns : goal.returns
returns g c =
    writes_as (place_pieces c.args.head.now c.args.fault.now c.digits_of-digits.result.now) _ _ _ _ _ c.write_pieces.result
    (place_line c.args.head.now c.args.fault.now c.digits_of-digits.result.now c.args.place c.digits_of-digits.ensures) c.write_pieces.ensures
