use Rattle.std.proofs.Common.{◌++◌}
use Rattle.std.specs.Prelude.{codes}
use Rattle.flu_model.specs.Reports.{text_of_tag, text_of_cell}
use Rattle.flu_lines.proofs.Written.{writes_both, writes_front}
use Rattle.flu_lines.proofs.WrittenParts.{head_steps}
use Rattle.flu_lines.proofs.part_lines.write_shared.Goals as goal

pub returns-in_err-write_tag : goal.returns-in_err-write_tag
returns-in_err-write_tag g c =
    let tag = text_of_tag c.args.program.now c.args.shared.tag in
    let cell = text_of_cell c.args.program.now c.args.shared.cell in
    writes_front (tag ++ codes " on ") (cell ++ codes "\n") (tag ++ codes " on " ++ cell ++ codes "\n") _ _ _ _ _ c.from_residual.result
    (head_steps (tag ++ codes " on ") cell (codes "\n")) c.from_residual.ensures.0 c.in_err-write_tag.ensures

pub returns : goal.returns
returns g c =
    let tag = text_of_tag c.args.program.now c.args.shared.tag in
    let cell = text_of_cell c.args.program.now c.args.shared.cell in
    writes_both (tag ++ codes " on ") (cell ++ codes "\n") (tag ++ codes " on " ++ cell ++ codes "\n") _ _ _ _ _ _ c.write_cell.result
    (head_steps (tag ++ codes " on ") cell (codes "\n")) c.in_ok-write_tag.ensures c.write_cell.ensures
