use Rattle.std.proofs.Common.{◌++◌}
use Rattle.std.specs.Prelude.{codes}
use Rattle.flu_lines.specs.PartLines.{file_defect_text, file_defect_line}
use Rattle.flu_lines.proofs.Written.{writes_front, writes_both}
use Rattle.flu_lines.proofs.WrittenParts.{file_steps}
use Rattle.flu_lines.proofs.part_lines.write_file_defect.Goals as goal

pub returns-in_err-write_pieces : goal.returns-in_err-write_pieces
returns-in_err-write_pieces g c =
    let p = c.args.program.now in
    let nodes = c.args.plan.now.nodes in
    let text = file_defect_text p nodes c.args.why in
    let bytes = c.as_bytes-bytes.result.now in
    writes_front (codes "flumina: partial " ++ (bytes ++ codes ": ")) (text ++ codes "\n") (file_defect_line p nodes c.args.name.now c.args.why)
    _ _ _ _ _ c.from_residual.result
    (file_steps bytes c.args.name.now text c.as_bytes-bytes.ensures.value) c.from_residual.ensures.0 c.in_err-write_pieces.ensures

pub returns : goal.returns
returns g c =
    let p = c.args.program.now in
    let nodes = c.args.plan.now.nodes in
    let text = file_defect_text p nodes c.args.why in
    let bytes = c.as_bytes-bytes.result.now in
    writes_both (codes "flumina: partial " ++ (bytes ++ codes ": ")) (text ++ codes "\n") (file_defect_line p nodes c.args.name.now c.args.why)
    _ _ _ _ _ _ c.write_file_text.result
    (file_steps bytes c.args.name.now text c.as_bytes-bytes.ensures.value) c.in_ok-write_pieces.ensures c.write_file_text.ensures
