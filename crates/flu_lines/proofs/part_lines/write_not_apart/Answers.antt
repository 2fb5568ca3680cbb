use Rattle.std.proofs.Common.{◌++◌, ◌∙◌}
use Rattle.std.specs.Prelude.{codes}
use Rattle.flu_lines.specs.Names.{node_name}
use Rattle.flu_lines.specs.PartLines.{not_apart_text, reason_text}
use Rattle.flu_lines.proofs.Written.{writes_front, writes_both}
use Rattle.flu_lines.proofs.WrittenParts.{not_apart_steps}
use Rattle.flu_lines.proofs.part_lines.write_not_apart.Goals as goal

pub returns-in_err-write_pieces : goal.returns-in_err-write_pieces
returns-in_err-write_pieces g c =
    let p = c.args.program.now in
    let nodes = c.args.plan.now.nodes in
    let text = reason_text p c.args.reason in
    let name = c.as_bytes-name.result.now in
    writes_front (name ++ codes " can't be apart: ") (text ++ codes "\n") (not_apart_text p nodes c.args.node c.args.reason ++ codes "\n")
    _ _ _ _ _ c.from_residual.result
    (not_apart_steps name (node_name nodes c.args.node) text (c.as_bytes-name.ensures.value ∙ c.node_name.ensures)) c.from_residual.ensures.0
    c.in_err-write_pieces.ensures

pub returns : goal.returns
returns g c =
    let p = c.args.program.now in
    let nodes = c.args.plan.now.nodes in
    let text = reason_text p c.args.reason in
    let name = c.as_bytes-name.result.now in
    writes_both (name ++ codes " can't be apart: ") (text ++ codes "\n") (not_apart_text p nodes c.args.node c.args.reason ++ codes "\n")
    _ _ _ _ _ _ c.write_reason.result
    (not_apart_steps name (node_name nodes c.args.node) text (c.as_bytes-name.ensures.value ∙ c.node_name.ensures)) c.in_ok-write_pieces.ensures
    c.write_reason.ensures
