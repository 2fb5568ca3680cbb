use Rattle.std.proofs.Common.{◌∙◌, [], ◌++◌}
use Rattle.std.specs.Prelude.{codes}
use Rattle.flu_lines.specs.Names.{node_name, itag_text}
use Rattle.flu_lines.proofs.Written.{writes_front, writes_both}
use Rattle.flu_lines.proofs.WrittenPlans.{owned_steps}
use Rattle.flu_lines.proofs.plan_lines.write_owned.Goals as goal

pub returns-in_err-write_itag : goal.returns-in_err-write_itag
returns-in_err-write_itag g c =
    let itag = itag_text c.args.program.now c.args.itag in
    let node = node_name c.args.plan.now.nodes c.args.node in
    writes_front (itag ++ codes " at ") (c.as_bytes-name.result.now ++ (c.args.behind.now ++ []))
    ((itag ++ codes " at " ++ node) ++ c.args.behind.now) _ _ _ _ _ c.from_residual.result
    (owned_steps itag c.as_bytes-name.result.now node c.args.behind.now (c.as_bytes-name.ensures.value ∙ c.node_name.ensures)) c.from_residual.ensures.0
    c.in_err-write_itag.ensures

pub returns : goal.returns
returns g c =
    let itag = itag_text c.args.program.now c.args.itag in
    let node = node_name c.args.plan.now.nodes c.args.node in
    writes_both (itag ++ codes " at ") (c.as_bytes-name.result.now ++ (c.args.behind.now ++ []))
    ((itag ++ codes " at " ++ node) ++ c.args.behind.now) _ _ _ _ _ _ c.write_pieces.result
    (owned_steps itag c.as_bytes-name.result.now node c.args.behind.now (c.as_bytes-name.ensures.value ∙ c.node_name.ensures)) c.in_ok-write_itag.ensures
    c.write_pieces.ensures
