use Rattle.std.proofs.Common.{◌++◌}
use Rattle.std.specs.Prelude.{codes}
use Rattle.flu_lines.specs.PartLines.{not_apart_text}
use Rattle.flu_lines.proofs.Written.{writes_front, writes_both}
use Rattle.flu_lines.proofs.WrittenParts.{head_steps}
use Rattle.flu_lines.proofs.part_lines.write_plan_not_apart.Goals as goal

pub returns-in_err-write_all : goal.returns-in_err-write_all
returns-in_err-write_all g c =
    let text = not_apart_text c.args.program.now c.args.plan.now.nodes c.args.node c.args.reason in
    writes_front (codes "flumina: plan: ") (text ++ codes "\n") (codes "flumina: plan: " ++ text ++ codes "\n") _ _ _ _ _ c.from_residual.result
    (head_steps (codes "flumina: plan: ") text (codes "\n")) c.from_residual.ensures.0 c.in_err-write_all.ensures

pub returns : goal.returns
returns g c =
    let text = not_apart_text c.args.program.now c.args.plan.now.nodes c.args.node c.args.reason in
    writes_both (codes "flumina: plan: ") (text ++ codes "\n") (codes "flumina: plan: " ++ text ++ codes "\n") _ _ _ _ _ _ c.write_not_apart.result
    (head_steps (codes "flumina: plan: ") text (codes "\n")) c.in_ok-write_all.ensures c.write_not_apart.ensures
