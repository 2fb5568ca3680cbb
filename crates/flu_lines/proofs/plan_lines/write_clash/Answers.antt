use Rattle.std.proofs.Common.{◌++◌}
use Rattle.std.specs.Prelude.{codes}
use Rattle.flu_lines.specs.Lines.{plan_line, owned_text}
use Rattle.flu_lines.proofs.Written.{writes_front, writes_more, writes_both}
use Rattle.flu_lines.proofs.WrittenPlans.{first_two, clash_steps}
use Rattle.flu_lines.proofs.plan_lines.write_clash.Goals as goal

pub returns-in_err-write_all : goal.returns-in_err-write_all
returns-in_err-write_all g c =
    let first = owned_text c.args.program.now c.args.plan.now.nodes c.args.i c.args.a in
    let second = owned_text c.args.program.now c.args.plan.now.nodes c.args.j c.args.b in
    writes_front (codes "flumina: plan: clash of ") ((first ++ codes " and ") ++ (second ++ codes "\n"))
    (plan_line (codes "clash of " ++ first ++ codes " and " ++ second)) _ _ _ _ _ c.from_residual.result
    (clash_steps first second) c.from_residual.ensures.0 c.in_err-write_all.ensures

pub returns-in_err-write_owned : goal.returns-in_err-write_owned
returns-in_err-write_owned g c =
    let first = owned_text c.args.program.now c.args.plan.now.nodes c.args.i c.args.a in
    let second = owned_text c.args.program.now c.args.plan.now.nodes c.args.j c.args.b in
    let line = plan_line (codes "clash of " ++ first ++ codes " and " ++ second) in
    writes_front (codes "flumina: plan: clash of " ++ (first ++ codes " and ")) (second ++ codes "\n") line _ _ _ _ _ c.from_residual-in_err-write_owned.result
    (first_two (codes "flumina: plan: clash of ") (first ++ codes " and ") (second ++ codes "\n") line (clash_steps first second))
    c.from_residual-in_err-write_owned.ensures.0
    (writes_more (codes "flumina: plan: clash of ") (first ++ codes " and ") _ _ _ _ _ _ _ c.in_ok-write_all.ensures c.in_err-write_owned.ensures)

pub returns : goal.returns
returns g c =
    let first = owned_text c.args.program.now c.args.plan.now.nodes c.args.i c.args.a in
    let second = owned_text c.args.program.now c.args.plan.now.nodes c.args.j c.args.b in
    let line = plan_line (codes "clash of " ++ first ++ codes " and " ++ second) in
    writes_both (codes "flumina: plan: clash of " ++ (first ++ codes " and ")) (second ++ codes "\n") line _ _ _ _ _ _ c.write_owned-2.result
    (first_two (codes "flumina: plan: clash of ") (first ++ codes " and ") (second ++ codes "\n") line (clash_steps first second))
    (writes_more (codes "flumina: plan: clash of ") (first ++ codes " and ") _ _ _ _ _ _ _ c.in_ok-write_all.ensures c.in_ok-write_owned.ensures)
    c.write_owned-2.ensures
