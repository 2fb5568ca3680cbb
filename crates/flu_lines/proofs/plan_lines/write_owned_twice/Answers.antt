use Rattle.std.proofs.Common.{◌∙◌, ◌++◌}
use Rattle.std.specs.Prelude.{codes}
use Rattle.flu_lines.specs.Names.{node_name, itag_text}
use Rattle.flu_lines.specs.Lines.{plan_line}
use Rattle.flu_lines.proofs.Written.{writes_front, writes_more, writes_both}
use Rattle.flu_lines.proofs.WrittenPlans.{first_two, twice_steps}
use Rattle.flu_lines.proofs.plan_lines.write_owned_twice.Goals as goal

pub returns-in_err-write_all : goal.returns-in_err-write_all
returns-in_err-write_all g c =
    let itag = itag_text c.args.program.now c.args.itag in
    let a = node_name c.args.plan.now.nodes c.args.a in
    let b = node_name c.args.plan.now.nodes c.args.b in
    let first = c.as_bytes-first.result.now in
    let second = c.as_bytes-second.result.now in
    let line = plan_line (itag ++ codes " has two owners, " ++ a ++ codes " and " ++ b) in
    writes_front (codes "flumina: plan: ") ((itag ++ codes " has two owners, ") ++ (first ++ (codes " and " ++ (second ++ codes "\n")))) line _ _ _ _ _
    c.from_residual.result
    (twice_steps itag first second a b (c.as_bytes-first.ensures.value ∙ c.node_name.ensures) (c.as_bytes-second.ensures.value ∙ c.node_name-2.ensures))
    c.from_residual.ensures.0 c.in_err-write_all.ensures

pub returns-in_err-write_itag : goal.returns-in_err-write_itag
returns-in_err-write_itag g c =
    let itag = itag_text c.args.program.now c.args.itag in
    let a = node_name c.args.plan.now.nodes c.args.a in
    let b = node_name c.args.plan.now.nodes c.args.b in
    let first = c.as_bytes-first.result.now in
    let second = c.as_bytes-second.result.now in
    let line = plan_line (itag ++ codes " has two owners, " ++ a ++ codes " and " ++ b) in
    writes_front (codes "flumina: plan: " ++ (itag ++ codes " has two owners, "))
    (first ++ (codes " and " ++ (second ++ codes "\n"))) line _ _ _ _ _ c.from_residual-in_err-write_itag.result
    (first_two (codes "flumina: plan: ") (itag ++ codes " has two owners, ") (first ++ (codes " and " ++ (second ++ codes "\n"))) line
    (twice_steps itag first second a b (c.as_bytes-first.ensures.value ∙ c.node_name.ensures) (c.as_bytes-second.ensures.value ∙ c.node_name-2.ensures)))
    c.from_residual-in_err-write_itag.ensures.0
    (writes_more (codes "flumina: plan: ") (itag ++ codes " has two owners, ") _ _ _ _ _ _ _ c.in_ok-write_all.ensures c.in_err-write_itag.ensures)

pub returns : goal.returns
returns g c =
    let itag = itag_text c.args.program.now c.args.itag in
    let a = node_name c.args.plan.now.nodes c.args.a in
    let b = node_name c.args.plan.now.nodes c.args.b in
    let first = c.as_bytes-first.result.now in
    let second = c.as_bytes-second.result.now in
    let line = plan_line (itag ++ codes " has two owners, " ++ a ++ codes " and " ++ b) in
    writes_both (codes "flumina: plan: " ++ (itag ++ codes " has two owners, "))
    (first ++ (codes " and " ++ (second ++ codes "\n"))) line _ _ _ _ _ _ c.write_pieces.result
    (first_two (codes "flumina: plan: ") (itag ++ codes " has two owners, ") (first ++ (codes " and " ++ (second ++ codes "\n"))) line
    (twice_steps itag first second a b (c.as_bytes-first.ensures.value ∙ c.node_name.ensures) (c.as_bytes-second.ensures.value ∙ c.node_name-2.ensures)))
    (writes_more (codes "flumina: plan: ") (itag ++ codes " has two owners, ") _ _ _ _ _ _ _ c.in_ok-write_all.ensures c.in_ok-write_itag.ensures)
    c.write_pieces.ensures
