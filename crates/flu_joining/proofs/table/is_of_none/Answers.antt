use Rattle.std.proofs.Common.{not, ap, ◌∙◌}
use Rattle.std.specs.List.{list_any}
use Rattle.flu_deps.specs.Validated.{plan_of}
use Rattle.flu_model.specs.declared.plans.Plan.{Plan}
use Rattle.flu_model.specs.Owners.{is_within}
use Rattle.flu_joining.proofs.Tables.{inside_one}
use Rattle.flu_joining.proofs.table.is_of_none.Goals as goal

pub returns : goal.returns
returns c =
    let p = c.args.p.now in
    let ws = c.args.nodes_apart.now in
    let owner = c.owner.ensures.owner p c.requires.valid c.requires.in_range in
    ap not
    (c.is_within_one.ensures
    ∙ ap (λ (plan : Plan). list_any (λ w. is_within plan.nodes w c.owner.result) ws) c.plan.ensures
    ∙ inside_one p (plan_of c.args.v.now).nodes ws c.args.i c.owner.result owner)
