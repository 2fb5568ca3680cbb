use Rattle.std.proofs.Common.{sym, ap, subst, ◌∙◌}
use Rattle.flu_deps.specs.declared.valid.Valid.{Valid}
use Rattle.flu_deps.specs.Validated.{plan_of, IsValidFor}
use Rattle.flu_model.specs.Owners.{owner_of}
use Rattle.flu_fork.specs.Lots.{job}
use Rattle.flu_worker.proofs.Nodes.{owner_tells}
use Rattle.flu_worker.proofs.choosing.owns.Goals as goal

pub returns : goal.returns
returns c =
    let k = c.args.case.now in
    let valid = subst (λ (v : Valid). IsValidFor (job k) v) (sym c.valid.ensures) k.of_job in
    owner_tells c.laws_below.ensures k c.args.node c.args.i.0 c.owner.result c.requires
    (ap (λ (v : Valid). owner_of (job k) (plan_of v).nodes c.args.i) (sym c.valid.ensures) ∙ c.owner.ensures.owner (job k) valid c.requires)
