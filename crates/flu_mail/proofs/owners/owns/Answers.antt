use Rattle.flu_deps.specs.Validated.{plan_of}
use Rattle.flu_mail.proofs.OwnerLemmas.{owner_tells}
use Rattle.flu_mail.proofs.owners.owns.Goals as goal

pub returns : goal.returns
returns c =
    let p = c.args.p.now in
    let nodes = (plan_of c.args.v.now).nodes in
    owner_tells p nodes c.args.w c.owner.result c.args.i (c.itags_are_owned.ensures p nodes c.args.i c.requires.valid.valid c.requires.in_range)
    (c.owner.ensures.owner p c.requires.valid c.requires.in_range)
