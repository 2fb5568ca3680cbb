use Rattle.std.proofs.Common.{refl, sym, ◌∙◌}
use Rattle.flu_valid.proofs.OwnerLemmas.{IsFirstOwner, first_owner_is, no_owner_is, sole_owner_is, owners_are_first}
use Rattle.flu_valid.proofs.owners.sole_owner.Goals as goal

pub returns-in-Some-next_owner-clause-fault : goal.returns-in-Some-next_owner-clause-fault
returns-in-Some-next_owner-clause-fault c =
    let p = c.args.p.now in
    let nodes = c.args.plan.now.nodes in
    let first : IsFirstOwner p c.args.i nodes c.in-Some.a = first_owner_is p nodes c.args.i c.in-Some.a (sym c.first_owner.ensures.owner ∙ c.in-Some.is) in
    let found = c.in-Some-next_owner.ensures.found in
    (refl, owners_are_first p nodes c.args.i c.in-Some.a c.in-Some-next_owner.b first found.0 found.1 found.2)

pub returns-in-None-next_owner-clause-owner : goal.returns-in-None-next_owner-clause-owner
returns-in-None-next_owner-clause-owner c =
    let p = c.args.p.now in
    let nodes = c.args.plan.now.nodes in
    let first : IsFirstOwner p c.args.i nodes c.in-Some.a = first_owner_is p nodes c.args.i c.in-Some.a (sym c.first_owner.ensures.owner ∙ c.in-Some.is) in
    sole_owner_is p nodes c.args.i c.in-Some.a first c.in-None-next_owner.ensures.none

pub returns-in-None-clause-fault : goal.returns-in-None-clause-fault
returns-in-None-clause-fault c = (refl, no_owner_is c.args.p.now c.args.plan.now.nodes c.args.i (sym c.first_owner.ensures.owner ∙ c.in-None.is))
