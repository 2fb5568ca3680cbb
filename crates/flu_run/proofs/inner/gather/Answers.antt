use Rattle.std.proofs.Common.{sym, subst, ◌∙◌}
use Rattle.std.specs.Prelude.{IsSome}
use Rattle.flu_fork.specs.declared.content.Content.{Content}
use Rattle.flu_fork.specs.Lots.{kids}
use Rattle.flu_worker.specs.declared.hand.Side.TheVariants.{Left, Right}
use Rattle.flu_run.proofs.Gathering.{kid_linked, left_low, right_low, gathered_done, gathered_paired}
use Rattle.flu_run.proofs.Settling.{if_both}
use Rattle.flu_run.proofs.inner.gather.Goals as goal

pub close_link-requires-clause-linked : goal.close_link-requires-clause-linked
close_link-requires-clause-linked g c =
    let r = c.requires in
    kid_linked c.laws_below.ensures _ _ _ _ _ _ _ r.rests r.case r.node.0 r.inner Left _ _ _ _ _ r.node.1 r.rests.left r.left.1 r.left.2

pub close_link-requires-clause-free : goal.close_link-requires-clause-free
close_link-requires-clause-free g c = let r = c.requires in left_low c.laws_below.ensures _ _ _ _ _ _ _ r.rests r.case r.node.0 r.inner

pub close_link-requires-2-clause-linked : goal.close_link-requires-2-clause-linked
close_link-requires-2-clause-linked g c =
    let r = c.requires in
    kid_linked c.laws_below.ensures _ _ _ _ _ _ _ r.rests r.case r.node.0 r.inner Right _ _ _ _ _ r.node.1 r.rests.right r.right.1 r.right.2

pub close_link-requires-2-clause-free : goal.close_link-requires-2-clause-free
close_link-requires-2-clause-free g c = let r = c.requires in right_low c.laws_below.ensures _ _ _ _ _ _ _ r.rests r.case r.node.0 r.inner

pub join-lot-requires-clause-paired : goal.join-lot-requires-clause-paired
join-lot-requires-clause-paired g c =
    let r = c.requires in
    let inner = subst (λ (k : Content). IsSome (kids k c.args.node)) (sym c.case.ensures) r.inner in
    gathered_paired c.laws_below.ensures c.case.result.now c.args.node _ _ _ _ c.args.rest.outs r.rests
    (r.case ∙ sym c.case.ensures) r.node.0 inner
    r.left.0 _ r.right.0 _ c.args.left.lot c.args.right.lot c.args.left.outs c.args.right.outs r.left.1 r.left.2 r.right.1 r.right.2 c.close_link.ensures
    c.close_link-2.ensures

pub ended-requires : goal.ended-requires
ended-requires g c =
    let r = c.requires in
    let inner = subst (λ (k : Content). IsSome (kids k c.args.node)) (sym c.case.ensures) r.inner in
    if_both c.join-lot.result c.in_turn.result _ _ _ _
    (λ lot all fits counts e. gathered_done c.laws_below.ensures c.case.result.now c.args.node _ _ _ _ c.args.rest.outs r.rests
    (r.case ∙ sym c.case.ensures) r.node.0 inner
    r.left.0 _ r.right.0 _ c.args.left.lot c.args.right.lot c.args.left.outs c.args.right.outs r.left.1 r.left.2 r.right.1 r.right.2 c.close_link.ensures
    c.close_link-2.ensures lot all fits counts e)
    c.join-lot.ensures.fits c.join-lot.ensures.counts c.in_turn.ensures
