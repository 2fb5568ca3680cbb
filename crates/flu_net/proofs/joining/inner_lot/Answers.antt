use Rattle.flu_lemmas.proofs.Options.{IfOk-both}
use Rattle.flu_net.proofs.Bringing.{are_paired, joined_all}
use Rattle.flu_net.proofs.joining.inner_lot.Goals as goal

pub join-requires-clause-left : goal.join-requires-clause-left
join-requires-clause-left c = λ l r e. (c.requires.left l r e).fits

pub join-requires-clause-right : goal.join-requires-clause-right
join-requires-clause-right c = λ l r e. (c.requires.right l r e).fits

pub join-requires-clause-paired : goal.join-requires-clause-paired
join-requires-clause-paired c = λ l r e.
    are_paired c.args.case.now c.args.w c.args.worker.now c.requires.end
    (c.finished-finished.ensures.end (c.finished-finished.ensures.exact.1 (c.requires.end.done c.rule.ensures))) c.requires.inner
    c.laws_below.ensures l r c.args.left c.args.right (c.requires.left l r e) (c.requires.right l r e)

pub returns : goal.returns
returns c =
    IfOk-both c.join.result _ _ _ (λ lot counts fits. joined_all c.args.case.now c.args.w c.args.worker.now c.requires.end
    (c.finished-finished.ensures.end (c.finished-finished.ensures.exact.1 (c.requires.end.done c.rule.ensures))) c.requires.inner c.laws_below.ensures
    c.args.left c.args.right lot
    c.requires.left c.requires.right fits counts) c.join.ensures.counts c.join.ensures.fits
