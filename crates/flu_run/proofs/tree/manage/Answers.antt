use Rattle.std.proofs.lemmas.Result.{IfOk-weaker}
use Rattle.flu_run.proofs.Settling.{settled}
use Rattle.flu_run.proofs.Tying.{sees_from}
use Rattle.flu_run.proofs.tree.manage.Goals as goal

pub work-rest-requires-clause-sees : goal.work-rest-requires-clause-sees
work-rest-requires-clause-sees g c = λ κs within. sees_from _ _ _ c.requires.case c.requires.seen c.requires.watches

pub settle-ended-requires-clause-rest : goal.settle-ended-requires-clause-rest
settle-ended-requires-clause-rest g c =
    let r = c.requires in
    IfOk-weaker c.work-rest.result _ _
    (λ x rests. settled _ _ _ _ _ _ _ _ _ _ _ _ _ _ r.case r.node r.given r.left r.right r.left_end r.right_end rests) c.work-rest.ensures
