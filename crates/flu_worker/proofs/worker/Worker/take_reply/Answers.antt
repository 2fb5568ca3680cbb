use Rattle.std.proofs.Common.{subst}
use Rattle.flu_fork.specs.Serving.{Served}
use Rattle.flu_worker.specs.declared.hand.Side.{Side}
use Rattle.flu_worker.specs.Hands.{at_side}
use Rattle.flu_worker.specs.Notes.{lent_to}
use Rattle.flu_worker.proofs.worker.Worker.take_reply.Goals as goal

pub take_left-requires-clause-served : goal.take_left-requires-clause-served
take_left-requires-clause-served c = λ l r y e f.
    let v = c.args.self.now in
    subst (λ (s : Side). Served v.case (at_side s l r) (lent_to s v) y c.args.lot) c.in-Left.is (c.requires.served l r y e f)

pub take_right-requires-clause-served : goal.take_right-requires-clause-served
take_right-requires-clause-served c = λ l r y e f.
    let v = c.args.self.now in
    subst (λ (s : Side). Served v.case (at_side s l r) (lent_to s v) y c.args.lot) c.in-Right.is (c.requires.served l r y e f)
