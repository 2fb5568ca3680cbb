use Rattle.std.proofs.Common.{subst}
use Rattle.flu_worker.specs.Notes.{WorkerNote}
use Rattle.flu_worker.specs.Rule.{Rule}
use Rattle.flu_worker.proofs.Telling.{rule_told}
use Rattle.flu_worker.proofs.worker.Worker.rule.Goals as goal

pub returns : goal.returns
returns c =
    rule_told c.laws_below.ensures c.args.self.now c.self.inside.mail c.self.inside.holding
    (subst (λ (x : WorkerNote). Rule x c.self.inside.mail c.self.inside.holding) c.self.view_is c.self.invariant)
