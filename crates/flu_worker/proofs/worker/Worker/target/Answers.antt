use Rattle.std.proofs.Common.{sym, ap, subst, ◌∙◌, refl}
use Rattle.flu_worker.specs.Notes.{WorkerNote}
use Rattle.flu_worker.specs.Rule.{Rule}
use Rattle.flu_worker.proofs.Methods.{mail_for, known_asked, next_down, target_is}
use Rattle.flu_worker.proofs.worker.Worker.target.Goals as goal

pub target-requires-clause-mail : goal.target-requires-clause-mail
target-requires-clause-mail c =
    mail_for _ c.self.inside.mail c.args.case.now c.self.inside.node
    (c.requires.case ∙ sym (ap (λ (x : WorkerNote). x.case) c.self.view_is)) refl c.self.invariant.mailed

pub target-requires-clause-known : goal.target-requires-clause-known
target-requires-clause-known c =
    let v = c.args.self.now in
    let rule : Rule v c.self.inside.mail c.self.inside.holding =
    subst (λ (x : WorkerNote). Rule x c.self.inside.mail c.self.inside.holding) c.self.view_is c.self.invariant in
    known_asked c.laws_below.ensures v c.self.inside.mail c.self.inside.holding rule c.args.case.now c.requires.case c.args.asked c.requires.above

pub target-requires-clause-next : goal.target-requires-clause-next
target-requires-clause-next c = λ down.
    let v = c.args.self.now in
    let rule : Rule v c.self.inside.mail c.self.inside.holding =
    subst (λ (x : WorkerNote). Rule x c.self.inside.mail c.self.inside.holding) c.self.view_is c.self.invariant in
    next_down c.laws_below.ensures v c.self.inside.mail c.self.inside.holding rule c.hand.result c.hand.ensures down c.args.asked c.requires.above
    c.requires.next

pub returns : goal.returns
returns c =
    let v = c.args.self.now in
    let rule : Rule v c.self.inside.mail c.self.inside.holding =
    subst (λ (x : WorkerNote). Rule x c.self.inside.mail c.self.inside.holding) c.self.view_is c.self.invariant in
    c.target.ensures
    ∙ target_is v c.self.inside.mail c.args.case.now c.self.inside.node c.hand.result c.self.inside.kept c.args.asked c.requires.case
    (ap (λ (x : WorkerNote). x.node) c.self.view_is)
    c.hand.ensures (ap (λ (x : WorkerNote). x.kept) c.self.view_is) rule.mailed
