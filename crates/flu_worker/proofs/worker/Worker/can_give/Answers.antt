use Rattle.std.proofs.Common.{◌<◌, sym, ap, subst, ◌∙◌, refl}
use Rattle.flu_model.specs.Itags.{count_of_itags}
use Rattle.flu_fork.specs.declared.content.Content.{Content}
use Rattle.flu_fork.specs.Lots.{job}
use Rattle.flu_worker.specs.Notes.{WorkerNote}
use Rattle.flu_worker.specs.Rule.{Rule}
use Rattle.flu_worker.proofs.Methods.{mail_for, gives_is, next_whole}
use Rattle.flu_worker.proofs.worker.Worker.can_give.Goals as goal

pub gives-requires-clause-mail : goal.gives-requires-clause-mail
gives-requires-clause-mail c =
    mail_for _ c.self.inside.mail c.args.case.now c.self.inside.node
    (c.requires.case ∙ sym (ap (λ (x : WorkerNote). x.case) c.self.view_is)) refl c.self.invariant.mailed

pub gives-requires-clause-known : goal.gives-requires-clause-known
gives-requires-clause-known c = subst (λ (k : Content). c.args.y.itag.0 < count_of_itags (job k)) (sym c.requires.case) c.requires.above.known

pub gives-requires-clause-next : goal.gives-requires-clause-next
gives-requires-clause-next c = λ whole.
    let v = c.args.self.now in
    let rule : Rule v c.self.inside.mail c.self.inside.holding =
    subst (λ (x : WorkerNote). Rule x c.self.inside.mail c.self.inside.holding) c.self.view_is c.self.invariant in
    next_whole c.laws_below.ensures v c.self.inside.mail c.self.inside.holding rule c.hand.result c.hand.ensures whole c.args.y c.requires.above c.requires.next

pub returns : goal.returns
returns c =
    let v = c.args.self.now in
    let rule : Rule v c.self.inside.mail c.self.inside.holding =
    subst (λ (x : WorkerNote). Rule x c.self.inside.mail c.self.inside.holding) c.self.view_is c.self.invariant in
    c.gives.ensures
    ∙ gives_is v c.self.inside.mail c.args.case.now c.self.inside.node c.hand.result c.self.inside.kept c.args.y c.requires.case
    (ap (λ (x : WorkerNote). x.node) c.self.view_is)
    c.hand.ensures (ap (λ (x : WorkerNote). x.kept) c.self.view_is) rule.mailed c.requires.above c.requires.next
