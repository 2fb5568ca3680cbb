use Rattle.std.proofs.Common.{sym, ap, ◌∙◌, refl}
use Rattle.flu_worker.specs.Notes.{WorkerNote}
use Rattle.flu_worker.specs.Choosing.{next_of}
use Rattle.flu_worker.proofs.Methods.{mail_for, known_kept, next_is}
use Rattle.flu_worker.proofs.worker.Worker.can_handle.Goals as goal

pub next_ask-requires-clause-mail : goal.next_ask-requires-clause-mail
next_ask-requires-clause-mail c =
    mail_for _ c.self.inside.mail c.args.case.now c.self.inside.node
    (c.requires ∙ sym (ap (λ (x : WorkerNote). x.case) c.self.view_is)) refl c.self.invariant.mailed

pub next_ask-requires-clause-known : goal.next_ask-requires-clause-known
next_ask-requires-clause-known c =
    known_kept _ c.self.inside.holding c.self.inside.mail c.args.case.now (c.requires ∙ sym (ap (λ (x : WorkerNote). x.case) c.self.view_is)) c.self.invariant

pub returns : goal.returns
returns c =
    let same = c.requires ∙ sym (ap (λ (x : WorkerNote). x.case) c.self.view_is) in
    c.next_ask.ensures
    ∙ next_is _ c.self.inside.mail c.args.case.now c.self.inside.node c.hand.result c.self.inside.kept same refl
    (c.hand.ensures ∙ sym (ap (λ (x : WorkerNote). x.hand) c.self.view_is)) refl c.self.invariant.mailed
    ∙ ap next_of c.self.view_is
