use Rattle.std.proofs.Common.{sym, ap, subst, ◌∙◌, refl}
use Rattle.flu_worker.specs.Finishing.{has_done_all}
use Rattle.flu_worker.specs.Notes.{WorkerNote}
use Rattle.flu_worker.specs.Rule.{Rule}
use Rattle.flu_worker.proofs.Ending.{done_tells, finished_is}
use Rattle.flu_worker.proofs.Methods.{mail_for, sights}
use Rattle.flu_worker.proofs.worker.Worker.finished.Goals as goal

pub has_done_all-requires : goal.has_done_all-requires
has_done_all-requires c =
    mail_for _ c.self.inside.mail c.args.case.now c.self.inside.node
    (c.requires ∙ sym (ap (λ (x : WorkerNote). x.case) c.self.view_is)) refl c.self.invariant.mailed

pub returns : goal.returns
returns c =
    let v = c.args.self.now in
    let mail = c.self.inside.mail in
    let rule : Rule v mail c.self.inside.holding = subst (λ (x : WorkerNote). Rule x mail c.self.inside.holding) c.self.view_is c.self.invariant in
    let is =
    c.has_done_all.ensures
    ∙ λ i. has_done_all (sights v mail c.args.case.now c.self.inside.node c.requires (ap (λ (x : WorkerNote). x.node) c.self.view_is) rule.mailed i)
    (c.hand.ensures i) in
    let tells = done_tells v mail rule.mailed c.has_done_all.result is in
    record { exact = tells; end = λ e. finished_is c.laws_below.ensures v mail c.self.inside.holding rule (tells.0 e) }
