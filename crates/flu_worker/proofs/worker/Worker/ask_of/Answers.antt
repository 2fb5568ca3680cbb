use Rattle.std.proofs.Common.{◌≡◌, sym, subst, refl}
use Rattle.std.specs.Prelude.{slice_index, IfSome}
use Rattle.flu_fork.specs.Serving.{AsksAbove}
use Rattle.flu_worker.specs.Calls.{IsAskable, KeepsTarget}
use Rattle.flu_worker.specs.Notes.{WorkerNote}
use Rattle.flu_worker.specs.Rule.{Rule}
use Rattle.flu_worker.proofs.Targets.{AimsAt, aims_at, if_asked}
use Rattle.flu_worker.proofs.worker.Worker.ask_of.Goals as goal

aims : (c : goal.After-found-1) → AimsAt c.args.self.now c.self.inside.mail c.self.inside.holding c.target-found.result
aims c =
    let v = c.args.self.now in
    let rule : Rule v c.self.inside.mail c.self.inside.holding =
    subst (λ (x : WorkerNote). Rule x c.self.inside.mail c.self.inside.holding) c.self.view_is c.self.invariant in
    aims_at c.laws_below.ensures v c.self.inside.mail c.self.inside.holding rule c.args.asked
    (λ y e. (
      if_asked (AsksAbove v.case v.node) c.args.asked c.requires.above y e,
      if_asked (λ z. z.index ≡ slice_index v.held.upto z.itag.0) c.args.asked c.requires.next y e,
    ))
    c.target-found.result c.target-found.ensures

pub invariant_of-self : goal.invariant_of-self
invariant_of-self c =
    subst (λ (x : WorkerNote). Rule (record x { kept = c.target-found.result }) c.self.inside.mail c.self.inside.holding) (sym c.self.view_is) (aims c).rule

pub returns-clause-note : goal.returns-clause-note
returns-clause-note c =
    subst (λ (x : WorkerNote). KeepsTarget c.target-found.result c.args.self.now (record x { kept = c.target-found.result })) (sym c.self.view_is)
    (record { rest = refl; some = λ a e. e; same = (aims c).same })

pub returns-clause-askable : goal.returns-clause-askable
returns-clause-askable c =
    subst (λ (x : WorkerNote). IfSome c.target-found.result (IsAskable (record x { kept = c.target-found.result }))) (sym c.self.view_is) (aims c).asks
