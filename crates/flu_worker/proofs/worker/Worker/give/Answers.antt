use Rattle.std.proofs.Common.{List, ℕ, None, sym, ap, subst, ◌∙◌}
use Rattle.flu_worker.specs.declared.hand.Hand.TheVariants.{Empty}
use Rattle.flu_worker.specs.declared.holding.Holding.{Holding}
use Rattle.flu_worker.specs.declared.holding.Holding.TheVariants.{Empty as NoLot}
use Rattle.flu_worker.specs.Calls.{GivesLot}
use Rattle.flu_worker.specs.Hands.{is_whole}
use Rattle.flu_worker.specs.Holding.{hand_of}
use Rattle.flu_worker.specs.Moving.{IsWholeOf}
use Rattle.flu_worker.specs.Notes.{WorkerNote}
use Rattle.flu_worker.specs.Rule.{Rule}
use Rattle.flu_worker.proofs.Handling.{Given, gives}
use Rattle.flu_worker.proofs.Serving.{may_hand}
use Rattle.flu_worker.proofs.worker.Worker.give.Goals as goal

pub whole_of-lot-requires : goal.whole_of-lot-requires
whole_of-lot-requires c =
    let v = c.args.self.now in
    let rule : Rule v c.self.inside.mail c.self.inside.holding =
    subst (λ (x : WorkerNote). Rule x c.self.inside.mail c.self.inside.holding) c.self.view_is c.self.invariant in
    ap (λ (h : Holding). is_whole (hand_of h)) c.taken.ensures.was ∙ sym (ap is_whole rule.hand) ∙ may_hand v c.args.y c.requires.may

abbrev after : WorkerNote → List ℕ → WorkerNote
after x u = record x { hand = Empty; holding = NoLot; kept = None; given = u }

given : (c : goal.Joined-self) → Given c.args.self.now (after c.args.self.now c.whole_of-lot.result.upto) c.self.inside.mail c.args.y c.whole_of-lot.result
given c =
    let v = c.args.self.now in
    let rule : Rule v c.self.inside.mail c.self.inside.holding =
    subst (λ (x : WorkerNote). Rule x c.self.inside.mail c.self.inside.holding) c.self.view_is c.self.invariant in
    gives c.laws_below.ensures v c.self.inside.mail c.self.inside.holding c.whole_of-lot.result c.args.y rule
    (subst (λ (h : Holding). IsWholeOf h c.whole_of-lot.result) c.taken.ensures.was c.whole_of-lot.ensures) c.requires.may

pub invariant_of-self : goal.invariant_of-self
invariant_of-self c =
    let v = c.args.self.now in
    subst (λ (x : WorkerNote). Rule (after x c.of.result.value) c.self.inside.mail NoLot) (sym c.self.view_is)
    (subst (λ (u : List ℕ). Rule (after v u) c.self.inside.mail NoLot) (sym c.of.ensures) (given c).rule)

pub returns : goal.returns
returns c =
    let v = c.args.self.now in
    record {
      note = subst (λ (x : WorkerNote). GivesLot c.whole_of-lot.result v (after x c.of.result.value)) (sym c.self.view_is)
          (subst (λ (u : List ℕ). GivesLot c.whole_of-lot.result v (after v u)) (sym c.of.ensures) (given c).note);
      fits = (given c).fits;
      served = (given c).served;
    }
