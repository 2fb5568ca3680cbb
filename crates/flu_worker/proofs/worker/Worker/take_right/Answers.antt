use Rattle.std.proofs.Common.{List, ℕ, sym, ap, subst}
use Rattle.flu_fork.specs.declared.content.Content.{Content}
use Rattle.flu_worker.specs.declared.hand.Side.TheVariants.{Right}
use Rattle.flu_worker.specs.declared.holding.Holding.{Holding}
use Rattle.flu_worker.specs.Calls.{TakesPart}
use Rattle.flu_worker.specs.Holding.{hand_of}
use Rattle.flu_worker.specs.Moving.{AwaitsRight, RightComes}
use Rattle.flu_worker.specs.Notes.{WorkerNote}
use Rattle.flu_worker.specs.Rule.{Rule}
use Rattle.flu_worker.proofs.Lending.{Took, takes_right, awaits_right}
use Rattle.flu_worker.proofs.worker.Worker.take_right.Goals as goal

pub come_right-requires-clause-awaits : goal.come_right-requires-clause-awaits
come_right-requires-clause-awaits c =
    let v = c.args.self.now in
    let rule : Rule v c.self.inside.mail c.self.inside.holding =
    subst (λ (x : WorkerNote). Rule x c.self.inside.mail c.self.inside.holding) c.self.view_is c.self.invariant in
    subst (λ (k : Content). AwaitsRight k c.self.inside.node c.taken-holding.result c.args.lot) (sym c.requires.case)
    (subst (λ (w : ℕ). AwaitsRight v.case w c.taken-holding.result c.args.lot) (sym (ap (λ (x : WorkerNote). x.node) c.self.view_is))
    (subst (λ (h : Holding). AwaitsRight v.case v.node h c.args.lot) (sym c.taken-holding.ensures.was)
    (awaits_right c.laws_below.ensures v c.self.inside.mail c.args.lot c.requires.kept c.requires.fits c.requires.served c.self.inside.holding rule)))

abbrev after : goal.After-drop-self-inside-5 → WorkerNote → List ℕ → WorkerNote
after c x u = record x { hand = hand_of c.in_ok-self-inside.field-0; holding = c.in_ok-self-inside.field-0; taken_right = u }

took : (c : goal.After-drop-self-inside-5)
    → Took Right c.args.self.now (after c c.args.self.now c.args.lot.upto) c.self.inside.mail c.in_ok-self-inside.field-0 c.args.lot
took c =
    let v = c.args.self.now in
    let rule : Rule v c.self.inside.mail c.self.inside.holding =
    subst (λ (x : WorkerNote). Rule x c.self.inside.mail c.self.inside.holding) c.self.view_is c.self.invariant in
    takes_right c.laws_below.ensures v c.self.inside.mail c.args.lot c.requires.kept c.requires.fits c.requires.served c.self.inside.holding
    c.in_ok-self-inside.field-0 rule
    (subst (λ (k : Content). RightComes k v.node c.self.inside.holding c.args.lot c.in_ok-self-inside.field-0) c.requires.case
    (subst (λ (w : ℕ). RightComes c.args.case.now w c.self.inside.holding c.args.lot c.in_ok-self-inside.field-0)
    (ap (λ (x : WorkerNote). x.node) c.self.view_is)
    (subst (λ (h : Holding). RightComes c.args.case.now c.self.inside.node h c.args.lot c.in_ok-self-inside.field-0) c.taken-holding.ensures.was
    c.in_ok-self-inside.ensures)))

pub invariant_of-self-2 : goal.invariant_of-self-2
invariant_of-self-2 c =
    let v = c.args.self.now in
    subst (λ (x : WorkerNote). Rule (after c x c.of-upto.result.value) c.self.inside.mail c.in_ok-self-inside.field-0) (sym c.self.view_is)
    (subst (λ (u : List ℕ). Rule (after c v u) c.self.inside.mail c.in_ok-self-inside.field-0) (sym c.of-upto.ensures) (took c).rule)

pub returns-clause-takes : goal.returns-clause-takes
returns-clause-takes c =
    let v = c.args.self.now in
    subst (λ (x : WorkerNote). TakesPart Right c.args.lot v (after c x c.of-upto.result.value)) (sym c.self.view_is)
    (subst (λ (u : List ℕ). TakesPart Right c.args.lot v (after c v u)) (sym c.of-upto.ensures) (took c).note)
