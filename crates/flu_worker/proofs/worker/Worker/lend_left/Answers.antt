use Rattle.std.proofs.Common.{◌≡◌, sym, subst}
use Rattle.flu_fork.specs.Serving.{LotCounts, counts_of}
use Rattle.flu_worker.specs.declared.hand.Side.TheVariants.{Left}
use Rattle.flu_worker.specs.declared.holding.Holding.{Holding}
use Rattle.flu_worker.specs.Calls.{LendsPart}
use Rattle.flu_worker.specs.Holding.{hand_of}
use Rattle.flu_worker.specs.Moving.{LeftLeaves}
use Rattle.flu_worker.specs.Notes.{WorkerNote}
use Rattle.flu_worker.specs.Rule.{Rule}
use Rattle.flu_worker.proofs.Lending.{Lent, lends_left}
use Rattle.flu_worker.proofs.worker.Worker.lend_left.Goals as goal

abbrev after : goal.Joined-self-rest → WorkerNote → LotCounts → WorkerNote
after c x m = record x { hand = hand_of c.split_left-lot.result.1; holding = c.split_left-lot.result.1; lent_left = m }

lent : (c : goal.Joined-self-rest)
    → Lent Left c.args.self.now
    (after c c.args.self.now (counts_of c.split_left-lot.result.0)) c.self.inside.mail c.split_left-lot.result.1 c.split_left-lot.result.0
lent c =
    let v = c.args.self.now in
    let rule : Rule v c.self.inside.mail c.self.inside.holding =
    subst (λ (x : WorkerNote). Rule x c.self.inside.mail c.self.inside.holding) c.self.view_is c.self.invariant in
    lends_left v c.self.inside.mail c.self.inside.holding c.split_left-lot.result.1 c.split_left-lot.result.0 rule
    (subst (λ (h : Holding). LeftLeaves h c.split_left-lot.result.0 c.split_left-lot.result.1) c.taken.ensures.was c.split_left-lot.ensures)

abbrev noted : (c : goal.Joined-self-rest) → record { since = c.of.result.value; upto = c.of-2.result.value } ≡ counts_of c.split_left-lot.result.0
noted c = λ i. record { since = c.of.ensures i; upto = c.of-2.ensures i }

pub invariant_of-self : goal.invariant_of-self
invariant_of-self c =
    let v = c.args.self.now in
    subst (λ (x : WorkerNote). Rule
    (after c x (record { since = c.of.result.value; upto = c.of-2.result.value })) c.self.inside.mail c.split_left-lot.result.1) (sym c.self.view_is)
    (subst (λ (m : LotCounts). Rule (after c v m) c.self.inside.mail c.split_left-lot.result.1) (sym (noted c)) (lent c).rule)

pub returns : goal.returns
returns c =
    let v = c.args.self.now in
    record {
      note =
          subst (λ (x : WorkerNote). LendsPart Left c.split_left-lot.result.0 v
          (after c x (record { since = c.of.result.value; upto = c.of-2.result.value }))) (sym c.self.view_is)
          (subst (λ (m : LotCounts). LendsPart Left c.split_left-lot.result.0 v (after c v m)) (sym (noted c)) (lent c).note);
      part = (lent c).part;
    }
