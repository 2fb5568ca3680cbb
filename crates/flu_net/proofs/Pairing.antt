-- What is handled has an exact place, and the parts of a worker's lot are paired, wherever they are.
use Rattle.std.proofs.Common.{◌≡◌, ◌⊎◌, ℕ, true, false, Some, List, inl, inr, refl, sym, ap, subst, ◌∙◌}
use Rattle.std.specs.Prelude.{slice_get}
use Rattle.flu_lemmas.proofs.Options.{some_there}
use Rattle.flu_laws.specs.Spans.{AreAtMost}
use Rattle.flu_fork.specs.declared.content.Content.{Content}
use Rattle.flu_fork.specs.declared.lots.Lot.{Lot}
use Rattle.flu_fork.specs.Lots.{kids, LotsPaired}
use Rattle.flu_fork.specs.Serving.{LotCounts, IsOnLoan, counts_of}
use Rattle.flu_worker.specs.declared.hand.Side.{Side}
use Rattle.flu_worker.specs.declared.hand.Side.TheVariants.{Left, Right}
use Rattle.flu_worker.specs.declared.holding.Holding.{Holding}
use Rattle.flu_worker.specs.declared.holding.Holding.TheVariants.{Empty as NoLot, Whole as WholeLot, LendingBoth, LendingLeft}
use Rattle.flu_worker.specs.declared.holding.Holding.TheVariants.{LendingRight, Down as BothOut, TakingLeft, TakingRight, Gone}
use Rattle.flu_worker.specs.Agreeing.{left_loan, right_loan}
use Rattle.flu_worker.specs.Hands.{at_side, is_open, is_out}
use Rattle.flu_worker.specs.Holding.{hand_of}
use Rattle.flu_worker.specs.Notes.{WorkerNote, lent_to}
use Rattle.flu_worker.specs.Rule.{Holds, HoldsWhole}
use Rattle.flu_net.specs.declared.edges.Edge.TheVariants.{Lent, Given}
use Rattle.flu_net.specs.Facts.{EventsAreExact, IsPart, InHand, GoesDown, WithChild, GoesUp, PartsArePaired, part_of}
use Rattle.flu_net.specs.LawsBelow.{LawsBelow}
use Rattle.flu_net.specs.Notes.{NetNote}
use Rattle.flu_net.specs.Runs.{IsReached}
use Rattle.flu_net.proofs.Finals.{kid_has}
use Rattle.flu_net.proofs.Framing.{under}
use Rattle.flu_net.proofs.Placed.{as_placed, placed_at, worker_at}
use Rattle.flu_net.proofs.Reached.{runs_keep}

pub events_exact : LawsBelow → EventsAreExact
events_exact laws k old now new steps w start run h =
    laws.next_exact h.step.was h.event ((runs_keep laws k old now steps start run).keep w h.step.was h.step.at) h.next

some_lot : {a b : Lot} → Some a ≡ Some b → a ≡ b
some_lot e = cc

module _ (laws : LawsBelow) (k : Content) (n : NetNote) (r : IsReached k n) (w left_kid right_kid : ℕ) (u : WorkerNote)
    (at : slice_get n.workers w ≡ Some (placed_at n.case w u)) (are : kids n.case w ≡ Some (left_kid, right_kid)) where
  abbrev v : WorkerNote
  v = placed_at n.case w u

  abbrev kid : Side → ℕ
  kid s = at_side s left_kid right_kid

  -- a part that is not in the worker's hand is out, on the loan that the worker knows
  abbrev IsOut : Side → Lot → Type 0
  IsOut s lot = (is_out s u.hand ≡ true) × IsOnLoan n.case (kid s) (lent_to s v) lot

  whole_on_loan : (c : WorkerNote) (place : ℕ) (lot : Lot) → HoldsWhole (placed_at n.case place c) lot → IsOnLoan n.case place c.held lot
  whole_on_loan c place lot h = record { since = h.since; outside = h.agrees.outside; inside = h.agrees.inside }

  out_part : (s : Side) (lot : Lot) → IsPart n s v (kid s) lot → (part_of s u.holding ≡ Some lot) ⊎ IsOut s lot
  out_part s lot (InHand e) = inl e
  out_part s lot (GoesDown edge) =
      let c = worker_at laws n r.rule (kid s) (under laws n.case s w left_kid right_kid are).there in
      let over = r.rule.ties.lets s w left_kid right_kid v (placed_at n.case (kid s) c.0) (Lent lot) are at edge c.1 in
      inr (over.out, subst (λ (x : LotCounts). IsOnLoan n.case (kid s) x lot) over.loan.lent (laws.on_loan n.case (kid s) lot))
  out_part s lot (GoesUp edge) =
      let c = worker_at laws n r.rule (kid s) (under laws n.case s w left_kid right_kid are).there in
      let over = r.rule.ties.lets s w left_kid right_kid v (placed_at n.case (kid s) c.0) (Given lot) are at edge c.1 in
      inr ((laws.take_turns s u.hand over.recalled.take).out, over.served.loan)
  out_part s lot (WithChild child there whole) =
      let rule = r.keep (kid s) child there in
      let opened : is_open child.hand ≡ true = ap is_open (rule.shape ∙ ap hand_of whole) in
      let part = kid_has laws n r.rule s w left_kid right_kid v child are at there opened in
      let placed = as_placed laws n r.rule (kid s) child there in
      let holds : HoldsWhole child lot = subst (λ (h : Holding). Holds child h) whole rule.holds in
      inr (
        part.out,
        subst (λ (x : LotCounts). IsOnLoan n.case (kid s) x lot) part.held
            (whole_on_loan child (kid s) lot (subst (λ (x : WorkerNote). HoldsWhole x lot) placed holds)),
      )

  module _ (left right : Lot) (a : IsPart n Left v left_kid left) (b : IsPart n Right v right_kid right) where
    pair_up : (fork : List ℕ) → AreAtMost u.held.since fork → IsOnLoan n.case left_kid (left_loan u.held fork) left
        → IsOnLoan n.case right_kid (right_loan fork) right → LotsPaired n.case left_kid right_kid left right
    pair_up fork since x y = laws.paired n.case left_kid right_kid u.held.since fork left right since x y

    -- a part that was lent is on the loan with which it was
    lent_on : (s : Side) (part lot : Lot) (loan : LotCounts) → part ≡ lot → counts_of part ≡ loan → IsOnLoan n.case (kid s) loan lot
    lent_on s part lot loan same is =
        subst (λ (x : Lot). IsOnLoan n.case (kid s) loan x) same
        (subst (λ (x : LotCounts). IsOnLoan n.case (kid s) x part) is (laws.on_loan n.case (kid s) part))

    on_as : (s : Side) (part lot : Lot) (loan as_lent : LotCounts) → part ≡ lot → as_lent ≡ loan → IsOnLoan n.case (kid s) as_lent part
        → IsOnLoan n.case (kid s) loan lot
    on_as s part lot loan as_lent same is on =
        subst (λ (x : Lot). IsOnLoan n.case (kid s) loan x) same (subst (λ (x : LotCounts). IsOnLoan n.case (kid s) x part) is on)

    never : false ≡ true → ⊥
    never e = cc

    shut : {P : Type 0} (s : Side) (h : Holding) → u.hand ≡ hand_of h → is_out s (hand_of h) ≡ false → is_out s u.hand ≡ true → P
    shut s h hand not_out out = absurd (never (sym not_out ∙ sym (ap (is_out s) hand) ∙ out))

    -- by what is in the worker's hand
    by_fork : (h : Holding) → Holds v h → u.hand ≡ hand_of h → (part_of Left h ≡ Some left) ⊎ IsOut Left left
        → (part_of Right h ≡ Some right) ⊎ IsOut Right right
        → LotsPaired n.case left_kid right_kid left right
    by_fork NoLot h hand (inl x) y = cc
    by_fork NoLot h hand (inr x) y = shut Left NoLot hand refl x.0
    by_fork (WholeLot lot) h hand (inl x) y = cc
    by_fork (WholeLot lot) h hand (inr x) y = shut Left (WholeLot lot) hand refl x.0
    by_fork (LendingBoth a b) h hand (inl x) (inl y) =
        pair_up a.upto h.forked.since (lent_on Left a left (left_loan u.held a.upto) (some_lot x) (h.left left_kid right_kid are).loaned)
        (lent_on Right b right (right_loan a.upto) (some_lot y) (h.right left_kid right_kid are).loaned)
    by_fork (LendingBoth a b) h hand (inr x) y = shut Left (LendingBoth a b) hand refl x.0
    by_fork (LendingBoth a b) h hand (inl x) (inr y) = shut Right (LendingBoth a b) hand refl y.0
    by_fork (LendingLeft a) h hand (inl x) (inr y) =
        pair_up a.upto h.forked.since (lent_on Left a left (left_loan u.held a.upto) (some_lot x) (h.left left_kid right_kid are).loaned)
        (on_as Right right right (right_loan a.upto) u.lent_right refl h.right y.1)
    by_fork (LendingLeft a) h hand x (inl y) = cc
    by_fork (LendingLeft a) h hand (inr x) y = shut Left (LendingLeft a) hand refl x.0
    by_fork (LendingRight b) h hand (inr x) (inl y) =
        pair_up b.upto h.forked.since (on_as Left left left (left_loan u.held b.upto) u.lent_left refl h.left x.1)
        (lent_on Right b right (right_loan b.upto) (some_lot y) (h.right left_kid right_kid are).loaned)
    by_fork (LendingRight b) h hand (inl x) y = cc
    by_fork (LendingRight b) h hand x (inr y) = shut Right (LendingRight b) hand refl y.0
    by_fork BothOut h hand (inr x) (inr y) =
        pair_up u.lent_left.upto h.forked.since (on_as Left left left (left_loan u.held u.lent_left.upto) u.lent_left refl h.left x.1)
        (on_as Right right right (right_loan u.lent_left.upto) u.lent_right refl h.right y.1)
    by_fork BothOut h hand (inl x) y = cc
    by_fork BothOut h hand x (inl y) = cc
    by_fork (TakingLeft a) h hand (inl x) (inr y) =
        let target = some_there u.kept h.kept in
        pair_up u.lent_left.upto h.down.forked.since
        (on_as Left a left (left_loan u.held u.lent_left.upto) u.lent_left (some_lot x) h.down.left
        (h.served target.0 left_kid right_kid target.1 are).loan)
        (on_as Right right right (right_loan u.lent_left.upto) u.lent_right refl h.down.right y.1)
    by_fork (TakingLeft a) h hand x (inl y) = cc
    by_fork (TakingLeft a) h hand (inr x) y = shut Left (TakingLeft a) hand refl x.0
    by_fork (TakingRight b) h hand (inr x) (inl y) =
        let target = some_there u.kept h.kept in
        pair_up u.lent_left.upto h.down.forked.since (on_as Left left left (left_loan u.held u.lent_left.upto) u.lent_left refl h.down.left x.1)
        (on_as Right b right (right_loan u.lent_left.upto) u.lent_right (some_lot y) h.down.right
        (h.served target.0 left_kid right_kid target.1 are).loan)
    by_fork (TakingRight b) h hand (inl x) y = cc
    by_fork (TakingRight b) h hand x (inr y) = shut Right (TakingRight b) hand refl y.0
    by_fork Gone h hand (inl x) y = cc
    by_fork Gone h hand (inr x) y = shut Left Gone hand refl x.0

    pub paired : LotsPaired n.case left_kid right_kid left right
    paired = by_fork u.holding (r.keep w v at).holds (r.keep w v at).shape (out_part Left left a) (out_part Right right b)

pub parts_paired : LawsBelow → PartsArePaired
parts_paired laws k old new steps w l r worker left right start run at are a b =
    let reached = runs_keep laws k old new steps start run in
    let here : kids new.case w ≡ Some (l, r) = ap (λ (c : Content). kids c w) reached.case ∙ are in
    let placed : worker ≡ placed_at new.case w worker = as_placed laws new reached.rule w worker at in
    subst (λ (c : Content). LotsPaired c l r left right) reached.case
    (paired laws k new reached w l r worker (at ∙ ap Some placed) here left right (subst (λ (x : WorkerNote). IsPart new Left x l left) placed a)
    (subst (λ (x : WorkerNote). IsPart new Right x r right) placed b))
