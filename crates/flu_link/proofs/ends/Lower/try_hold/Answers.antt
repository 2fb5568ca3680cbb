use Rattle.std.proofs.Common.{rules, arith, ap, subst, sym, ◌∙◌, refl, ◌≤◌, ℕ}
use Rattle.flu_link.specs.Seats.{Sat}
use Rattle.flu_link.specs.Notes.{LowerNote}
use Rattle.flu_link.proofs.LowerSteps.{hold, held_stores}
use Rattle.flu_link.proofs.Hands.{lower_now, lower_told, held, hold_tells, peeked_below, swapped, in_hand, bared}
use Rattle.flu_link.proofs.ends.Lower.try_hold.Goals as goal

pub load-requires : goal.load-requires
load-requires c = (search rules, rw (c.deref.ensures, c.self.invariant.words) (omega arith), hold _ _ _ _ c.self.invariant.bottom c.self.invariant.inside)

pub invariant_of-self : goal.invariant_of-self
invariant_of-self c = let h = c.load.ensures.2 _ c.self.invariant.bottom in
    lower_now _ _ _ _ _ (search rules) c.self.invariant.words (bared _ _ _ _ (h.other c.if-load-ne-LENT.true) c.self.invariant.bare) c.self.invariant.inside

pub returns-then-load-ne-LENT-clause-not_yet : goal.returns-then-load-ne-LENT-clause-not_yet
returns-then-load-ne-LENT-clause-not_yet c = let h = c.load.ensures.2 _ c.self.invariant.bottom in
    let p = peeked_below _ _ _ _ _ _ _ c.self.invariant c.self.view_is (lower_told _ _ _ _ _ _ c.load.ensures.0 (h.other c.if-load-ne-LENT.true)) in
    (p.note, λ z. c.if-load-ne-LENT.true (sym p.phase ∙ z))

pub returns-then-load-ne-LENT-clause-still : goal.returns-then-load-ne-LENT-clause-still
returns-then-load-ne-LENT-clause-still c = let h = c.load.ensures.2 _ c.self.invariant.bottom in
    let p = peeked_below _ _ _ _ _ _ _ c.self.invariant c.self.view_is (lower_told _ _ _ _ _ _ c.load.ensures.0 (h.other c.if-load-ne-LENT.true)) in
    λ a b. subst (λ (z : ℕ). (1 ≤ z) × (z ≤ 2)) (sym p.phase) (h.still (subst (λ (z : LowerNote). 1 ≤ z.phase) (sym c.self.view_is) a)
    (subst (λ (z : LowerNote). z.phase ≤ 2) (sym c.self.view_is) b))

pub exchange-lot-requires : goal.exchange-lot-requires
exchange-lot-requires c = let h = held _ _ _ _ (c.load.ensures.2 _ c.self.invariant.bottom) c.self.invariant.bare c.if-load-ne-LENT.false in
    (search rules, in_hand _ _ _ h.seat)

pub store-requires : goal.store-requires
store-requires c = let h = held _ _ _ _ (c.load.ensures.2 _ c.self.invariant.bottom) c.self.invariant.bare c.if-load-ne-LENT.false in
    let after = swapped _ _ _ _ _ h.seat c.exchange-lot.ensures.3 in (
      search rules,
      rw (c.deref.ensures, c.self.invariant.words) (omega arith),
      held_stores _ _ _ _ (ap (λ (m : Sat). m.0) after) (ap (λ (m : Sat). m.1) after) refl refl,
    )

pub invariant_of-self-2 : goal.invariant_of-self-2
invariant_of-self-2 c = let h = held _ _ _ _ (c.load.ensures.2 _ c.self.invariant.bottom) c.self.invariant.bare c.if-load-ne-LENT.false in
    let after = swapped _ _ _ _ _ h.seat c.exchange-lot.ensures.3 in
    lower_now _ _ _ _ _ (search rules) c.self.invariant.words (c.store.ensures.2 _ (ap (λ (m : Sat). m.0) after)) refl

pub returns-clause-note : goal.returns-clause-note
returns-clause-note c = let h = held _ _ _ _ (c.load.ensures.2 _ c.self.invariant.bottom) c.self.invariant.bare c.if-load-ne-LENT.false in
    let after = swapped _ _ _ _ _ h.seat c.exchange-lot.ensures.3 in
    (hold_tells _ _ _ _ _ _ _ _ h _ c.self.invariant c.self.view_is (c.store.ensures.0
    ∙ (c.exchange-lot.ensures.0 ∙ c.load.ensures.0)) c.exchange-lot.ensures.2 (c.store.ensures.2 _ (ap (λ (m : Sat). m.0) after))).note

pub returns-clause-fits : goal.returns-clause-fits
returns-clause-fits c = let h = held _ _ _ _ (c.load.ensures.2 _ c.self.invariant.bottom) c.self.invariant.bare c.if-load-ne-LENT.false in
    let after = swapped _ _ _ _ _ h.seat c.exchange-lot.ensures.3 in
    (hold_tells _ _ _ _ _ _ _ _ h _ c.self.invariant c.self.view_is (c.store.ensures.0
    ∙ (c.exchange-lot.ensures.0 ∙ c.load.ensures.0)) c.exchange-lot.ensures.2 (c.store.ensures.2 _ (ap (λ (m : Sat). m.0) after))).fits

pub returns-clause-grown : goal.returns-clause-grown
returns-clause-grown c = let h = held _ _ _ _ (c.load.ensures.2 _ c.self.invariant.bottom) c.self.invariant.bare c.if-load-ne-LENT.false in
    let after = swapped _ _ _ _ _ h.seat c.exchange-lot.ensures.3 in
    (hold_tells _ _ _ _ _ _ _ _ h _ c.self.invariant c.self.view_is (c.store.ensures.0
    ∙ (c.exchange-lot.ensures.0 ∙ c.load.ensures.0)) c.exchange-lot.ensures.2 (c.store.ensures.2 _ (ap (λ (m : Sat). m.0) after))).grown

pub returns-clause-not_yet : goal.returns-clause-not_yet
returns-clause-not_yet c = let h = held _ _ _ _ (c.load.ensures.2 _ c.self.invariant.bottom) c.self.invariant.bare c.if-load-ne-LENT.false in
    let after = swapped _ _ _ _ _ h.seat c.exchange-lot.ensures.3 in
    (hold_tells _ _ _ _ _ _ _ _ h _ c.self.invariant c.self.view_is (c.store.ensures.0
    ∙ (c.exchange-lot.ensures.0 ∙ c.load.ensures.0)) c.exchange-lot.ensures.2 (c.store.ensures.2 _ (ap (λ (m : Sat). m.0) after))).none

pub returns-clause-still : goal.returns-clause-still
returns-clause-still c = let h = held _ _ _ _ (c.load.ensures.2 _ c.self.invariant.bottom) c.self.invariant.bare c.if-load-ne-LENT.false in
    let after = swapped _ _ _ _ _ h.seat c.exchange-lot.ensures.3 in
    (hold_tells _ _ _ _ _ _ _ _ h _ c.self.invariant c.self.view_is (c.store.ensures.0
    ∙ (c.exchange-lot.ensures.0 ∙ c.load.ensures.0)) c.exchange-lot.ensures.2 (c.store.ensures.2 _ (ap (λ (m : Sat). m.0) after))).still
