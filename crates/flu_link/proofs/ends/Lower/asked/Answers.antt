use Rattle.std.proofs.Common.{rules, arith, ap, subst, sym, ◌∙◌, ◌≡◌, ◌≤◌, refl, ℕ, get_or}
use Rattle.flu_fork.specs.Serving.{AsksAbove}
use Rattle.flu_link.specs.Seats.{Sat, ask}
use Rattle.flu_link.specs.Notes.{LowerNote}
use Rattle.flu_link.proofs.LowerSteps.{looks, itag_sees, index_sees}
use Rattle.flu_link.proofs.Hands.{lower_now, lower_told, peeked_below, bared, asked_note}
use Rattle.flu_link.proofs.ends.Lower.asked.Goals as goal

pub load-requires : goal.load-requires
load-requires c = (search rules, rw (c.deref.ensures, c.self.invariant.words) (omega arith), looks _ _ _ _ c.self.invariant.bottom)

pub load-itag-requires : goal.load-itag-requires
load-itag-requires c = let a = (c.load.ensures.2 _ c.self.invariant.bottom).0 in
    (search rules, rw (c.deref.ensures, c.self.invariant.words) (omega arith), itag_sees _ _ _ _ (ap (λ (m : Sat). m.0) a) c.if-load-ne-ASKED.false)

pub load-index-requires : goal.load-index-requires
load-index-requires c = let a = (c.load.ensures.2 _ c.self.invariant.bottom).0 in let b = (c.load-itag.ensures.2 _ (ap (λ (m : Sat). m.0) a)).0 in
    (search rules, rw (c.deref.ensures, c.self.invariant.words) (omega arith), index_sees _ _ _ _ (ap (λ (m : Sat). m.0) b) c.if-load-ne-ASKED.false)

pub invariant_of-self-2 : goal.invariant_of-self-2
invariant_of-self-2 c = let a = (c.load.ensures.2 _ c.self.invariant.bottom).0 in let b = (c.load-itag.ensures.2 _ (ap (λ (m : Sat). m.0) a)).0 in
    let d = (c.load-index.ensures.2 _ _ (ap (λ (m : Sat). m.0) b) refl).0 in
    lower_now _ _ _ _ _ (search rules) c.self.invariant.words (bared _ _ _ _ d
    (ap (λ (m : Sat). m.1) b ∙ (ap (λ (m : Sat). m.1) a ∙ c.self.invariant.bare))) c.self.invariant.inside

pub returns-then-load-ne-ASKED-clause-not_yet : goal.returns-then-load-ne-ASKED-clause-not_yet
returns-then-load-ne-ASKED-clause-not_yet c = let a = c.load.ensures.2 _ c.self.invariant.bottom in
    let p = peeked_below _ _ _ _ _ _ _ c.self.invariant c.self.view_is (lower_told _ _ _ _ _ _ c.load.ensures.0 a.0) in
    (p.note, λ z. c.if-load-ne-ASKED.true (sym p.phase ∙ z))

pub returns-then-load-ne-ASKED-clause-still : goal.returns-then-load-ne-ASKED-clause-still
returns-then-load-ne-ASKED-clause-still c = let a = c.load.ensures.2 _ c.self.invariant.bottom in
    let p = peeked_below _ _ _ _ _ _ _ c.self.invariant c.self.view_is (lower_told _ _ _ _ _ _ c.load.ensures.0 a.0) in
    λ low high. subst (λ (z : ℕ). (1 ≤ z) × (z ≤ 2)) (sym p.phase) (a.1 (subst (λ (z : LowerNote). 1 ≤ z.phase) (sym c.self.view_is) low)
    (subst (λ (z : LowerNote). z.phase ≤ 2) (sym c.self.view_is) high))

pub returns-then-load-ne-ASKED-clause-sure : goal.returns-then-load-ne-ASKED-clause-sure
returns-then-load-ne-ASKED-clause-sure c = let a = c.load.ensures.2 _ c.self.invariant.bottom in
    λ e. absurd (c.if-load-ne-ASKED.true (a.2 (ap (λ (z : LowerNote). z.phase) c.self.view_is ∙ e)))

pub returns-clause-note : goal.returns-clause-note
returns-clause-note c = let a = (c.load.ensures.2 _ c.self.invariant.bottom).0 in let b = (c.load-itag.ensures.2 _ (ap (λ (m : Sat). m.0) a)).0 in
    let d = (c.load-index.ensures.2 _ _ (ap (λ (m : Sat). m.0) b) refl).0 in
    lower_told _ _ _ _ _ _ (c.load-index.ensures.0 ∙ (c.load-itag.ensures.0 ∙ c.load.ensures.0)) d
    ∙ asked_note _ _ _ _ _ _ _ _ c.self.invariant c.self.view_is c.if-load-ne-ASKED.false

pub returns-clause-above : goal.returns-clause-above
returns-clause-above c = let a = (c.load.ensures.2 _ c.self.invariant.bottom).0 in let b = (c.load-itag.ensures.2 _ (ap (λ (m : Sat). m.0) a)).0 in
    let d = c.load-index.ensures.2 _ _ (ap (λ (m : Sat). m.0) b) refl in
    subst (λ (z : LowerNote). AsksAbove z.case z.lower (ask c.load-itag.result c.load-index.result)) c.self.view_is d.1

pub returns-clause-next : goal.returns-clause-next
returns-clause-next c = let a = (c.load.ensures.2 _ c.self.invariant.bottom).0 in let b = (c.load-itag.ensures.2 _ (ap (λ (m : Sat). m.0) a)).0 in
    let d = c.load-index.ensures.2 _ _ (ap (λ (m : Sat). m.0) b) refl in
    subst (λ (z : LowerNote). c.load-index.result ≡ get_or z.held.upto c.load-itag.result 0) c.self.view_is d.2
