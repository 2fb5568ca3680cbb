use Rattle.std.proofs.Common.{rules, arith, ap, subst, sym, ◌∙◌, refl, inl}
use Rattle.flu_fork.specs.Lots.{LotFits}
use Rattle.flu_fork.specs.Serving.{GrownFrom}
use Rattle.flu_link.specs.Seats.{Sat}
use Rattle.flu_link.specs.Notes.{UpperNote, after_lend}
use Rattle.flu_link.proofs.UpperSteps.{fetch, lent_stores}
use Rattle.flu_link.proofs.Hands.{upper_now, upper_told, took, took_none, took_hand, peeked, swapped}
use Rattle.flu_link.proofs.ends.Upper.try_lend.Goals as goal

pub load-requires : goal.load-requires
load-requires c = (search rules, rw (c.deref.ensures, c.self.invariant.words) (omega arith), fetch _ _ _ _ c.self.invariant.top)

pub invariant_of-self : goal.invariant_of-self
invariant_of-self c = let f = c.load.ensures.2 _ c.self.invariant.top in
    upper_now _ _ _ _ _ _ (search rules) c.self.invariant.words (f.other c.if-load-ne-GIVEN.true) c.self.invariant.hand

pub returns-then-load-ne-GIVEN-clause-not_yet : goal.returns-then-load-ne-GIVEN-clause-not_yet
returns-then-load-ne-GIVEN-clause-not_yet c = let f = c.load.ensures.2 _ c.self.invariant.top in
    let p = peeked _ _ _ _ _ _ _ c.self.invariant c.self.view_is (upper_told _ _ _ _ _ _ c.load.ensures.0 (f.other c.if-load-ne-GIVEN.true)) in
    (refl, p.note, λ z. c.if-load-ne-GIVEN.true (sym p.phase ∙ z))

pub returns-then-load-ne-GIVEN-clause-sure : goal.returns-then-load-ne-GIVEN-clause-sure
returns-then-load-ne-GIVEN-clause-sure c = let f = c.load.ensures.2 _ c.self.invariant.top in
    λ e. absurd (c.if-load-ne-GIVEN.true (f.sure (ap (λ (z : UpperNote). z.phase) c.self.view_is ∙ e)))

pub exchange-requires : goal.exchange-requires
exchange-requires c = let f = c.load.ensures.2 _ c.self.invariant.top in let t = took _ _ _ _ f c.self.invariant.hand c.if-load-ne-GIVEN.false in
    (search rules, took_hand _ _ _ t.1)

pub store-requires : goal.store-requires
store-requires c =
    let note = c.self.view_is in
    let f = c.load.ensures.2 _ c.self.invariant.top in let t = took _ _ _ _ f c.self.invariant.hand c.if-load-ne-GIVEN.false in
    let free = ap (λ (z : UpperNote). z.taken) note ∙ c.requires.free in
    let after = swapped _ _ _ _ _ (took_none _ _ _ t.1 free) c.exchange.ensures.3 in (
      search rules,
      rw (c.deref.ensures, c.self.invariant.words) (omega arith),
      lent_stores _ _ _ _ c.args.lot (ap (λ (m : Sat). m.0) after) (ap (λ (m : Sat). m.1) after) refl refl record {
        fits = subst (λ (z : UpperNote). LotFits z.case z.lower c.args.lot) (sym note) c.requires.fits;
        grown = subst (λ (z : UpperNote). GrownFrom z.case z.lower z.received c.args.lot.upto) (sym note) c.requires.grown;
        free = free;
      },
    )

pub invariant_of-self-2 : goal.invariant_of-self-2
invariant_of-self-2 c =
    let f = c.load.ensures.2 _ c.self.invariant.top in let t = took _ _ _ _ f c.self.invariant.hand c.if-load-ne-GIVEN.false in
    let free = ap (λ (z : UpperNote). z.taken) c.self.view_is ∙ c.requires.free in
    let after = swapped _ _ _ _ _ (took_none _ _ _ t.1 free) c.exchange.ensures.3 in
    let last = c.store.ensures.2 _ c.args.lot (ap (λ (m : Sat). m.0) after) (ap (λ (m : Sat). m.1) after) in
    upper_now _ _ _ _ _ _ (search rules) c.self.invariant.words last (inl (refl, refl))

pub returns-clause-lent : goal.returns-clause-lent
returns-clause-lent c =
    let f = c.load.ensures.2 _ c.self.invariant.top in let t = took _ _ _ _ f c.self.invariant.hand c.if-load-ne-GIVEN.false in
    let free = ap (λ (z : UpperNote). z.taken) c.self.view_is ∙ c.requires.free in
    let after = swapped _ _ _ _ _ (took_none _ _ _ t.1 free) c.exchange.ensures.3 in
    let last = c.store.ensures.2 _ c.args.lot (ap (λ (m : Sat). m.0) after) (ap (λ (m : Sat). m.1) after) in
    upper_told _ _ _ _ _ _ (c.store.ensures.0 ∙ (c.exchange.ensures.0 ∙ c.load.ensures.0)) last
    ∙ ap (λ (z : UpperNote). after_lend z c.args.lot) c.self.view_is
