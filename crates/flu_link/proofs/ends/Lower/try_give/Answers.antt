use Rattle.std.proofs.Common.{rules, arith, ap, subst, sym, ◌∙◌, refl}
use Rattle.flu_fork.specs.Lots.{LotFits}
use Rattle.flu_fork.specs.Serving.{Served}
use Rattle.flu_link.specs.Seats.{Sat, ask}
use Rattle.flu_link.specs.Notes.{LowerNote, after_give}
use Rattle.flu_link.proofs.LowerSteps.{reply, given_stores}
use Rattle.flu_link.proofs.Hands.{lower_now, lower_told, peeked_below, swapped, in_hand, bared, noted, replied}
use Rattle.flu_link.proofs.ends.Lower.try_give.Goals as goal

pub load-requires : goal.load-requires
load-requires c = (search rules, rw (c.deref.ensures, c.self.invariant.words) (omega arith), reply _ _ _ _ c.self.invariant.bottom c.self.invariant.inside)

pub invariant_of-self : goal.invariant_of-self
invariant_of-self c = let h = c.load.ensures.2 _ c.self.invariant.bottom in
    lower_now _ _ _ _ _ (search rules) c.self.invariant.words (bared _ _ _ _ (h.other c.if-load-ne-ASKED.true) c.self.invariant.bare) c.self.invariant.inside

pub returns-then-load-ne-ASKED-clause-not_yet : goal.returns-then-load-ne-ASKED-clause-not_yet
returns-then-load-ne-ASKED-clause-not_yet c = let h = c.load.ensures.2 _ c.self.invariant.bottom in
    let p = peeked_below _ _ _ _ _ _ _ c.self.invariant c.self.view_is (lower_told _ _ _ _ _ _ c.load.ensures.0 (h.other c.if-load-ne-ASKED.true)) in
    (refl, p.note, λ z. c.if-load-ne-ASKED.true (sym p.phase ∙ z))

pub returns-then-load-ne-ASKED-clause-sure : goal.returns-then-load-ne-ASKED-clause-sure
returns-then-load-ne-ASKED-clause-sure c = let h = c.load.ensures.2 _ c.self.invariant.bottom in
    let p = noted _ _ _ _ _ c.self.invariant c.self.view_is c.requires.noted in
    absurd (c.if-load-ne-ASKED.true (h.noted p.itag p.itag_is))

pub exchange-requires : goal.exchange-requires
exchange-requires c = let h = replied _ _ _ _ (c.load.ensures.2 _ c.self.invariant.bottom) c.self.invariant.bare c.if-load-ne-ASKED.false in
    (search rules, in_hand _ _ _ h)

pub store-requires : goal.store-requires
store-requires c = let h = replied _ _ _ _ (c.load.ensures.2 _ c.self.invariant.bottom) c.self.invariant.bare c.if-load-ne-ASKED.false in
    let after = swapped _ _ _ _ _ h c.exchange.ensures.3 in
    let note = c.self.view_is in
    let p = noted _ _ _ _ _ c.self.invariant note c.requires.noted in (
      search rules,
      rw (c.deref.ensures, c.self.invariant.words) (omega arith),
      given_stores _ _ _ _ c.args.lot p.itag p.index (ap (λ (m : Sat). m.0) after) (ap (λ (m : Sat). m.1) after) refl refl record {
        fits = subst (λ (z : LowerNote). LotFits z.case z.lower c.args.lot) (sym note) c.requires.fits;
        itag_noted = p.itag_is;
        index_noted = p.index_is;
        served = subst (λ (z : LowerNote). Served z.case z.lower z.held (ask p.itag p.index) c.args.lot) (sym note) (c.requires.served _ p.ask_is);
      },
    )

pub invariant_of-self-2 : goal.invariant_of-self-2
invariant_of-self-2 c = let h = replied _ _ _ _ (c.load.ensures.2 _ c.self.invariant.bottom) c.self.invariant.bare c.if-load-ne-ASKED.false in
    let after = swapped _ _ _ _ _ h c.exchange.ensures.3 in
    lower_now _ _ _ _ _ (search rules) c.self.invariant.words (c.store.ensures.2 _ c.args.lot (ap (λ (m : Sat). m.0) after)
    (ap (λ (m : Sat). m.1) after)) refl

pub returns-clause-given : goal.returns-clause-given
returns-clause-given c = let h = replied _ _ _ _ (c.load.ensures.2 _ c.self.invariant.bottom) c.self.invariant.bare c.if-load-ne-ASKED.false in
    let after = swapped _ _ _ _ _ h c.exchange.ensures.3 in
    let last = c.store.ensures.2 _ c.args.lot (ap (λ (m : Sat). m.0) after) (ap (λ (m : Sat). m.1) after) in
    lower_told _ _ _ _ _ _ (c.store.ensures.0 ∙ (c.exchange.ensures.0 ∙ c.load.ensures.0)) last
    ∙ ap (λ (z : LowerNote). after_give z c.args.lot) c.self.view_is
