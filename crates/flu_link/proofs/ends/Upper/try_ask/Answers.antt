use Rattle.std.proofs.Common.{rules, ap, sym, ◌≡◌, ℕ, arith, subst, get_or}
use Rattle.flu_fork.specs.Serving.{AsksAbove}
use Rattle.flu_link.specs.Seats.{Sat, ask}
use Rattle.flu_link.specs.Notes.{UpperNote}
use Rattle.flu_link.proofs.UpperSteps.{looks, itag_stores, index_stores, asked_stores}
use Rattle.flu_link.proofs.ends.Upper.try_ask.Goals as goal

pub load-requires : goal.load-requires
load-requires c = (search rules, rw (c.deref.ensures, c.self.invariant.words) (omega arith), looks _ _ _ _ c.self.invariant.top)

pub store-requires : goal.store-requires
store-requires c = let at = (c.load.ensures.2 _ c.self.invariant.top).0 in
    (search rules, rw (c.deref.ensures, c.self.invariant.words) (omega arith), itag_stores _ _ _ _ _ (ap (λ (m : Sat). m.0) at) (search rules))

pub store-requires-2 : goal.store-requires-2
store-requires-2 c = let at = (c.load.ensures.2 _ c.self.invariant.top).0 in let at' = c.store.ensures.2 _ (ap (λ (m : Sat). m.0) at) in
    (search rules, rw (c.deref.ensures, c.self.invariant.words) (omega arith), index_stores _ _ _ _ _ (ap (λ (m : Sat). m.0) at') (search rules))

pub store-requires-3 : goal.store-requires-3
store-requires-3 c = let at = (c.load.ensures.2 _ c.self.invariant.top).0 in let at' = c.store.ensures.2 _ (ap (λ (m : Sat). m.0) at) in
    let at'' = c.store-2.ensures.2 _ (ap (λ (m : Sat). m.0) at') in
    let note = c.self.view_is in (
      search rules,
      rw (c.deref.ensures, c.self.invariant.words) (omega arith),
      asked_stores _ _ _ _ (ap (λ (m : Sat). m.0) at'') (search rules) record {
        above = subst (λ (z : UpperNote). AsksAbove z.case z.lower (ask c.from.result c.args.a.index)) (sym note)
            (subst (λ (i : ℕ). AsksAbove c.args.self.now.case c.args.self.now.lower (ask i c.args.a.index)) (sym c.from.ensures) c.requires.above);
        index = subst (λ (z : UpperNote). c.args.a.index ≡ get_or z.lent.upto c.from.result 0) (sym note)
            (subst (λ (i : ℕ). c.args.a.index ≡ get_or c.args.self.now.lent.upto i 0) (sym c.from.ensures) c.requires.next);
        small = search rules;
      },
    )
