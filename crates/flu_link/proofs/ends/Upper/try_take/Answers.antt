use Rattle.std.proofs.Common.{rules, arith, subst, sym, ◌∙◌, inl, ◌≤◌, ℕ, Option, Some, None}
use Rattle.std.specs.Prelude.{IfNone}
use Rattle.flu_link.specs.Notes.{UpperNote}
use Rattle.flu_link.proofs.UpperSteps.{fetch}
use Rattle.flu_link.proofs.Hands.{upper_now, upper_told, took, took_hand, takes, emptied, peeked}
use Rattle.flu_link.proofs.ends.Upper.try_take.Goals as goal

pub load-requires : goal.load-requires
load-requires c = (search rules, rw (c.deref.ensures, c.self.invariant.words) (omega arith), fetch _ _ _ _ c.self.invariant.top)

pub invariant_of-self : goal.invariant_of-self
invariant_of-self c = let f = c.load.ensures.2 _ c.self.invariant.top in
    upper_now _ _ _ _ _ _ (search rules) c.self.invariant.words (f.other c.if-load-ne-GIVEN.true) c.self.invariant.hand

pub returns-then-load-ne-GIVEN-clause-not_yet : goal.returns-then-load-ne-GIVEN-clause-not_yet
returns-then-load-ne-GIVEN-clause-not_yet c = let f = c.load.ensures.2 _ c.self.invariant.top in
    let p = peeked _ _ _ _ _ _ _ c.self.invariant c.self.view_is (upper_told _ _ _ _ _ _ c.load.ensures.0 (f.other c.if-load-ne-GIVEN.true)) in
    (p.note, inl (λ z. c.if-load-ne-GIVEN.true (sym p.phase ∙ z)))

pub returns-then-load-ne-GIVEN-clause-still : goal.returns-then-load-ne-GIVEN-clause-still
returns-then-load-ne-GIVEN-clause-still c = let f = c.load.ensures.2 _ c.self.invariant.top in
    let p = peeked _ _ _ _ _ _ _ c.self.invariant c.self.view_is (upper_told _ _ _ _ _ _ c.load.ensures.0 (f.other c.if-load-ne-GIVEN.true)) in
    λ le. subst (λ (z : ℕ). z ≤ 1) (sym p.phase) (f.still (subst (λ (z : UpperNote). z.phase ≤ 1) (sym c.self.view_is) le))

pub exchange-requires : goal.exchange-requires
exchange-requires c = let f = c.load.ensures.2 _ c.self.invariant.top in let t = took _ _ _ _ f c.self.invariant.hand c.if-load-ne-GIVEN.false in
    (search rules, took_hand _ _ _ t.1)

pub invariant_of-self-2 : goal.invariant_of-self-2
invariant_of-self-2 c = let f = c.load.ensures.2 _ c.self.invariant.top in let t = took _ _ _ _ f c.self.invariant.hand c.if-load-ne-GIVEN.false in
    emptied _ _ _ _ _ _ _ (search rules) c.self.invariant.words t.1 c.exchange.ensures.3

pub returns-clause-note : goal.returns-clause-note
returns-clause-note c = let f = c.load.ensures.2 _ c.self.invariant.top in let t = took _ _ _ _ f c.self.invariant.hand c.if-load-ne-GIVEN.false in
    (takes _ _ _ _ _ _ _ _ _ _ c.self.invariant c.self.view_is (c.exchange.ensures.0 ∙ c.load.ensures.0) t.1 c.exchange.ensures.2 c.exchange.ensures.3).note

pub returns-clause-fits : goal.returns-clause-fits
returns-clause-fits c = let f = c.load.ensures.2 _ c.self.invariant.top in let t = took _ _ _ _ f c.self.invariant.hand c.if-load-ne-GIVEN.false in
    (takes _ _ _ _ _ _ _ _ _ _ c.self.invariant c.self.view_is (c.exchange.ensures.0 ∙ c.load.ensures.0) t.1 c.exchange.ensures.2 c.exchange.ensures.3).fits

pub returns-clause-served : goal.returns-clause-served
returns-clause-served c = let f = c.load.ensures.2 _ c.self.invariant.top in let t = took _ _ _ _ f c.self.invariant.hand c.if-load-ne-GIVEN.false in
    (takes _ _ _ _ _ _ _ _ _ _ c.self.invariant c.self.view_is (c.exchange.ensures.0 ∙ c.load.ensures.0) t.1 c.exchange.ensures.2 c.exchange.ensures.3).served

pub returns-clause-asked : goal.returns-clause-asked
returns-clause-asked c = let f = c.load.ensures.2 _ c.self.invariant.top in let t = took _ _ _ _ f c.self.invariant.hand c.if-load-ne-GIVEN.false in
    (takes _ _ _ _ _ _ _ _ _ _ c.self.invariant c.self.view_is (c.exchange.ensures.0 ∙ c.load.ensures.0) t.1 c.exchange.ensures.2 c.exchange.ensures.3).asked

pub returns-clause-not_yet : goal.returns-clause-not_yet
returns-clause-not_yet c = let f = c.load.ensures.2 _ c.self.invariant.top in let t = took _ _ _ _ f c.self.invariant.hand c.if-load-ne-GIVEN.false in
    (takes _ _ _ _ _ _ _ _ _ _ c.self.invariant c.self.view_is (c.exchange.ensures.0 ∙ c.load.ensures.0) t.1 c.exchange.ensures.2 c.exchange.ensures.3).none

if_none : {A : Type 0} (o : Option A) (P : Type 0) → P → IfNone o P
if_none None P p = p
if_none (Some x) P p = tt

pub returns-clause-still : goal.returns-clause-still
returns-clause-still c = let f = c.load.ensures.2 _ c.self.invariant.top in
    if_none c.exchange.result _ (λ le. absurd (let r = f.still (subst (λ (z : UpperNote). z.phase ≤ 1) (sym c.self.view_is) le) in
    let three = c.if-load-ne-GIVEN.false in omega arith))
