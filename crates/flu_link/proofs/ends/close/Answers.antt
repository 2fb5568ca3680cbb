use Rattle.std.proofs.Common.{arith, ap, sym, ◌∙◌, subst, ◌≡◌, ◌≤◌, ℕ, List, Option, None, ◌∷◌}
use Rattle.atomic_table.specs.Table.{rest}
use Rattle.flu_fork.specs.declared.lots.Lot.{Lot}
use Rattle.flu_link.specs.Notes.{UpperNote, LowerNote}
use Rattle.flu_link.specs.Ends.{Closes}
use Rattle.flu_link.proofs.Whole.{joins, closes}
use Rattle.flu_link.proofs.Hands.{joined, last, closed, agreed, hand_kept}
use Rattle.flu_link.proofs.ends.close.Goals as goal

pub join_seat-requires : goal.join_seat-requires
join_seat-requires c =
    let same = ap (λ (e : LowerNote). e.link) c.lower.view_is ∙ (c.requires ∙ sym (ap (λ (e : UpperNote). e.link) c.upper.view_is)) in
    let here = c.upper.invariant.here ∙ ap (λ t. t.shared.table_id) (sym c.deref.ensures) in (
      here,
      same ∙ here,
      c.lower.invariant.bare,
      rw (c.deref.ensures, c.upper.invariant.words) (omega arith),
      joins _ _ _ _ _ _ c.upper.invariant.top c.lower.invariant.bottom,
    )

pub load-requires : goal.load-requires
load-requires c =
    let at = c.join_seat.ensures.2 in
    let here = c.upper.invariant.here ∙ ap (λ t. t.shared.table_id) (sym c.deref-2.ensures) in (
      c.join_seat.ensures.0 ∙ here,
      rw (c.deref-2.ensures, c.upper.invariant.words) (omega arith),
      closes _ _ _ _ _ (joined c.upper.inside.place.me _ c.lower.inside.place.me _ _ c.upper.invariant.top c.lower.invariant.bottom at)
          (hand_kept _ c.upper.inside.place.me _ _ c.upper.invariant.top at c.upper.invariant.hand) c.lower.invariant.inside,
    )

pub exchange-requires : goal.exchange-requires
exchange-requires c =
    let here = c.upper.invariant.here ∙ ap (λ t. t.shared.table_id) (sym c.deref-3.ensures) in
    let e =
    c.load.ensures.2 _ _ (joined c.upper.inside.place.me _ c.lower.inside.place.me _ _ c.upper.invariant.top c.lower.invariant.bottom c.join_seat.ensures.2) in
    (c.load.ensures.0 ∙ (c.join_seat.ensures.0 ∙ here), (e.0, e.1 ∙ ap (λ (cs : List (ℕ × Option Lot)). (0, e.0) ∷ rest cs) (sym e.1)))

pub returns-clause-found : goal.returns-clause-found
returns-clause-found c =
    let e =
    c.load.ensures.2 _ _ (joined c.upper.inside.place.me _ c.lower.inside.place.me _ _ c.upper.invariant.top c.lower.invariant.bottom c.join_seat.ensures.2) in
    let t = last _ _ _ _ _ _ e.1 c.exchange.ensures.2 e.2 in (
      c.load.result,
      subst (λ (z : UpperNote × LowerNote). Closes z.0 z.1 c.load.result c.exchange.result) (λ j. (c.upper.view_is j, c.lower.view_is j))
          (closed _ _ _ _ _ _ t),
    )

pub returns-clause-agree : goal.returns-clause-agree
returns-clause-agree c =
    let e =
    c.load.ensures.2 _ _ (joined c.upper.inside.place.me _ c.lower.inside.place.me _ _ c.upper.invariant.top c.lower.invariant.bottom c.join_seat.ensures.2) in
    let t = last _ _ _ _ _ _ e.1 c.exchange.ensures.2 e.2 in
    subst (λ (z : UpperNote × LowerNote). z.0.phase ≤ 1 → z.1.phase ≡ 1 → (c.exchange.result ≡ None) × (z.1.held ≡ z.0.lent))
    (λ j. (c.upper.view_is j, c.lower.view_is j)) (agreed _ _ _ _ t)
