-- The events of one itag are in event order.
use Rattle.std.proofs.Common.{◌≡◌, ◌<◌, ◌≤◌, ℕ, true, false, Some, ◌∷◌, inl, inr, sym, ap, subst, ◌∙◌, arith}
use Rattle.std.proofs.lemmas.Bool.{cases_eq}
use Rattle.std.specs.List.{AllByRecursion}
use Rattle.flu_lemmas.proofs.Elements.{all_map, all_append, all_at_place}
use Rattle.flu_lemmas.proofs.InTime.{not_back}
use Rattle.flu_model.specs.declared.events.Event.{Event}
use Rattle.flu_model.specs.Merging.{is_before, merged}
use Rattle.flu_laws.specs.Spans.{Moment}
use Rattle.flu_fork.specs.Places.{HasMoment}
use Rattle.flu_fork.specs.Settings.{Setting, IsSetting, events_at, moments}
use Rattle.flu_fork.specs.Streams.{IsEventAt}
use Rattle.flu_worker.specs.LawsBelow.{LawsBelow}
use Rattle.flu_worker.proofs.EarliestLemmas.{not_itself}

module _ (laws : LawsBelow) (k : Setting) (ok : IsSetting k) (j n l : ℕ) (x y : Event) (ex : IsEventAt k j n x) (ey : IsEventAt k j l y) where
  a : HasMoment k j n x
  a = laws.events k j n x ok ex

  b : HasMoment k j l y
  b = laws.events k j l y ok ey

  -- of the moments of the itag that are behind that of x none is before x
  abbrev Behind : Moment → Type 0
  Behind q = q.event.itag.0 ≡ j → n < q.index → is_before q.event x ≡ false

  itag_a : a.moment.event.itag.0 ≡ j
  itag_a = ap (λ (e : Event). e.itag.0) a.event ∙ a.itag

  in_front : AllByRecursion Behind a.front
  in_front =
      all_map (λ q. q.event.itag.0 ≡ a.moment.event.itag.0 → q.index < a.moment.index) Behind a.front
      (λ q h same lt. absurd (let less = h (same ∙ sym itag_a) in let at = a.index in omega arith))
      (laws.rising k.program k.opening (λ i. 0) (merged k.lists) a.front a.back a.moment a.stands)

  here : Behind a.moment
  here same lt = absurd (let at = a.index in omega arith)

  behind : AllByRecursion Behind a.back
  behind = all_map (λ q. is_before x q.event ≡ true) Behind a.back (λ q h same lt. not_back x.time x.itag.0 q.event.time q.event.itag.0 h) a.later

  all_behind : AllByRecursion Behind (moments k)
  all_behind = subst (AllByRecursion Behind) (sym a.stands) (all_append Behind a.front (a.moment ∷ a.back) in_front (here, behind))

  later : n < l → is_before y x ≡ false
  later lt =
      let at = b.index in
      sym (ap (λ (e : Event). is_before e x) b.event)
      ∙ all_at_place Behind (moments k) b.front b.back b.moment b.stands all_behind (ap (λ (e : Event). e.itag.0) b.event ∙ b.itag) (omega arith)

  -- an event of an itag is not before those with smaller indices
  pub rises : n ≤ l → is_before y x ≡ false
  rises le = elim (cases_eq n l) [
    | inl same ↦
        let one : x ≡ y = some_event (sym ex ∙ ap (Rattle.std.specs.Prelude.slice_get (events_at k j)) same ∙ ey) in
        ap (is_before y) one ∙ not_itself y
    | inr apart ↦ later (omega arith)
  ]
    where
      some_event : {u v : Event} → Some u ≡ Some v → u ≡ v
      some_event e = cc
