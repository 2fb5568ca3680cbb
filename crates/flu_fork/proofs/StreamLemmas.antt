-- Prefix and exact by the events of the streams: an event stands in front of another in the fold where it is before it.
use Rattle.std.proofs.Common.{◌≡◌, ◌<◌, ℕ, true, false, List, ◌∷◌, ◌++◌, append_assoc, inl, inr, sym, ap, ◌∙◌, arith}
use Rattle.std.specs.Prelude.{nat_lt, slice_index}
use Rattle.flu_lemmas.proofs.Elements.{all_at_place, all_from_places, two_places}
use Rattle.flu_lemmas.proofs.Tests.{false_if_not, lt_true, not_both, true_lt}
use Rattle.flu_lemmas.proofs.InTime.{not_back}
use Rattle.flu_model.specs.declared.events.Event.{Event}
use Rattle.flu_model.specs.Itags.{tag_of_itag, is_dependent}
use Rattle.flu_model.specs.Merging.{is_before}
use Rattle.flu_deps.specs.Dependencies.{itags_depend}
use Rattle.flu_laws.specs.Lots.{IsExact, depends_on}
use Rattle.flu_laws.specs.Spans.{Moment, is_below}
use Rattle.flu_fork.specs.LawsBelow.{LawsBelow}
use Rattle.flu_fork.specs.Settings.{Setting, IsSetting, moments}
use Rattle.flu_fork.specs.Classes.{itag}
use Rattle.flu_fork.specs.Fitting.{IsPrefix}
use Rattle.flu_fork.specs.Places.{HasMoment}
use Rattle.flu_fork.specs.Streams.{IsStreamPrefix, IsStreamExact, PrefixesAgree, ExactnessAgrees}
use Rattle.flu_fork.proofs.PlaceLemmas.{not_before_itself, same_rest, all_earlier, all_later, moment_is_listed, has_moment}

module _ (laws : LawsBelow) (k : Setting) (ok : IsSetting k) where
  -- ---- the moment of an event
  module _ (i n : ℕ) (x : Event) (h : HasMoment k i n x) where
    of_itag : h.moment.event.itag.0 ≡ i
    of_itag = ap (λ (y : Event). y.itag.0) h.event ∙ h.itag

    below_is : (upto : List ℕ) → is_below upto h.moment ≡ nat_lt n (slice_index upto i)
    below_is upto = λ t. nat_lt (h.index t) (slice_index upto (of_itag t))

  depends_is : (i n j l : ℕ) (x y : Event) (hx : HasMoment k i n x) (hy : HasMoment k j l y)
      → depends_on k.program hx.moment hy.moment ≡ itags_depend k.program (itag i) (itag j)
  depends_is i n j l x y hx hy = λ t.
      is_dependent k.program (tag_of_itag k.program (itag (of_itag i n x hx t))) (tag_of_itag k.program (itag (of_itag j l y hy t)))

  -- an event that is before another stands in front of it
  in_front_of : (i n j l : ℕ) (x y : Event) (hx : HasMoment k i n x) (hy : HasMoment k j l y) → is_before y x ≡ true
      → (mid : List Moment) × (hx.front ≡ hy.front ++ hy.moment ∷ mid)
  in_front_of i n j l x y hx hy earlier =
      elim (two_places hx.front hy.front hx.back hy.back hx.moment hy.moment (sym hx.stands ∙ hy.stands)) [
        | inl same ↦
            (let equal : x ≡ y = sym hx.event ∙ ap (λ (m : Moment). m.event) same.1 ∙ hy.event in
            absurd (not_both _ earlier (ap (is_before y) equal ∙ not_before_itself y)))
        | inr (inl at) ↦ at
        | inr (inr at) ↦
            (let other =
            all_at_place (λ (q : Moment). is_before q.event y ≡ true) hy.front hx.front at.0 hx.moment at.1 hy.earlier in
            absurd (not_both _ earlier (not_back x.time x.itag.0 y.time y.itag.0 (ap (λ z. is_before z y) (sym hx.event) ∙ other))))
      ]

  -- ---- prefixes
  pub to_streams : (upto : List ℕ) → IsPrefix k.program (moments k) upto → IsStreamPrefix k upto
  to_streams upto prefix i n j l x y ex ey d less earlier =
      let hx = has_moment laws k ok i n x ex in
      let hy = has_moment laws k ok j l y ey in
      let at = in_front_of i n j l x y hx hy earlier in
      let all = prefix hx.front hx.back hx.moment hx.stands (below_is i n x hx upto ∙ lt_true n (slice_index upto i) less) in
      let counted =
      all_at_place (λ q. depends_on k.program hx.moment q ≡ true → is_below upto q ≡ true) hx.front hy.front at.0 hy.moment at.1 all
      (depends_is i n j l x y hx hy ∙ d) in
      true_lt l (slice_index upto j) (sym (below_is j l y hy upto) ∙ counted)

  pub from_streams : (upto : List ℕ) → IsStreamPrefix k upto → IsPrefix k.program (moments k) upto
  from_streams upto prefix before after m split counted =
      all_from_places (λ q. depends_on k.program m q ≡ true → is_below upto q ≡ true) before
      (λ us vs q e d.
      (let listed = moment_is_listed laws k ok us (vs ++ m ∷ after) q (split ∙ ap (λ l. l ++ m ∷ after) e ∙ append_assoc us (q ∷ vs) (m ∷ after)) in
      let earlier = all_at_place (λ (r : Moment). is_before r.event m.event ≡ true) before us vs q e (all_earlier laws k ok before after m split) in
      lt_true q.index (slice_index upto q.event.itag.0)
      (prefix m.event.itag.0 m.index q.event.itag.0 q.index m.event q.event (moment_is_listed laws k ok before after m split) listed d
      (true_lt m.index (slice_index upto m.event.itag.0) counted) earlier)))

  -- ---- exact
  module _ (before after : List Moment) (m : Moment) (upto : List ℕ) (split : moments k ≡ before ++ m ∷ after) where
    module _ (exact : IsExact k.program before after m upto) (j l : ℕ) (y : Event) (hy : HasMoment k j l y)
        (d : itags_depend k.program (itag m.event.itag.0) (itag j) ≡ true) where
      depends : depends_on k.program m hy.moment ≡ true
      depends = (λ t. is_dependent k.program (tag_of_itag k.program m.event.itag) (tag_of_itag k.program (itag (of_itag j l y hy t)))) ∙ d

      -- before m it is counted
      at_front : (mid : List Moment) → before ≡ hy.front ++ hy.moment ∷ mid → (l < slice_index upto j) × (is_before y m.event ≡ true)
      at_front mid at = (
        true_lt l (slice_index upto j) (sym (below_is j l y hy upto)
            ∙ all_at_place (λ q. depends_on k.program m q ≡ true → is_below upto q ≡ true) before hy.front mid hy.moment at exact.counted depends),
        ap (λ z. is_before z m.event) (sym hy.event)
            ∙ all_at_place (λ (r : Moment). is_before r.event m.event ≡ true) before hy.front mid hy.moment at (all_earlier laws k ok before after m split),
      )

      -- behind m it is not
      at_back : (mid : List Moment) → hy.front ≡ before ++ m ∷ mid → (l < slice_index upto j → ⊥) × (is_before y m.event ≡ false)
      at_back mid at =
          let rest : after ≡ mid ++ hy.moment ∷ hy.back =
          same_rest before after (mid ++ hy.moment ∷ hy.back) m m
          (sym split ∙ hy.stands ∙ ap (λ us. us ++ hy.moment ∷ hy.back) at ∙ append_assoc before (m ∷ mid) (hy.moment ∷ hy.back)) in
          let none = all_at_place (λ q. depends_on k.program m q ≡ true → is_below upto q ≡ false) after mid hy.back hy.moment rest exact.others depends in
          let later = all_at_place (λ (q : Moment). is_before q.event y ≡ true) hy.front before mid m at hy.earlier in (
            (λ less. not_both _ (lt_true l (slice_index upto j) less) (sym (below_is j l y hy upto) ∙ none)),
            not_back m.event.time m.event.itag.0 y.time y.itag.0 later,
          )

      -- and m itself is not
      at_itself : m ≡ hy.moment → (l < slice_index upto j → ⊥) × (is_before y m.event ≡ false)
      at_itself same =
          let event : y ≡ m.event = sym hy.event ∙ ap (λ (q : Moment). q.event) (sym same) in
          let index : m.index ≡ l = ap (λ (q : Moment). q.index) same ∙ hy.index in
          let of : m.event.itag.0 ≡ j = ap (λ (q : Moment). q.event.itag.0) same ∙ of_itag j l y hy in
          let next : slice_index upto j ≡ l = ap (slice_index upto) (sym of) ∙ exact.next ∙ index in
          ((λ less. absurd (omega arith)), ap (λ z. is_before z m.event) event ∙ not_before_itself m.event)

      decided : ((l < slice_index upto j) → (is_before y m.event ≡ true)) × ((is_before y m.event ≡ true) → (l < slice_index upto j))
      decided = elim (two_places before hy.front after hy.back m hy.moment (sym split ∙ hy.stands)) [
        | inl same ↦ (let f = at_itself same.1 in ((λ less. absurd (f.0 less)), (λ earlier. absurd (not_both _ earlier f.1))))
        | inr (inl at) ↦ (let f = at_front at.0 at.1 in ((λ less. f.1), (λ earlier. f.0)))
        | inr (inr at) ↦ (let f = at_back at.0 at.1 in ((λ less. absurd (f.0 less)), (λ earlier. absurd (not_both _ earlier f.1))))
      ]

    pub exact_to : IsExact k.program before after m upto → IsStreamExact k m.event.itag.0 m.index m.event upto
    exact_to exact = record { next = exact.next; others = λ j l y there d. decided exact j l y (has_moment laws k ok j l y there) d }

    pub exact_from : IsStreamExact k m.event.itag.0 m.index m.event upto → IsExact k.program before after m upto
    exact_from s = record {
      next = s.next;
      counted = all_from_places (λ q. depends_on k.program m q ≡ true → is_below upto q ≡ true) before
          (λ us vs q e d.
          (let listed = moment_is_listed laws k ok us (vs ++ m ∷ after) q (split ∙ ap (λ l. l ++ m ∷ after) e ∙ append_assoc us (q ∷ vs) (m ∷ after)) in
          let earlier = all_at_place (λ (r : Moment). is_before r.event m.event ≡ true) before us vs q e (all_earlier laws k ok before after m split) in
          lt_true q.index (slice_index upto q.event.itag.0) ((s.others q.event.itag.0 q.index q.event listed d).1 earlier)));
      others = all_from_places (λ q. depends_on k.program m q ≡ true → is_below upto q ≡ false) after
          (λ us vs q e d. false_if_not _ (λ counted.
          (let listed =
          moment_is_listed laws k ok (before ++ m ∷ us) vs q (split ∙ ap (λ l. before ++ m ∷ l) e ∙ sym (append_assoc before (m ∷ us) (q ∷ vs))) in
          let later = all_at_place (λ (r : Moment). is_before m.event r.event ≡ true) after us vs q e (all_later laws k ok before after m split) in
          not_both _ ((s.others q.event.itag.0 q.index q.event listed d).0 (true_lt q.index (slice_index upto q.event.itag.0) counted))
          (not_back m.event.time m.event.itag.0 q.event.time q.event.itag.0 later))));
    }

pub prefix_law : LawsBelow → PrefixesAgree
prefix_law laws k upto ok = (to_streams laws k ok upto, from_streams laws k ok upto)

pub exactness_law : LawsBelow → ExactnessAgrees
exactness_law laws k before after m upto ok split = (exact_to laws k ok before after m upto split, exact_from laws k ok before after m upto split)
