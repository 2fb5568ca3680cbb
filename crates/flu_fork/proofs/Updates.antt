-- The central law at a node: a lot that is updated with an event that is exact for its counts fits again.
use Rattle.std.proofs.Common.{◌≡◌, ◌≤◌, ◌<◌, ◌+◌, ℕ, true, false, cond, Some, List, ◌∷◌, ◌++◌, length, ◌⊎◌, inl, inr, refl, sym, ap, subst, ◌∙◌, arith}
use Rattle.std.specs.Prelude.{◌==◌, slice_index}
use Rattle.std.specs.List.{AllByRecursion}
use Rattle.std.proofs.lemmas.Bool.{cases_Bool, cases_lt}
use Rattle.flu_lemmas.proofs.Elements.{all_map, all_back, two_places, all_at_place}
use Rattle.flu_lemmas.proofs.Searches.{eq_true}
use Rattle.flu_lemmas.proofs.Tests.{true_eq, true_lt, lt_true, not_both}
use Rattle.flu_model.specs.declared.jobs.Program.{Program}
use Rattle.flu_model.specs.Contents.{Contents}
use Rattle.flu_model.specs.Itags.{count_of_itags}
use Rattle.flu_model.specs.Owners.{owner_of}
use Rattle.flu_model.specs.Merging.{merged}
use Rattle.flu_model.specs.Updates.{effect_of}
use Rattle.flu_laws.specs.Spans.{Moment, is_below}
use Rattle.flu_laws.specs.Lots.{CellsFit, IsExact, CountsOneMore, GoesWithClasses, UpdatesToFit, depends_on}
use Rattle.flu_fork.specs.LawsBelow.{LawsBelow}
use Rattle.flu_fork.specs.Settings.{Setting, IsSetting, events_at, moments}
use Rattle.flu_fork.specs.Classes.{below, is_base, is_away}
use Rattle.flu_fork.specs.Fitting.{IsPrefix, Fits}
use Rattle.flu_fork.specs.Laws.{UpdatesWell, CentralLaw}
use Rattle.flu_fork.proofs.Sides.{owner_is_below, owner_is_there}
use Rattle.flu_fork.proofs.Cells.{needed_is_base, away_unwritten}
use Rattle.flu_fork.proofs.Moments.{events_in_range, moments_in_range, moments_there}
use Rattle.flu_fork.proofs.Holding.{fitting_law}

-- ---- counts with one more
module _ (i : ℕ) (upto more : List ℕ) (one_more : CountsOneMore i upto more) where
  more_at : slice_index more i ≡ slice_index upto i + 1
  more_at = one_more i ∙ ap (λ b. cond b (slice_index upto i + 1) (slice_index upto i)) (eq_true i i refl)

  more_cases : (j : ℕ) → ((j ≡ i) × (slice_index more j ≡ slice_index upto j + 1)) ⊎ (slice_index more j ≡ slice_index upto j)
  more_cases j =
      elim (cases_Bool (j == i)) [
        | inl h ↦ inl (true_eq j i h, one_more j ∙ ap (λ b. cond b (slice_index upto j + 1) (slice_index upto j)) h)
        | inr h ↦ inr (one_more j ∙ ap (λ b. cond b (slice_index upto j + 1) (slice_index upto j)) h)
      ]

  more_least : (j : ℕ) → slice_index upto j ≤ slice_index more j
  more_least j = elim (more_cases j) [ inl h ↦ (let a = h.1 in omega arith) | inr h ↦ omega arith ]

  below_more : (q : Moment) → is_below upto q ≡ true → is_below more q ≡ true
  below_more q e =
      let less = true_lt q.index (slice_index upto q.event.itag.0) e in
      let least = more_least q.event.itag.0 in
      lt_true q.index (slice_index more q.event.itag.0) (omega arith)

-- ---- the counted events are a prefix with one more
-- of the moments of one itag, each has a greater place than those before it
abbrev Rises : List Moment → Type 0
Rises ms =
    (before after : List Moment) (m : Moment) → ms ≡ before ++ m ∷ after
    → AllByRecursion (λ (q : Moment). q.event.itag.0 ≡ m.event.itag.0 → q.index < m.index) before

module _ (p : Program) (ms before after : List Moment) (m : Moment) (upto more : List ℕ) (split : ms ≡ before ++ m ∷ after) (rise : Rises ms)
    (exact : IsExact p before after m upto) (one_more : CountsOneMore m.event.itag.0 upto more) (prefix : IsPrefix p ms upto) where
  -- a moment of m's itag with m's index is at m's place
  same_place : (front back : List Moment) (q : Moment) → ms ≡ front ++ q ∷ back → q.event.itag.0 ≡ m.event.itag.0 → q.index ≡ m.index
      → (before ≡ front) × (m ≡ q)
  same_place front back q there itag index =
      elim (two_places before front after back m q (sym split ∙ there)) [
        | inl same ↦ same
        | inr (inl h) ↦
            let earlier = rise before after m split in
            let at = (all_back (λ (r : Moment). r.event.itag.0 ≡ m.event.itag.0 → r.index < m.index) front (q ∷ h.0)
            (subst (AllByRecursion (λ (r : Moment). r.event.itag.0 ≡ m.event.itag.0 → r.index < m.index)) h.1 earlier)).0 in
            let less : q.index < m.index = at itag in
            absurd (omega arith)
        | inr (inr h) ↦
            let earlier = rise front back q there in
            let at = (all_back (λ (r : Moment). r.event.itag.0 ≡ q.event.itag.0 → r.index < q.index) before (m ∷ h.0)
            (subst (AllByRecursion (λ (r : Moment). r.event.itag.0 ≡ q.event.itag.0 → r.index < q.index)) h.1 earlier)).0 in
            let less : m.index < q.index = at (sym itag) in
            absurd (omega arith)
      ]

  one_place : (front back : List Moment) (q : Moment) → ms ≡ front ++ q ∷ back → is_below more q ≡ true → is_below upto q ≡ false → (before ≡ front) × (m ≡ q)
  one_place front back q there counted old =
      let next = exact.next in
      let less = true_lt q.index (slice_index more q.event.itag.0) counted in
      elim (cases_lt q.index (slice_index upto q.event.itag.0)) [
        | inl lt ↦ absurd (not_both _ (lt_true q.index (slice_index upto q.event.itag.0) lt) old)
        | inr le ↦ elim (more_cases m.event.itag.0 upto more one_more q.event.itag.0) [
          | inl h ↦
              let same = ap (slice_index upto) h.0 in
              let one = h.1 in
              same_place front back q there h.0 (omega arith)
          | inr h ↦ absurd (omega arith)
        ]
      ]

  prefix_more : IsPrefix p ms more
  prefix_more front back q there counted =
      elim (cases_Bool (is_below upto q)) [
        | inl old ↦
            all_map (λ (r : Moment). depends_on p q r ≡ true → is_below upto r ≡ true) (λ (r : Moment). depends_on p q r ≡ true → is_below more r ≡ true) front
            (λ r h d. below_more m.event.itag.0 upto more one_more r (h d)) (prefix front back q there old)
        | inr new ↦
            let same = one_place front back q there counted new in
            let exact_before : AllByRecursion (λ (r : Moment). depends_on p m r ≡ true → is_below more r ≡ true) before =
            all_map (λ (r : Moment). depends_on p m r ≡ true → is_below upto r ≡ true) (λ (r : Moment). depends_on p m r ≡ true → is_below more r ≡ true) before
            (λ r h d. below_more m.event.itag.0 upto more one_more r (h d)) exact.counted in
            subst (λ us. AllByRecursion (λ (r : Moment). depends_on p q r ≡ true → is_below more r ≡ true) us) same.0
            (subst (λ n. AllByRecursion (λ (r : Moment). depends_on p n r ≡ true → is_below more r ≡ true) before) same.1 exact_before)
      ]

module _ (laws : LawsBelow) (k : Setting) (w : ℕ) (before after : List Moment) (m : Moment) (s : Contents) (since upto more : List ℕ)
    (ok : IsSetting k) (owner : owner_of k.program k.nodes m.event.itag ≡ Some w)
    (split : moments k ≡ before ++ m ∷ after) (exact : IsExact k.program before after m upto) (size : length more ≡ count_of_itags k.program)
    (one_more : CountsOneMore m.event.itag.0 upto more) (fits : Fits k w s since upto) where
  in_range : m.event.itag.0 < count_of_itags k.program
  in_range = all_at_place (λ (q : Moment). q.event.itag.0 < count_of_itags k.program) (moments k) before after m split (moments_in_range laws k ok)

  there : w < length k.nodes
  there = owner_is_there laws k ok w m.event.itag.0 owner

  inside : below k.program k.nodes w m.event.itag.0 ≡ true
  inside = owner_is_below laws k ok w m.event.itag.0 owner

  classes : GoesWithClasses k.program m.event (is_base k.program k.nodes w) (is_away k.program k.nodes w)
  classes = record {
    needed = λ c need. needed_is_base laws k ok w m.event.itag.0 c there in_range inside need;
    away = λ c away. away_unwritten laws k ok w m.event.itag.0 c in_range inside away;
  }

  since_le : slice_index since m.event.itag.0 ≤ m.index
  since_le = let first = fits.since_first m.event.itag.0 in let next = exact.next in omega arith

  updated : UpdatesToFit k.program (before ++ m ∷ after) m k.opening (is_base k.program k.nodes w) (is_away k.program k.nodes w) s since more
  updated =
      laws.central k.program k.opening (merged k.lists) before after m (is_base k.program k.nodes w) (is_away k.program k.nodes w) s since upto more
      ok.accepted ok.opening_sorts (fitting_law laws k w s since upto ok there fits) (events_in_range laws k ok) split classes since_le one_more exact
      (subst (λ ms. CellsFit k.program ms k.opening (is_base k.program k.nodes w) (is_away k.program k.nodes w) s since upto) split fits.cells)

  updates_well : UpdatesWell k w m s since more
  updates_well = record {
    fits = record {
      since_each = fits.since_each;
      upto_each = size;
      since_first = λ i. (let a = fits.since_first i in let b = more_least m.event.itag.0 upto more one_more i in omega arith);
      there = λ i. elim (more_cases m.event.itag.0 upto more one_more i) [
        | inl h ↦
            let less : m.index < length (events_at k m.event.itag.0) =
            all_at_place (λ (q : Moment). q.index < length (events_at k q.event.itag.0)) (moments k) before after m split (moments_there laws k ok) in
            let same = ap (λ j. length (events_at k j)) h.0 in
            let one = h.1 in
            let at = ap (slice_index upto) h.0 in
            let next = exact.next in
            omega arith
        | inr h ↦ (let a = fits.there i in omega arith)
      ];
      prefix = prefix_more k.program (moments k) before after m upto more split
          (laws.places_rise k.program k.opening (λ i. 0) (merged k.lists)) exact one_more fits.prefix;
      cells = subst (λ ms. CellsFit k.program ms k.opening (is_base k.program k.nodes w) (is_away k.program k.nodes w)
          (effect_of k.program s m.event).cells since more) (sym split) updated.cells;
    };
    texts = updated.texts;
  }

pub updates_law : LawsBelow → CentralLaw
updates_law laws k w before after m s since upto more ok owner split exact size one_more fits =
    updates_well laws k w before after m s since upto more ok owner split exact size one_more fits
