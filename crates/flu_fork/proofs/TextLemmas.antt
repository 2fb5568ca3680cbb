-- The texts of a set of itags: they grow by those of the event that is counted, and at the end they are those of the fold.
use Rattle.std.proofs.Common.{◌≡◌, ◌≢◌, ℕ, ◌+◌, ◌<◌, ◌≤◌, Bool, true, false, cond, List, [], ◌∷◌, ◌++◌}
use Rattle.std.proofs.Common.{append_assoc, length, inl, inr, refl, sym, ap, subst, ◌∙◌, arith}
use Rattle.std.specs.Prelude.{nat_lt, ◌==◌, ◌&&◌, slice_index}
use Rattle.std.specs.List.{filter, flat_map, AllByRecursion}
use Rattle.std.specs.List.Sorted.{IsPermutation}
use Rattle.std.proofs.lemmas.Bool.{cases_Bool, cases_eq, cases_lt}
use Rattle.std.proofs.lemmas.List.Concat.{flat_map-append}
use Rattle.std.proofs.lemmas.List.Elements.{filter-append}
use Rattle.std.proofs.lemmas.List.Sorted.{IsPermutation-refl, IsPermutation-trans, IsPermutation-append, IsPermutation-append_left}
use Rattle.flu_lemmas.proofs.Elements.{all_map, all_of_both, all_at_place, all_from_places, filter_same}
use Rattle.flu_lemmas.proofs.Numbers.{less_than_next, not_less_than_itself}
use Rattle.flu_lemmas.proofs.Tests.{and_left, and_right, both, false_if_not, lt_true, true_lt}
use Rattle.flu_model.specs.declared.events.Cell.{Cell}
use Rattle.flu_model.specs.declared.events.Event.{Event}
use Rattle.flu_model.specs.declared.events.Out.{Out}
use Rattle.flu_model.specs.declared.jobs.Program.{Program}
use Rattle.flu_model.specs.Contents.{Contents}
use Rattle.flu_model.specs.Folding.{state_after, outputs_of, final_state, final_outputs}
use Rattle.flu_model.specs.Itags.{count_of_itags}
use Rattle.flu_model.specs.Merging.{merged}
use Rattle.flu_model.specs.Sorts.{IsStateOf}
use Rattle.flu_model.specs.Updates.{effect_of}
use Rattle.flu_laws.specs.Spans.{Moment, history, is_below, changed_by}
use Rattle.flu_fork.specs.LawsBelow.{LawsBelow}
use Rattle.flu_fork.specs.Settings.{Setting, IsSetting, events_at, moments}
use Rattle.flu_fork.specs.Classes.{Itags, below}
use Rattle.flu_fork.specs.Fitting.{Fits}
use Rattle.flu_fork.specs.Texts.{outputs_then, is_counted, texts_of, HasTexts, IsComplete, CountsMoment, InOneOf, InNone, InFirst, InSecond}
use Rattle.flu_fork.specs.Texts.{InThird, NoTexts, TextsAreOfTheSet, TextsGrow, TextsOfThree, TextsEnd, StatesEnd, OutputsAreOfMoments}
use Rattle.flu_fork.proofs.Cells.{root_base}
use Rattle.flu_fork.proofs.Moments.{moments_in_range, moments_there}
use Rattle.flu_fork.proofs.Permuted.{permuted_is, to_end, three_parts}
use Rattle.flu_fork.proofs.PlaceLemmas.{places_at}
use Rattle.flu_fork.proofs.Sides.{root_has_all}

-- ---- the same counts
-- counts that agree on a set count the same moments of it
counted_alike : (set : Itags) (old new : List ℕ) (ms : List Moment) → ((i : ℕ) → set i ≡ true → slice_index new i ≡ slice_index old i)
    → AllByRecursion (λ q. is_counted set new q ≡ is_counted set old q) ms
counted_alike set old new [] same = tt
counted_alike set old new (q ∷ ms) same = (
  elim (cases_Bool (set q.event.itag.0)) [
    | inl h ↦ ap (λ n. set q.event.itag.0 && nat_lt q.index n) (same q.event.itag.0 h)
    | inr h ↦ ap (λ b. b && is_below new q) h ∙ sym (ap (λ b. b && is_below old q) h)
  ],
  counted_alike set old new ms same,
)

pub same_law : TextsAreOfTheSet
unfolding HasTexts
same_law k set old new outs same has =
    permuted_is _ _ _ (ap (flat_map (outputs_then k.program)) (filter_same _ _ (moments k) (counted_alike set old new (moments k) same))) has

-- ---- nothing is counted
none_below : (set : Itags) (upto : List ℕ) (ms : List Moment) → ((i : ℕ) → set i ≡ true → slice_index upto i ≡ 0) → filter (is_counted set upto) ms ≡ []
none_below set upto [] zeros = refl
none_below set upto (q ∷ ms) zeros =
    ap (λ b. cond b (q ∷ filter (is_counted set upto) ms) (filter (is_counted set upto) ms)) (false_if_not (is_counted set upto q) not_counted)
    ∙ none_below set upto ms zeros
  where
    not_counted : is_counted set upto q ≡ true → ⊥
    not_counted e =
        let lt : q.index < slice_index upto q.event.itag.0 = true_lt _ _ (and_right (set q.event.itag.0) _ e) in
        let none : slice_index upto q.event.itag.0 ≡ 0 = zeros q.event.itag.0 (and_left (set q.event.itag.0) _ e) in
        omega arith

pub nothing_law : NoTexts
unfolding HasTexts
nothing_law k set upto zeros = permuted_is _ _ _ (ap (flat_map (outputs_then k.program)) (none_below set upto (moments k) zeros)) (IsPermutation-refl [])

-- ---- one event more
lt_false : (a b : ℕ) → b ≤ a → nat_lt a b ≡ false
lt_false a b le = false_if_not _ (λ h. (let lt = true_lt a b h in omega arith))

module _ (set : Itags) (m : Moment) (old new : List ℕ) (one : CountsMoment m old new) where
  -- a moment of another itag, or of another place
  same_counted : (q : Moment) → (q.event.itag.0 ≡ m.event.itag.0 → q.index ≢ m.index) → is_counted set new q ≡ is_counted set old q
  same_counted q apart =
      elim (cases_eq q.event.itag.0 m.event.itag.0) [
        | inl same ↦
            let a : slice_index new q.event.itag.0 ≡ m.index + 1 = ap (slice_index new) same ∙ one.is in
            let b : slice_index old q.event.itag.0 ≡ m.index = ap (slice_index old) same ∙ one.was in
            let other = apart same in
            ap (λ x. set q.event.itag.0 && x)
            (elim (cases_lt q.index m.index) [
              | inl less ↦ lt_true q.index (slice_index new q.event.itag.0) (omega arith) ∙ sym (lt_true q.index (slice_index old q.event.itag.0) (omega arith))
              | inr more ↦ elim (cases_eq q.index m.index) [
                | inl here ↦ absurd (other here)
                | inr there ↦
                    lt_false q.index (slice_index new q.event.itag.0) (omega arith)
                    ∙ sym (lt_false q.index (slice_index old q.event.itag.0) (omega arith))
              ]
            ])
        | inr other ↦ ap (λ n. set q.event.itag.0 && nat_lt q.index n) (one.rest q.event.itag.0 other)
      ]

  not_yet : is_counted set old m ≡ false
  not_yet =
      ap (λ n. set m.event.itag.0 && nat_lt m.index n) one.was ∙ ap (λ x. set m.event.itag.0 && x) (not_less_than_itself m.index) ∙ and_no (set m.event.itag.0)
    where
      and_no : (b : Bool) → (b && false) ≡ false
      and_no true = refl
      and_no false = refl

  now_counted : set m.event.itag.0 ≡ true → is_counted set new m ≡ true
  now_counted h = ap (λ b. b && is_below new m) h ∙ ap (nat_lt m.index) one.is ∙ less_than_next m.index

module _ (k : Setting) (set : Itags) (front back : List Moment) (m : Moment) where
  split_at : (upto : List ℕ) → moments k ≡ front ++ m ∷ back
      → texts_of k set upto
      ≡ flat_map (outputs_then k.program) (filter (is_counted set upto) front) ++ flat_map (outputs_then k.program) (filter (is_counted set upto) (m ∷ back))
  split_at upto stands =
      ap (λ ms. flat_map (outputs_then k.program) (filter (is_counted set upto) ms)) stands
      ∙ ap (flat_map (outputs_then k.program)) (filter-append (is_counted set upto) front (m ∷ back))
      ∙ flat_map-append (outputs_then k.program) (filter (is_counted set upto) front) (filter (is_counted set upto) (m ∷ back))

-- the moments behind one have other places
behind_places : (laws : LawsBelow) (k : Setting) (ok : IsSetting k) (front back : List Moment) (m : Moment) → moments k ≡ front ++ m ∷ back
    → AllByRecursion (λ (q : Moment). q.event.itag.0 ≡ m.event.itag.0 → q.index ≢ m.index) back
behind_places laws k ok front back m stands =
    all_from_places (λ (q : Moment). q.event.itag.0 ≡ m.event.itag.0 → q.index ≢ m.index) back
    (λ us vs q e same equal.
    (let rise = places_at laws k ok (front ++ m ∷ us) vs q (stands ∙ ap (λ l. front ++ m ∷ l) e ∙ sym (append_assoc front (m ∷ us) (q ∷ vs))) in
    let less : m.index < q.index =
    all_at_place (λ (r : Moment). r.event.itag.0 ≡ q.event.itag.0 → r.index < q.index) (front ++ m ∷ us) front us m refl rise
    (sym same) in
    omega arith))

pub grow_law : LawsBelow → TextsGrow
unfolding HasTexts
grow_law laws k set front back m old new outs ok stands mine one has =
    let g = outputs_then k.program in
    let F = flat_map g (filter (is_counted set old) front) in
    let B = flat_map g (filter (is_counted set old) back) in
    let front_same : filter (is_counted set new) front ≡ filter (is_counted set old) front =
    filter_same _ _ front (all_map (λ (q : Moment). q.event.itag.0 ≡ m.event.itag.0 → q.index < m.index)
    (λ q. is_counted set new q ≡ is_counted set old q) front (λ q rise. same_counted set m old new one q (λ same equal. (let less = rise same in omega arith)))
    (places_at laws k ok front back m stands)) in
    let back_same : filter (is_counted set new) back ≡ filter (is_counted set old) back =
    filter_same _ _ back (all_map (λ (q : Moment). q.event.itag.0 ≡ m.event.itag.0 → q.index ≢ m.index)
    (λ q. is_counted set new q ≡ is_counted set old q) back (λ q apart. same_counted set m old new one q apart)
    (behind_places laws k ok front back m stands)) in
    let after : texts_of k set new ≡ F ++ (g m ++ B) =
    split_at k set front back m new stands
    ∙ (λ i. flat_map g (front_same i)
    ++ flat_map g (cond (now_counted set m old new one mine i) (m ∷ filter (is_counted set new) back) (filter (is_counted set new) back)))
    ∙ ap (λ l. F ++ (g m ++ flat_map g l)) back_same in
    let before : texts_of k set old ≡ F ++ B =
    split_at k set front back m old stands
    ∙ ap (λ b. F ++ flat_map g (cond b (m ∷ filter (is_counted set old) back) (filter (is_counted set old) back))) (not_yet set m old new one) in
    permuted_is _ _ _ after
    (IsPermutation-trans _ _ _ (to_end F (g m) B) (IsPermutation-append_left (g m) (F ++ B) outs (permuted_is _ _ _ (sym before) has)))

-- ---- three sets
no_more : (b : Bool) → (b && false) ≡ false
no_more true = refl
no_more false = refl

with_test : (t a b c x : Bool) → InOneOf t a b c → InOneOf (t && x) (a && x) (b && x) (c && x)
with_test t a b c true (InFirst p q r s) = InFirst (ap (λ y. y && true) p) (ap (λ y. y && true) q) (ap (λ y. y && true) r) (ap (λ y. y && true) s)
with_test t a b c true (InSecond p q r s) = InSecond (ap (λ y. y && true) p) (ap (λ y. y && true) q) (ap (λ y. y && true) r) (ap (λ y. y && true) s)
with_test t a b c true (InThird p q r s) = InThird (ap (λ y. y && true) p) (ap (λ y. y && true) q) (ap (λ y. y && true) r) (ap (λ y. y && true) s)
with_test t a b c true (InNone p q r s) = InNone (ap (λ y. y && true) p) (ap (λ y. y && true) q) (ap (λ y. y && true) r) (ap (λ y. y && true) s)
with_test t a b c false o = InNone (no_more t) (no_more a) (no_more b) (no_more c)

pub three_law : LawsBelow → TextsOfThree
unfolding HasTexts
three_law laws k whole a b c upto first second third ok each ha hb hc =
    IsPermutation-trans _ _ _
    (three_parts (outputs_then k.program) (is_counted whole upto) (is_counted a upto) (is_counted b upto) (is_counted c upto) (moments k)
    (all_map (λ (m : Moment). m.event.itag.0 < count_of_itags k.program)
    (λ m. InOneOf (is_counted whole upto m) (is_counted a upto m) (is_counted b upto m) (is_counted c upto m)) (moments k)
    (λ m lt. with_test _ _ _ _ (is_below upto m) (each m.event.itag.0 lt)) (moments_in_range laws k ok)))
    (IsPermutation-append _ _ _ _ (IsPermutation-append _ _ _ _ ha hb) hc)

-- ---- the end
-- what passes a test that all pass
keeps_all : {X : Type 0} (p : X → Bool) (xs : List X) → AllByRecursion (λ x. p x ≡ true) xs → filter p xs ≡ xs
keeps_all p [] all = refl
keeps_all p (x ∷ xs) all = ap (λ b. cond b (x ∷ filter p xs) (filter p xs)) all.0 ∙ ap (λ l. x ∷ l) (keeps_all p xs all.1)

state_by_moments : (laws : LawsBelow) (p : Program) (s : Contents) (seen : ℕ → ℕ) (xs : List Event) (c : Cell) → IsStateOf p.families s
    → state_after p s xs c ≡ changed_by p c (s c) (history p s seen xs)
state_by_moments laws p s seen [] c sorted = refl
state_by_moments laws p s seen (x ∷ xs) c sorted =
    state_by_moments laws p (effect_of p s x).cells (λ i. cond (i == x.itag.0) (seen i + 1) (seen i)) xs c (laws.keeps_sorts p s x sorted)
    ∙ ap (λ w. changed_by p c w (history p (effect_of p s x).cells (λ i. cond (i == x.itag.0) (seen i + 1) (seen i)) xs)) (laws.changes p s x c sorted)

outputs_by_moments : (p : Program) (s : Contents) (seen : ℕ → ℕ) (xs : List Event) → outputs_of p s xs ≡ flat_map (outputs_then p) (history p s seen xs)
outputs_by_moments p s seen [] = refl
outputs_by_moments p s seen (x ∷ xs) =
    ap (λ l. outputs_then p (record { event = x; index = seen x.itag.0; before = s }) ++ l)
    (outputs_by_moments p (effect_of p s x).cells (λ i. cond (i == x.itag.0) (seen i + 1) (seen i)) xs)

pub outputs_law : OutputsAreOfMoments
outputs_law k = outputs_by_moments k.program k.opening (λ i. 0) (merged k.lists)

module _ (laws : LawsBelow) (k : Setting) (ok : IsSetting k) (upto : List ℕ) (complete : IsComplete k (below k.program k.nodes 0) upto) where
  all_below : AllByRecursion (λ m. is_below upto m ≡ true) (moments k)
  all_below =
      all_of_both (λ (m : Moment). m.event.itag.0 < count_of_itags k.program) (λ (m : Moment). m.index < length (events_at k m.event.itag.0))
      (λ m. is_below upto m ≡ true) (moments k)
      (λ m range there. lt_true m.index (slice_index upto m.event.itag.0)
      (let e = complete m.event.itag.0 (root_has_all laws k ok m.event.itag.0 range) in omega arith))
      (moments_in_range laws k ok) (moments_there laws k ok)

  all_counted : AllByRecursion (λ m. is_counted (below k.program k.nodes 0) upto m ≡ true) (moments k)
  all_counted =
      all_of_both (λ (m : Moment). m.event.itag.0 < count_of_itags k.program) (λ m. is_below upto m ≡ true)
      (λ m. is_counted (below k.program k.nodes 0) upto m ≡ true) (moments k)
      (λ m range h. both _ _ (root_has_all laws k ok m.event.itag.0 range) h)
      (moments_in_range laws k ok) all_below

  whole_state : (s : Contents) (since : List ℕ) → Fits k 0 s since upto → s ≡ final_state k.program k.opening k.lists
  whole_state s since fits = λ i c. (
      fits.cells.base c (root_base laws k ok c)
      ∙ ap (changed_by k.program c (k.opening c)) (keeps_all (is_below upto) (moments k) all_below)
      ∙ sym (state_by_moments laws k.program k.opening (λ i. 0) (merged k.lists) c ok.opening_sorts)
      ) i

  whole_outputs : (outs : List Out) → HasTexts k (below k.program k.nodes 0) upto outs → IsPermutation (final_outputs k.program k.opening k.lists) outs
  unfolding HasTexts
  whole_outputs outs has =
      subst (λ l. IsPermutation l outs)
      (ap (flat_map (outputs_then k.program)) (keeps_all (is_counted (below k.program k.nodes 0) upto) (moments k) all_counted) ∙ sym (outputs_law k))
      has

pub ends_law : LawsBelow → TextsEnd
ends_law laws k upto outs ok complete has = whole_outputs laws k ok upto complete outs has

pub states_law : LawsBelow → StatesEnd
states_law laws k s since upto ok fits complete = whole_state laws k ok upto complete s since fits
