-- The moments of a setting: their itags, their places and the states before them.
use Rattle.std.proofs.Common.{◌≡◌, ◌≤◌, ◌<◌, ◌+◌, ℕ, zero, suc, true, cond, List, [], ◌∷◌, length, inl, inr, refl, sym, ap, subst, ◌∙◌, arith}
use Rattle.std.specs.Prelude.{nat_lt, ◌==◌, slice_index_or}
use Rattle.std.specs.List.{AllByRecursion}
use Rattle.std.proofs.lemmas.Bool.{cases_eq, ne_eqb}
use Rattle.flu_lemmas.specs.Totals.{total}
use Rattle.flu_lemmas.proofs.Elements.{all_map, all_append}
use Rattle.flu_lemmas.proofs.Mapped.{all_of_mapped}
use Rattle.flu_lemmas.proofs.Searches.{eq_true}
use Rattle.flu_lemmas.proofs.Sorting.{in_order-permutation}
use Rattle.flu_lemmas.proofs.Tests.{and_left, and_right, true_eq, true_lt, lt_true}
use Rattle.flu_lemmas.proofs.Totals.{total-IsPermutation, total-append, all-IsPermutation}
use Rattle.flu_model.specs.declared.events.Event.{Event}
use Rattle.flu_model.specs.declared.events.Item.{Item}
use Rattle.flu_model.specs.declared.events.Item.TheVariants.{Event as EventItem, Beat, End}
use Rattle.flu_model.specs.declared.jobs.Program.{Program}
use Rattle.flu_model.specs.Contents.{Contents}
use Rattle.flu_model.specs.Itags.{count_of_itags}
use Rattle.flu_model.specs.Merging.{is_before, events_of, all_events, merged}
use Rattle.flu_model.specs.Sorts.{IsStateOf}
use Rattle.flu_model.specs.Streaming.{is_stream_from, are_streams}
use Rattle.flu_model.specs.Updates.{effect_of}
use Rattle.flu_laws.specs.Spans.{Moment, history}
use Rattle.flu_laws.specs.Updating.{KeepsSorts}
use Rattle.flu_fork.specs.LawsBelow.{LawsBelow}
use Rattle.flu_fork.specs.Settings.{Setting, IsSetting, events_at, moments}

-- ---- the itags of events
-- the events of a stream are of its itag
pub stream_itags : (i low : ℕ) (items : List Item) → is_stream_from i low items ≡ true → AllByRecursion (λ (x : Event). x.itag.0 ≡ i) (events_of items)
stream_itags i low [] e = tt
stream_itags i low (EventItem x ∷ items) e = (true_eq x.itag.0 i (and_left _ _ (and_left _ _ e)), stream_itags i (x.time + 1) items (and_right _ _ e))
stream_itags i low (Beat t ∷ items) e = stream_itags i (t + 1) items (and_right _ _ e)
stream_itags i low (End ∷ []) e = tt
stream_itags i low (End ∷ x ∷ items) e = cc

streams_in_range : (i n : ℕ) (lists : List (List Item)) → i + length lists ≤ n → are_streams i lists ≡ true
    → AllByRecursion (λ (x : Event). nat_lt x.itag.0 n ≡ true) (all_events lists)
streams_in_range i n [] le e = tt
streams_in_range i n (items ∷ lists) le e =
    all_append (λ (x : Event). nat_lt x.itag.0 n ≡ true) (events_of items) (all_events lists)
    (all_map (λ (x : Event). x.itag.0 ≡ i) (λ (x : Event). nat_lt x.itag.0 n ≡ true) (events_of items) (λ x same. lt_true x.itag.0 n (omega arith))
    (stream_itags i 0 items (and_left _ _ e)))
    (streams_in_range (i + 1) n lists (omega arith) (and_right _ _ e))

-- ---- how many events an itag has
one_of : ℕ → Event → ℕ
one_of i x = cond (x.itag.0 == i) 1 0

own_events : (i : ℕ) (xs : List Event) → AllByRecursion (λ (x : Event). x.itag.0 ≡ i) xs → total (one_of i) xs ≡ length xs
unfolding one_of
own_events i [] all = refl
own_events i (x ∷ xs) all =
    let one : cond {A = ℕ} (x.itag.0 == i) 1 0 ≡ 1 = ap (λ b. cond b 1 0) (eq_true x.itag.0 i all.0) in
    let rest = own_events i xs all.1 in
    omega arith

other_events : (i j : ℕ) (xs : List Event) → (i ≡ j → ⊥) → AllByRecursion (λ (x : Event). x.itag.0 ≡ i) xs → total (one_of j) xs ≡ 0
unfolding one_of
other_events i j [] apart all = refl
other_events i j (x ∷ xs) apart all =
    let same = all.0 in
    let none : cond {A = ℕ} (x.itag.0 == j) 1 0 ≡ 0 = ap (λ b. cond b 1 0) (ne_eqb x.itag.0 j (λ e. apart (sym same ∙ e))) in
    let rest = other_events i j xs apart all.1 in
    omega arith

none_behind : (i j : ℕ) (lists : List (List Item)) → j < i → are_streams i lists ≡ true → total (one_of j) (all_events lists) ≡ 0
none_behind i j [] lt e = refl
none_behind i j (items ∷ lists) lt e =
    let here = other_events i j (events_of items) (λ same. omega arith) (stream_itags i 0 items (and_left _ _ e)) in
    let rest = none_behind (i + 1) j lists (omega arith) (and_right (is_stream_from i 0 items) (are_streams (i + 1) lists) e) in
    omega (arith, total-append (one_of j) (events_of items) (all_events lists))

events_counted : (i n j : ℕ) (lists : List (List Item)) → j ≡ i + n → are_streams i lists ≡ true
    → total (one_of j) (all_events lists) ≡ length (events_of (slice_index_or lists n []))
events_counted i n j [] at e = refl
events_counted i zero j (items ∷ lists) at e =
    let same : i ≡ j = omega arith in
    let here =
    own_events j (events_of items) (subst (λ u. AllByRecursion (λ (x : Event). x.itag.0 ≡ u) (events_of items)) same
    (stream_itags i 0 items (and_left _ _ e))) in
    let rest = none_behind (i + 1) j lists (omega arith) (and_right (is_stream_from i 0 items) (are_streams (i + 1) lists) e) in
    total-append (one_of j) (events_of items) (all_events lists) ∙ omega arith
events_counted i (suc n) j (items ∷ lists) at e =
    let here = other_events i j (events_of items) (λ same. omega arith) (stream_itags i 0 items (and_left _ _ e)) in
    let rest : total (one_of j) (all_events lists) ≡ length (events_of (slice_index_or lists n [])) =
    events_counted (i + 1) n j lists (omega arith) (and_right (is_stream_from i 0 items) (are_streams (i + 1) lists) e) in
    total-append (one_of j) (events_of items) (all_events lists) ∙ omega arith

-- ---- moments
-- an event's index is less than how many of its itag there are
indices_less : (p : Program) (s : Contents) (seen : ℕ → ℕ) (xs : List Event)
    → AllByRecursion (λ (m : Moment). m.index < seen m.event.itag.0 + total (one_of m.event.itag.0) xs) (history p s seen xs)
unfolding one_of
indices_less p s seen [] = tt
indices_less p s seen (x ∷ xs) = (
  (let one : cond {A = ℕ} (x.itag.0 == x.itag.0) 1 0 ≡ 1 = ap (λ b. cond b 1 0) (eq_true x.itag.0 x.itag.0 refl) in omega arith),
  all_map
      (λ (m : Moment). m.index < cond (m.event.itag.0 == x.itag.0) (seen m.event.itag.0 + 1) (seen m.event.itag.0) + total (one_of m.event.itag.0) xs)
      (λ (m : Moment). m.index < seen m.event.itag.0 + total (one_of m.event.itag.0) (x ∷ xs))
      (history p (effect_of p s x).cells _ xs)
      (λ m less. one_more m.index m.event.itag.0 x.itag.0 (seen m.event.itag.0) (total (one_of m.event.itag.0) xs) less)
      (indices_less p (effect_of p s x).cells (λ i. cond (i == x.itag.0) (seen i + 1) (seen i)) xs),
)
  where
    one_more : (n i j a b : ℕ) → n < cond (i == j) (a + 1) a + b → n < a + (cond (j == i) 1 0 + b)
    one_more n i j a b less =
        elim (cases_eq i j) [
          | inl same ↦
              let one : cond (i == j) (a + 1) a ≡ a + 1 = ap (λ t. cond t (a + 1) a) (eq_true i j same) in
              let two : cond {A = ℕ} (j == i) 1 0 ≡ 1 = ap (λ t. cond t 1 0) (eq_true j i (sym same)) in
              omega arith
          | inr other ↦
              let one : cond (i == j) (a + 1) a ≡ a = ap (λ t. cond t (a + 1) a) (ne_eqb i j other) in
              omega arith
        ]

-- the states before the moments hold values of the job's sorts
sorted_before : KeepsSorts → (p : Program) (s : Contents) (seen : ℕ → ℕ) (xs : List Event) → IsStateOf p.families s
    → AllByRecursion (λ (m : Moment). IsStateOf p.families m.before) (history p s seen xs)
sorted_before keeps p s seen [] sorted = tt
sorted_before keeps p s seen (x ∷ xs) sorted =
    (sorted, sorted_before keeps p (effect_of p s x).cells (λ i. cond (i == x.itag.0) (seen i + 1) (seen i)) xs (keeps p s x sorted))

module _ (laws : LawsBelow) (k : Setting) (ok : IsSetting k) where
  pub events_in_range : AllByRecursion (λ (x : Event). x.itag.0 < count_of_itags k.program) (merged k.lists)
  events_in_range =
      all_map (λ (x : Event). nat_lt x.itag.0 (count_of_itags k.program) ≡ true) (λ (x : Event). x.itag.0 < count_of_itags k.program) (merged k.lists)
      (λ x e. true_lt x.itag.0 (count_of_itags k.program) e)
      (all-IsPermutation (λ (x : Event). nat_lt x.itag.0 (count_of_itags k.program)) (all_events k.lists) (merged k.lists)
      (in_order-permutation is_before (all_events k.lists))
      (streams_in_range 0 (count_of_itags k.program) k.lists (let one = ok.one_each in omega arith) ok.streams))

  pub moments_in_range : AllByRecursion (λ (m : Moment). m.event.itag.0 < count_of_itags k.program) (moments k)
  moments_in_range =
      all_of_mapped (λ (x : Event). x.itag.0 < count_of_itags k.program) (λ (m : Moment). m.event) (moments k)
      (subst (AllByRecursion (λ (x : Event). x.itag.0 < count_of_itags k.program))
      (sym (laws.of_events k.program k.opening (λ i. 0) (merged k.lists))) events_in_range)

  pub moments_sorted : AllByRecursion (λ (m : Moment). IsStateOf k.program.families m.before) (moments k)
  moments_sorted = sorted_before laws.keeps_sorts k.program k.opening (λ i. 0) (merged k.lists) ok.opening_sorts

  all_counted : (i : ℕ) → total (one_of i) (merged k.lists) ≡ length (events_at k i)
  all_counted i =
      total-IsPermutation (one_of i) (all_events k.lists) (merged k.lists) (in_order-permutation is_before (all_events k.lists))
      ∙ events_counted 0 i i k.lists (omega arith) ok.streams

  pub moments_there : AllByRecursion (λ (m : Moment). m.index < length (events_at k m.event.itag.0)) (moments k)
  moments_there =
      all_map (λ (m : Moment). m.index < 0 + total (one_of m.event.itag.0) (merged k.lists)) (λ (m : Moment). m.index < length (events_at k m.event.itag.0))
      (moments k)
      (λ m less. (let all = all_counted m.event.itag.0 in omega arith))
      (indices_less k.program k.opening (λ i. 0) (merged k.lists))
