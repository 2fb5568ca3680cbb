-- What is ready stays so.
use Rattle.std.proofs.Common.{◌≡◌, ◌<◌, ◌≤◌, ◌+◌, ℕ, zero, suc, Bool, true, false, Some, None, List, [], ◌∷◌, length, take, refl, sym, ap, ◌∙◌, inl, inr, arith}
use Rattle.std.specs.Prelude.{◌⊎◌, ◌≢◌, ◌||◌, not, slice_get, slice_index, slice_index_or}
use Rattle.std.proofs.lemmas.List.{take_all}
use Rattle.std.specs.List.{range_with_len}
use Rattle.flu_lemmas.proofs.Tests.{and_left, and_right}
use Rattle.flu_lemmas.proofs.Elements.{list_all_weaker}
use Rattle.flu_lemmas.proofs.Ranges.{all_in_range, all_of_range}
use Rattle.flu_lemmas.proofs.Booleans.{or_still, second_of, first_or}
use Rattle.flu_lemmas.proofs.InTime.{not_back}
use Rattle.flu_model.specs.declared.events.Event.{Event}
use Rattle.flu_model.specs.declared.events.Item.{Item}
use Rattle.flu_model.specs.declared.jobs.Program.{Program}
use Rattle.flu_model.specs.Itags.{count_of_itags}
use Rattle.flu_model.specs.Merging.{is_before, events_of}
use Rattle.flu_model.specs.Streaming.{is_stream_from, are_streams}
use Rattle.flu_mail.specs.Passing.{seen_items, passes}
use Rattle.flu_mail.specs.Waiting.{all_pass}
use Rattle.flu_mail.specs.Laws.{SeesMore, IsUncounted, IsAllSeen}
use Rattle.flu_mail.proofs.PassingLemmas.{passing_stays, passing_clears, passes_when_clear, event_of_stream, before_or_after}

-- the items at a place are a stream, or there are none
stream_at : (i : ℕ) (lists : List (List Item)) (j : ℕ) → are_streams i lists ≡ true
    → (slice_index_or lists j [] ≡ []) ⊎ ((n : ℕ) × (is_stream_from n 0 (slice_index_or lists j []) ≡ true))
stream_at i [] j s = inl refl
stream_at i (items ∷ rest) zero s = inr (i, and_left (is_stream_from i 0 items) _ s)
stream_at i (items ∷ rest) (suc j) s = stream_at (i + 1) rest j (and_right (is_stream_from i 0 items) _ s)

abbrev nothing : List Item
nothing = []

no_items : (seen more : ℕ) → take seen nothing ≡ take more nothing
no_items zero zero = refl
no_items zero (suc more) = refl
no_items (suc seen) zero = refl
no_items (suc seen) (suc more) = refl

list_passes_still : (items : List Item) (seen more count : ℕ) (x : Event) → (items ≡ nothing) ⊎ ((n : ℕ) × (is_stream_from n 0 items ≡ true)) → seen ≤ more
    → passes (take seen items) count x ≡ true → passes (take more items) count x ≡ true
list_passes_still items seen more count x (inl none) le h =
    let same : take seen items ≡ take more items = ap (take seen) none ∙ no_items seen more ∙ sym (ap (take more) none) in
    ap (λ is. passes is count x) (sym same) ∙ h
list_passes_still items seen more count x (inr s) le h = passing_stays s.0 0 items seen more count x s.1 le h

pub all_pass_still : (p : Program) (waits : ℕ → Bool) (lists : List (List Item)) (seen more counts : List ℕ) (x : Event) → are_streams 0 lists ≡ true
    → SeesMore seen more → all_pass p waits lists seen counts x ≡ true → all_pass p waits lists more counts x ≡ true
all_pass_still p waits lists seen more counts x s le h =
    list_all_weaker (λ j. not (waits j) || passes (seen_items lists seen j) (slice_index counts j) x)
    (λ j. not (waits j) || passes (seen_items lists more j) (slice_index counts j) x) (range_with_len 0 (count_of_itags p))
    (λ j. or_still (not (waits j)) _ _
    (list_passes_still (slice_index_or lists j []) (slice_index seen j) (slice_index more j) (slice_index counts j) x (stream_at 0 lists j s) (le j)))
    h

-- ---- what is let pass

list_clears : (items : List Item) (seen count : ℕ) (x y : Event) → (items ≡ nothing) ⊎ ((n : ℕ) × (is_stream_from n 0 items ≡ true))
    → passes (take seen items) count x ≡ true → IsUncounted items count y → is_before x y ≡ true
list_clears items seen count x y (inl none) h uncounted = absurd (not_some y (sym (ap (λ is. slice_get (events_of is) uncounted.0) none) ∙ uncounted.2))
  where
    not_some : (y : Event) → None ≡ Some y → ⊥
    not_some y e = cc
list_clears items seen count x y (inr s) h uncounted = passing_clears s.0 0 items seen count x uncounted.0 y s.1 h uncounted.1 uncounted.2

pub all_pass_clears : (p : Program) (waits : ℕ → Bool) (lists : List (List Item)) (seen counts : List ℕ) (x : Event) (j : ℕ) (y : Event)
    → are_streams 0 lists ≡ true → all_pass p waits lists seen counts x ≡ true → j < count_of_itags p → waits j ≡ true
    → IsUncounted (slice_index_or lists j []) (slice_index counts j) y → (is_before x y ≡ true) × (is_before y x ≡ false)
all_pass_clears p waits lists seen counts x j y s h lt waited uncounted =
    let here =
    all_in_range (λ k. not (waits k) || passes (seen_items lists seen k) (slice_index counts k) x) 0 (count_of_itags p) j h (omega arith) (omega arith) in
    let after =
    list_clears (slice_index_or lists j []) (slice_index seen j) (slice_index counts j) x y (stream_at 0 lists j s)
    (second_of (waits j) _ waited here) uncounted in
    (after, not_back x.time x.itag.0 y.time y.itag.0 after)

-- ---- when all is seen

pub stream_of : (i : ℕ) (lists : List (List Item)) (j : ℕ) → are_streams i lists ≡ true → j < length lists
    → is_stream_from (i + j) 0 (slice_index_or lists j []) ≡ true
stream_of i [] j s lt = absurd (omega arith)
stream_of i (items ∷ rest) zero s lt = let here : i ≡ i + 0 = omega arith in
    ap (λ n. is_stream_from n 0 items) (sym here) ∙ and_left (is_stream_from i 0 items) _ s
stream_of i (items ∷ rest) (suc j) s lt =
    let there : i + suc j ≡ i + 1 + j = omega arith in
    ap (λ n. is_stream_from n 0 (slice_index_or rest j [])) there ∙ stream_of (i + 1) rest j (and_right (is_stream_from i 0 items) _ s) (omega arith)

pub all_pass_when_clear : (p : Program) (waits : ℕ → Bool) (lists : List (List Item)) (seen counts : List ℕ) (x : Event) → are_streams 0 lists ≡ true
    → length lists ≡ count_of_itags p → IsAllSeen lists seen → ((j : ℕ) → waits j ≡ true → x.itag.0 ≢ j)
    → ((j : ℕ) (y : Event) → j < count_of_itags p → waits j ≡ true → IsUncounted (slice_index_or lists j []) (slice_index counts j) y
    → is_before y x ≡ false) → all_pass p waits lists seen counts x ≡ true
all_pass_when_clear p waits lists seen counts x s each all other clear =
    all_of_range (λ j. not (waits j) || passes (seen_items lists seen j) (slice_index counts j) x) 0 (count_of_itags p)
    (λ j lt. first_or (waits j) _ (λ waited.
    let items = slice_index_or lists j [] in
    let count = slice_index counts j in
    let stream = stream_of 0 lists j s (omega arith) in
    let at : 0 + j ≡ j = omega arith in
    ap (λ is. passes is count x) (take_all (slice_index seen j) items (all j))
    ∙ passes_when_clear (0 + j) 0 items count x stream
    (λ y e. before_or_after x y (λ same. other j waited (same ∙ (event_of_stream (0 + j) 0 items count y stream e).1 ∙ at))
    (clear j y (omega arith) waited (count, omega arith, e)))))
