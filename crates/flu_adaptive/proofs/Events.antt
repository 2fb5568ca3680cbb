-- The events of an itag among streams are those of its list.
use Rattle.std.proofs.Common.{◌≡◌, ◌+◌, ◌<◌, ℕ, zero, suc, Bool, true, false, cond, List, [], ◌∷◌, ◌++◌, length, refl, sym, ap, ◌∙◌, arith}
use Rattle.std.specs.Prelude.{◌==◌, ◌&&◌, nat_le, slice_index_or}
use Rattle.std.proofs.lemmas.Bool.{ne_eqb}
use Rattle.std.proofs.lemmas.Grind.{common_steps}
use Rattle.std.proofs.lemmas.List.Sums.{sum_by-append}
use Rattle.std.proofs.lemmas.List.Sorted.{sum_by-IsPermutation}
use Rattle.flu_lemmas.proofs.OnlyOne.{count_by-cons}
use Rattle.flu_lemmas.proofs.Sorting.{in_order-permutation}
use Rattle.flu_lemmas.proofs.Tests.{and_left, and_right}
use Rattle.flu_model.specs.declared.events.Event.{Event}
use Rattle.flu_model.specs.declared.events.Item.{Item}
use Rattle.flu_model.specs.declared.events.Item.TheVariants.{Event as EventItem, Beat, End}
use Rattle.flu_model.specs.Merging.{is_before, events_of, all_events, merged}
use Rattle.flu_model.specs.Streaming.{is_stream_from, are_streams}
use Rattle.flu_streams.specs.Counts.{count_of_itag}

abbrev of_itag : ℕ → Event → Bool
of_itag i x = x.itag.0 == i

-- the order of events does not matter
counted_merged : (lists : List (List Item)) (i : ℕ) → count_of_itag (merged lists) i ≡ count_of_itag (all_events lists) i
counted_merged lists i =
    sum_by-IsPermutation (λ (x : Event). cond (of_itag i x) 1 0) (all_events lists) (merged lists) (in_order-permutation is_before (all_events lists))

counted_both : (i : ℕ) (xs ys : List Event) → count_of_itag (xs ++ ys) i ≡ count_of_itag xs i + count_of_itag ys i
counted_both i xs ys = sum_by-append (λ (x : Event). cond (of_itag i x) 1 0) xs ys

same_itag : (x : Event) (i : ℕ) (a b : Bool) → ((of_itag i x && a) && b) ≡ true → of_itag i x ≡ true
same_itag x i a b e = and_left (of_itag i x) a (and_left (of_itag i x && a) b e)

other_itag : (i j n : ℕ) → (n == j) ≡ true → (j ≡ i → ⊥) → (n == i) ≡ false
other_itag i j n e apart = ne_eqb n i (λ same. apart (let at : n ≡ j = grind (arith, common_steps) in sym at ∙ same))

counted_own : (i low : ℕ) (items : List Item) → is_stream_from i low items ≡ true → count_of_itag (events_of items) i ≡ length (events_of items)
counted_own i low [] e = refl
counted_own i low (EventItem x ∷ items) e =
    let rest : count_of_itag (events_of items) i ≡ length (events_of items) =
    counted_own i (x.time + 1) items (and_right ((x.itag.0 == i) && nat_le low x.time) (is_stream_from i (x.time + 1) items) e) in
    let here = count_by-cons (of_itag i) x (events_of items) true (same_itag x i _ _ e) in
    omega (arith, here, rest)
counted_own i low (Beat t ∷ items) e = counted_own i (t + 1) items (and_right _ _ e)
counted_own i low (End ∷ []) e = refl
counted_own i low (End ∷ x ∷ items) e = cc

counted_other : (i j low : ℕ) (items : List Item) → (j ≡ i → ⊥) → is_stream_from j low items ≡ true → count_of_itag (events_of items) i ≡ 0
counted_other i j low [] apart e = refl
counted_other i j low (EventItem x ∷ items) apart e =
    let rest : count_of_itag (events_of items) i ≡ 0 = counted_other i j (x.time + 1) items apart
    (and_right ((x.itag.0 == j) && nat_le low x.time) (is_stream_from j (x.time + 1) items) e) in
    let here = count_by-cons (of_itag i) x (events_of items) false (other_itag i j x.itag.0 (same_itag x j _ _ e) apart) in
    omega (arith, here, rest)
counted_other i j low (Beat t ∷ items) apart e = counted_other i j (t + 1) items apart (and_right _ _ e)
counted_other i j low (End ∷ []) apart e = refl
counted_other i j low (End ∷ x ∷ items) apart e = cc

counted_behind : (k i : ℕ) (lists : List (List Item)) → i < k → are_streams k lists ≡ true → count_of_itag (all_events lists) i ≡ 0
counted_behind k i [] lt e = refl
counted_behind k i (items ∷ lists) lt e =
    let here = counted_other i k 0 items (λ same. omega arith) (and_left _ _ e) in
    let rest = counted_behind (k + 1) i lists (omega arith) (and_right (is_stream_from k 0 items) (are_streams (k + 1) lists) e) in
    let all = counted_both i (events_of items) (all_events lists) in
    omega (arith, here, rest, all)

counted_at : (k n i : ℕ) (lists : List (List Item)) → i ≡ k + n → are_streams k lists ≡ true
    → count_of_itag (all_events lists) i ≡ length (events_of (slice_index_or lists n []))
counted_at k n i [] at e = refl
counted_at k zero i (items ∷ lists) at e =
    let same : k ≡ i = omega arith in
    let stream : is_stream_from i 0 items ≡ true = ap (λ j. is_stream_from j 0 items) (sym same) ∙ and_left _ _ e in
    let here = counted_own i 0 items stream in
    let rest = counted_behind (k + 1) i lists (omega arith) (and_right (is_stream_from k 0 items) (are_streams (k + 1) lists) e) in
    let all = counted_both i (events_of items) (all_events lists) in
    omega (arith, here, rest, all)
counted_at k (suc n) i (items ∷ lists) at e =
    let here = counted_other i k 0 items (λ same. omega arith) (and_left _ _ e) in
    let rest = counted_at (k + 1) n i lists (omega arith) (and_right (is_stream_from k 0 items) (are_streams (k + 1) lists) e) in
    let all = counted_both i (events_of items) (all_events lists) in
    omega (arith, here, rest, all)

-- of all events, as many are of an itag as its list has
pub counted_in_list : (lists : List (List Item)) (i : ℕ) → are_streams 0 lists ≡ true
    → count_of_itag (merged lists) i ≡ length (events_of (slice_index_or lists i []))
counted_in_list lists i e = counted_merged lists i ∙ counted_at 0 i i lists (omega arith) e
