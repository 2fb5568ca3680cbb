-- Lists and tests over the numbers below a number, one more at a time, and what stands at a place of such a list.
use Rattle.std.proofs.Common.{◌≡◌, ◌+◌, ℕ, Bool, true, false, cond, List, [], ◌∷◌, ◌++◌, length, map, inl, inr, sym, ap, ◌∙◌, arith}
use Rattle.std.specs.Prelude.{◌||◌, slice_index}
use Rattle.std.specs.List.{list_any, range_with_len}
use Rattle.std.proofs.lemmas.Bool.{cases_lt}
use Rattle.std.proofs.lemmas.List.{get_or_past}
use Rattle.std.proofs.lemmas.List.FromFn.{map-range_with_len_more, length-map-range_with_len, get_or-map-range_with_len}
use Rattle.flu_lemmas.proofs.Ranges.{any_range_more}

-- a list that grows by what the next number gives
pub list_turn : {X : Type 0} (f : ℕ → X) (n : ℕ) (old new : List X) (x : X) → new ≡ old ++ x ∷ [] → x ≡ f n → old ≡ map f (range_with_len 0 n)
    → new ≡ map f (range_with_len 0 (n + 1))
list_turn f n old new x grown is kept = grown ∙ (λ i. kept i ++ is i ∷ []) ∙ sym (map-range_with_len_more f 0 n n (omega arith))

-- a test that grows by what the next number gives
pub test_turn : (f : ℕ → Bool) (n : ℕ) (old new : Bool) → new ≡ (old || f n) → old ≡ list_any f (range_with_len 0 n)
    → new ≡ list_any f (range_with_len 0 (n + 1))
test_turn f n old new grown kept =
    let same : 0 + n ≡ n = omega arith in
    grown ∙ ap (λ b. b || f n) kept ∙ sym (any_range_more f 0 n ∙ ap (λ m. list_any f (range_with_len 0 n) || f m) same)

-- of two equal numbers one is chosen
pub chosen_alike : (t : Bool) (a b n : ℕ) → a ≡ n → b ≡ n → cond t a b ≡ n
chosen_alike true a b n left right = left
chosen_alike false a b n left right = right

-- a list that takes each number from one of two lists of the same length
pub taken_at : (t : ℕ → Bool) (n : ℕ) (xs ys : List ℕ) → length xs ≡ n → length ys ≡ n → (i : ℕ)
    → slice_index (map (λ j. cond (t j) (slice_index xs j) (slice_index ys j)) (range_with_len 0 n)) i ≡ cond (t i) (slice_index xs i) (slice_index ys i)
taken_at t n xs ys many_xs many_ys i =
    elim (cases_lt i n) [
      | inl lt ↦ get_or-map-range_with_len (λ j. cond (t j) (slice_index xs j) (slice_index ys j)) 0 n i i 0 lt (omega arith)
      | inr ge ↦
          let no_x : slice_index xs i ≡ 0 = get_or_past xs i 0 (omega arith) in
          let no_y : slice_index ys i ≡ 0 = get_or_past ys i 0 (omega arith) in
          let long = length-map-range_with_len (λ j. cond (t j) (slice_index xs j) (slice_index ys j)) 0 n in
          get_or_past (map (λ j. cond (t j) (slice_index xs j) (slice_index ys j)) (range_with_len 0 n)) i 0 (omega arith)
          ∙ sym (chosen_alike (t i) (slice_index xs i) (slice_index ys i) 0 no_x no_y)
    ]
