-- The items of good sources are streams.
use Rattle.std.proofs.Common.{◌≡◌, ℕ, zero, suc, ◌+◌, ◌<◌, ◌≤◌, true, List, ◌∷◌, [], ◌++◌, length, map, ap, ◌∙◌, refl, arith}
use Rattle.std.specs.List.{range_with_len}
use Rattle.flu_lemmas.proofs.Tests.{and_left, and_right, both}
use Rattle.flu_model.specs.declared.events.Item.{Item}
use Rattle.flu_model.specs.Streaming.{is_stream_from, are_streams}

streams_in_range : (number a n : ℕ) (f : ℕ → List Item) → ((place : ℕ) → a ≤ place → place < a + n → is_stream_from (number + place) 0 (f place) ≡ true)
    → are_streams (number + a) (map f (range_with_len a n)) ≡ true
streams_in_range number a zero f all = refl
streams_in_range number a (suc n) f all =
    let one : (number + a) + 1 ≡ number + (a + 1) = omega arith in
    both (is_stream_from (number + a) 0 (f a)) _ (all a (omega arith) (omega arith))
    (rw one (streams_in_range number (a + 1) n f (λ place le lt. all place (omega (arith, le)) (omega (arith, lt)))))

pub streams_of_range : (number n : ℕ) (f : ℕ → List Item) → ((place : ℕ) → place < n → is_stream_from (number + place) 0 (f place) ≡ true)
    → are_streams number (map f (range_with_len 0 n)) ≡ true
streams_of_range number n f all =
    let none : number ≡ number + 0 = omega arith in
    ap (λ k. are_streams k (map f (range_with_len 0 n))) none ∙ streams_in_range number 0 n f (λ place le lt. all place (omega (arith, lt)))

pub are_streams-append : (n : ℕ) (xs ys : List (List Item)) → are_streams n xs ≡ true → are_streams (n + length xs) ys ≡ true → are_streams n (xs ++ ys) ≡ true
are_streams-append n [] ys p q = let none : n ≡ n + 0 = omega arith in ap (λ m. are_streams m ys) none ∙ q
are_streams-append n (x ∷ xs) ys p q =
    let one : n + suc (length xs) ≡ (n + 1) + length xs = omega arith in
    both (is_stream_from n 0 x) _ (and_left _ _ p) (are_streams-append (n + 1) xs ys (and_right _ _ p) (rw one at q))
