-- Totals over two lists of which the one has, for each element of the other, one of its own.
use Rattle.std.proofs.Common.{◌≡◌, ◌⊎◌, inl, inr, ℕ, zero, suc, ◌+◌, ◌≤◌, false, List, [], ◌∷◌, ◌++◌, map, length, Some, refl, sym, ap, ◌∙◌, arith}
use Rattle.std.specs.Prelude.{slice_get, ◌==◌, ◌||◌}
use Rattle.std.specs.List.{list_any, flat_map}
use Rattle.std.proofs.lemmas.Bool.{cases_eq, ne_eqb}
use Rattle.flu_lemmas.specs.Totals.{total}
use Rattle.flu_lemmas.specs.Counting.{times}
use Rattle.flu_lemmas.proofs.Totals.{total-append}
use Rattle.flu_lemmas.proofs.Counting.{times-cons, times_append, times_of_same}
use Rattle.flu_grammar.specs.Means.{AllDiffer}
use Rattle.flu_grammar.proofs.Lists.{some_same, get_map, differ_tail, differ_head}

-- a list with an element in its middle
pub record SplitAt {X : Type 0} (xs : List X) (x : X) : Type 0 where
  pub front : List X
  pub back : List X
  pub is : xs ≡ front ++ x ∷ back

pub split_at : {X : Type 0} (xs : List X) (i : ℕ) (x : X) → slice_get xs i ≡ Some x → SplitAt xs x
split_at [] i x e = absurd cc
split_at (z ∷ xs) zero x e = record { front = []; back = xs; is = ap (λ y. y ∷ xs) (some_same z x e) }
split_at (z ∷ xs) (suc i) x e = let more = split_at xs i x e in record { front = z ∷ more.front; back = more.back; is = ap (λ l. z ∷ l) more.is }

-- an element is the one in the middle or another
pub without : {X : Type 0} (front back : List X) (x : X) (i : ℕ) (y : X) → slice_get (front ++ x ∷ back) i ≡ Some y
    → (x ≡ y) ⊎ ((j : ℕ) × (slice_get (front ++ back) j ≡ Some y))
without [] back x zero y e = inl (some_same x y e)
without [] back x (suc i) y e = inr (i, e)
without (z ∷ front) back x zero y e = inr (0, e)
without (z ∷ front) back x (suc i) y e = elim (without front back x i y e) [ inl same ↦ inl same | inr there ↦ inr (suc there.0, there.1) ]

module _ {X Y K : Type 0} (key_x : X → K) (key_y : Y → K) (weight_x : X → ℕ) (weight_y : Y → ℕ) where
  -- an element of the same key that weighs no less
  pub record HasOwn (ys : List Y) (x : X) : Type 0 where
    pub place : ℕ
    pub other : Y
    pub here : slice_get ys place ≡ Some other
    pub same : key_y other ≡ key_x x
    pub no_less : weight_x x ≤ weight_y other

  pub total_no_more : (xs : List X) (ys : List Y) → AllDiffer (map key_x xs) → ((i : ℕ) (x : X) → slice_get xs i ≡ Some x → HasOwn ys x)
      → total weight_x xs ≤ total weight_y ys
  total_no_more [] ys d own = omega arith
  total_no_more (x ∷ xs) ys d own =
      let first = own 0 x refl in
      let at = split_at ys first.place first.other first.here in
      let rest = total_no_more xs (at.front ++ at.back) (differ_tail (key_x x) (map key_x xs) d) (λ i y e. (
      let other = own (suc i) y e in
      elim (without at.front at.back first.other other.place other.other (ap (λ (l : List Y). slice_get l other.place) (sym at.is) ∙ other.here)) [
        | inl same ↦ absurd (differ_head (key_x x) (map key_x xs) d i
            (get_map key_x xs i y e ∙ ap (λ (k : K). Some k) (sym other.same ∙ ap key_y (sym same) ∙ first.same)))
        | inr there ↦ record { place = there.0; other = other.other; here = there.1; same = other.same; no_less = other.no_less }
      ])) in
      let whole : total weight_y ys ≡ total weight_y at.front + total weight_y (first.other ∷ at.back) = ap (total weight_y) at.is
      ∙ total-append weight_y at.front (first.other ∷ at.back) in
      let parts : total weight_y (at.front ++ at.back) ≡ total weight_y at.front + total weight_y at.back = total-append weight_y at.front at.back in
      let less = first.no_less in
      omega (arith, whole, parts, rest, less)

pub total_ones : {X : Type 0} (xs : List X) → total (λ x. 1) xs ≡ length xs
total_ones [] = refl
total_ones (x ∷ xs) = let more = total_ones xs in omega arith

-- how often a number stands in what a list is made of
pub times_in_each : {X : Type 0} (n : ℕ) (f : X → List ℕ) (xs : List X) → times n (flat_map f xs) ≡ total (λ x. times n (f x)) xs
times_in_each n f [] = refl
times_in_each n f (x ∷ xs) = times_append n (f x) (flat_map f xs) ∙ ap (λ m. times n (f x) + m) (times_in_each n f xs)

-- a number that does not stand in a list is not found there
pub not_there : (n : ℕ) (xs : List ℕ) → times n xs ≡ 0 → list_any (λ x. n == x) xs ≡ false
not_there n [] e = refl
not_there n (x ∷ xs) e =
    elim (cases_eq x n) [
      | inl same ↦ absurd (let one = times_of_same n x xs same in omega (arith, one, e))
      | inr other ↦
          let more : times n xs ≡ 0 = (let cons = times-cons n x xs in omega (arith, cons, e)) in
          ap (λ b. b || list_any (λ x. n == x) xs) (ne_eqb n x (λ same. other (sym same))) ∙ not_there n xs more
    ]
