-- Lists whose elements all differ, by equality.
use Rattle.std.proofs.Common.{◌≡◌, ◌≢◌, ◌⊎◌, inl, inr, ℕ, zero, suc, ◌+◌, ◌<◌, ◌≤◌, Bool, true, false, List, [], ◌∷◌, ◌++◌, map, length, refl, sym, ap, subst}
use Rattle.std.proofs.Common.{◌∙◌, arith}
use Rattle.std.specs.Prelude.{◌&&◌, ◌||◌, ◌==◌, not, sum_by}
use Rattle.std.specs.List.{list_any}
use Rattle.std.proofs.lemmas.List.Sums.{sum_by-append, sum_by-cons}
use Rattle.flu_lemmas.proofs.Tests.{both, true_eq}
use Rattle.flu_lemmas.proofs.Searches.{eq_true}
use Rattle.flu_model.specs.Rules.{are_distinct}

-- an element is in a list
unfoldable pub In : {X : Type 0} → X → List X → Type 0
In x [] = ⊥
In x (y ∷ ys) = (x ≡ y) ⊎ In x ys

-- no element is in the list behind it
unfoldable pub Distinct : {X : Type 0} → List X → Type 0
Distinct [] = Unit {0}
Distinct (x ∷ xs) = (In x xs → ⊥) × Distinct xs

pub distinct_none : (X : Type 0) → Distinct {X = X} []
unfolding Distinct
distinct_none X = tt

module _ {X : Type 0} where
  pub in_nil : (x : X) → In x [] → ⊥
  unfolding In
  in_nil x h = h

  pub in_head : (x : X) (xs : List X) → In x (x ∷ xs)
  unfolding In
  in_head x xs = inl refl

  pub in_tail : (x y : X) (ys : List X) → In x ys → In x (y ∷ ys)
  unfolding In
  in_tail x y ys h = inr h

  pub in_cases : (x y : X) (ys : List X) → In x (y ∷ ys) → (x ≡ y) ⊎ In x ys
  unfolding In
  in_cases x y ys h = h

  pub in_left : (x : X) (xs ys : List X) → In x xs → In x (xs ++ ys)
  unfolding In
  in_left x [] ys h = absurd h
  in_left x (z ∷ xs) ys (inl e) = inl e
  in_left x (z ∷ xs) ys (inr h) = inr (in_left x xs ys h)

  pub in_right : (x : X) (xs ys : List X) → In x ys → In x (xs ++ ys)
  unfolding In
  in_right x [] ys h = h
  in_right x (z ∷ xs) ys h = inr (in_right x xs ys h)

  pub in_either : (x : X) (xs ys : List X) → In x (xs ++ ys) → In x xs ⊎ In x ys
  unfolding In
  in_either x [] ys h = inr h
  in_either x (z ∷ xs) ys (inl e) = inl (inl e)
  in_either x (z ∷ xs) ys (inr h) = elim (in_either x xs ys h) [ inl a ↦ inl (inr a) | inr b ↦ inr b ]

  -- an element more in the middle
  pub in_middle : (x k : X) (xs ys : List X) → In x (xs ++ k ∷ ys) → (x ≡ k) ⊎ In x (xs ++ ys)
  unfolding In
  in_middle x k [] ys h = h
  in_middle x k (z ∷ xs) ys (inl e) = inr (inl e)
  in_middle x k (z ∷ xs) ys (inr h) = elim (in_middle x k xs ys h) [ inl e ↦ inl e | inr b ↦ inr (inr b) ]

  pub distinct_cons : (x : X) (xs : List X) → (In x xs → ⊥) → Distinct xs → Distinct (x ∷ xs)
  unfolding Distinct
  distinct_cons x xs new d = (new, d)

  pub distinct_head : (x : X) (xs : List X) → Distinct (x ∷ xs) → In x xs → ⊥
  unfolding Distinct
  distinct_head x xs d = d.0

  pub distinct_tail : (x : X) (xs : List X) → Distinct (x ∷ xs) → Distinct xs
  unfolding Distinct
  distinct_tail x xs d = d.1

  pub distinct_middle : (k : X) (xs ys : List X) → Distinct (xs ++ ys) → (In k (xs ++ ys) → ⊥) → Distinct (xs ++ k ∷ ys)
  unfolding Distinct In
  distinct_middle k [] ys d new = (new, d)
  distinct_middle k (x ∷ xs) ys d new = (
    λ h. elim (in_middle x k xs ys h) [ inl e ↦ new (inl (sym e)) | inr b ↦ d.0 b ],
    distinct_middle k xs ys d.1 (λ h. new (inr h)),
  )

  pub distinct_last : (k : X) (xs : List X) → Distinct xs → (In k xs → ⊥) → Distinct (xs ++ k ∷ [])
  unfolding Distinct In
  distinct_last k [] d new = (λ h. h, tt)
  distinct_last k (x ∷ xs) d new = (
    λ h. elim (in_either x xs (k ∷ []) h) [ inl a ↦ d.0 a | inr b ↦ elim (in_cases x k [] b) [ inl e ↦ new (inl (sym e)) | inr c ↦ c ] ],
    distinct_last k xs d.1 (λ h. new (inr h)),
  )

  pub distinct_front : (xs ys : List X) → Distinct (xs ++ ys) → Distinct xs
  unfolding Distinct
  distinct_front [] ys d = tt
  distinct_front (x ∷ xs) ys d = (λ h. d.0 (in_left x xs ys h), distinct_front xs ys d.1)

  pub distinct_back : (xs ys : List X) → Distinct (xs ++ ys) → Distinct ys
  unfolding Distinct
  distinct_back [] ys d = d
  distinct_back (x ∷ xs) ys d = distinct_back xs ys d.1

  pub distinct_apart : (x : X) (xs ys : List X) → Distinct (xs ++ ys) → In x xs → In x ys → ⊥
  unfolding Distinct In
  distinct_apart x [] ys d h k = h
  distinct_apart x (z ∷ xs) ys d (inl e) k = d.0 (in_right z xs ys (subst (λ (y : X). In y ys) e k))
  distinct_apart x (z ∷ xs) ys d (inr h) k = distinct_apart x xs ys d.1 h k

  -- ---- as tests
  pub in_found : (same : X → X → Bool) → ((x : X) → same x x ≡ true) → (x : X) (xs : List X) → In x xs → list_any (same x) xs ≡ true
  unfolding In
  in_found same itself x [] h = absurd h
  in_found same itself x (y ∷ ys) (inl e) = ap (λ b. b || list_any (same x) ys) (subst (λ (z : X). same x z ≡ true) e (itself x))
  in_found same itself x (y ∷ ys) (inr h) = ap (λ b. same x y || b) (in_found same itself x ys h) ∙ or_true (same x y)
    where
      or_true : (b : Bool) → (b || true) ≡ true
      or_true true = refl
      or_true false = refl

  pub found_in : (same : X → X → Bool) → ((x y : X) → same x y ≡ true → x ≡ y) → (x : X) (xs : List X) → list_any (same x) xs ≡ true → In x xs
  unfolding In
  found_in same is x [] e = absurd cc
  found_in same is x (y ∷ ys) e = by (same x y) refl (found_in same is x ys)
    where
      by : (b : Bool) → same x y ≡ b → (list_any (same x) ys ≡ true → In x ys) → (x ≡ y) ⊎ In x ys
      by true t more = inl (is x y t)
      by false t more = inr (more (sym (ap (λ b. b || list_any (same x) ys) t) ∙ e))

  pub are_distinct-from : (same : X → X → Bool) → ((x y : X) → same x y ≡ true → x ≡ y) → (xs : List X) → Distinct xs → are_distinct same xs ≡ true
  unfolding Distinct
  are_distinct-from same is [] d = refl
  are_distinct-from same is (x ∷ xs) d =
      both (not (list_any (same x) xs)) (are_distinct same xs) (absent (list_any (same x) xs) refl) (are_distinct-from same is xs d.1)
    where
      absent : (b : Bool) → list_any (same x) xs ≡ b → not b ≡ true
      absent true t = absurd (d.0 (found_in same is x xs t))
      absent false t = refl

  pub distinct_from : (same : X → X → Bool) → ((x : X) → same x x ≡ true) → (xs : List X) → are_distinct same xs ≡ true → Distinct xs
  unfolding Distinct
  distinct_from same itself [] e = tt
  distinct_from same itself (x ∷ xs) e = by (list_any (same x) xs) refl (distinct_from same itself xs)
    where
      by : (b : Bool) → list_any (same x) xs ≡ b → (are_distinct same xs ≡ true → Distinct xs) → (In x xs → ⊥) × Distinct xs
      by true t more = let no : false ≡ true = sym (ap (λ b. not b && are_distinct same xs) t) ∙ e in absurd cc
      by false t more = (
        λ h. (let yes = in_found same itself x xs h in let no : true ≡ false = sym yes
            ∙ t in absurd cc),
        more (sym (ap (λ b. not b && are_distinct same xs) t) ∙ e),
      )

-- ---- what elements are seen as
module _ {X Y : Type 0} (f : X → Y) where
  pub in_map : (x : X) (xs : List X) → In x xs → In (f x) (map f xs)
  unfolding In
  in_map x [] h = h
  in_map x (y ∷ ys) (inl e) = inl (ap f e)
  in_map x (y ∷ ys) (inr h) = inr (in_map x ys h)

  pub in_unmap : (y : Y) (xs : List X) → In y (map f xs) → (x : X) × In x xs × (y ≡ f x)
  unfolding In
  in_unmap y [] h = absurd h
  in_unmap y (x ∷ xs) (inl e) = (x, inl refl, e)
  in_unmap y (x ∷ xs) (inr h) = let more = in_unmap y xs h in (more.0, inr more.1, more.2)

  -- different elements of a list are seen as different ones
  pub distinct_map : (xs : List X) → ((x y : X) → In x xs → In y xs → f x ≡ f y → x ≡ y) → Distinct xs → Distinct (map f xs)
  unfolding Distinct In
  distinct_map [] apart d = tt
  distinct_map (x ∷ xs) apart d = (
    λ h. (let other = in_unmap (f x) xs h in d.0 (subst (λ (z : X). In z xs) (sym (apart x other.0 (inl refl) (inr other.1) other.2)) other.1)),
    distinct_map xs (λ y z a b e. apart y z (inr a) (inr b) e) d.1,
  )

-- ---- numbers below a bound

-- an element, with what stands before and behind it
pub record Split {X : Type 0} (x : X) (xs : List X) : Type 0 where
  pub front : List X
  pub back : List X
  pub is : xs ≡ front ++ x ∷ back

pub split : {X : Type 0} (x : X) (xs : List X) → In x xs → Split x xs
unfolding In
split x [] h = absurd h
split x (y ∷ ys) (inl e) = record { front = []; back = ys; is = ap (λ z. z ∷ ys) (sym e) }
split x (y ∷ ys) (inr h) = let more = split x ys h in record { front = y ∷ more.front; back = more.back; is = ap (λ zs. y ∷ zs) more.is }

pub in_or_not : (v : ℕ) (vs : List ℕ) → In v vs ⊎ (In v vs → ⊥)
in_or_not v vs = by (list_any (λ u. v == u) vs) refl
  where
    by : (b : Bool) → list_any (λ u. v == u) vs ≡ b → In v vs ⊎ (In v vs → ⊥)
    by true t = inl (found_in (λ a b. a == b) true_eq v vs t)
    by false t = inr (λ h. (let yes = in_found (λ a b. a == b) (λ n. eq_true n n refl) v vs h in let no : true ≡ false = sym yes ∙ t in absurd cc))

distinct_without : {X : Type 0} (x : X) (front back : List X) → Distinct (front ++ x ∷ back) → Distinct (front ++ back) × (In x (front ++ back) → ⊥)
unfolding Distinct In
distinct_without x [] back d = (d.1, d.0)
distinct_without x (y ∷ front) back d =
    let more = distinct_without x front back d.1 in (
      (λ h. d.0 (elim (in_either y front back h) [ inl a ↦ in_left y front (x ∷ back) a | inr b ↦ in_right y front (x ∷ back) (inr b) ]), more.0),
      λ h. elim (in_cases x y (front ++ back) h) [ inl e ↦ d.0 (in_right y front (x ∷ back) (inl (sym e))) | inr b ↦ more.1 b ],
    )

in_without : {X : Type 0} (v x : X) (front back : List X) → In v (front ++ back) → In v (front ++ x ∷ back)
unfolding In
in_without v x front back h = elim (in_either v front back h) [ inl a ↦ in_left v front (x ∷ back) a | inr b ↦ in_right v front (x ∷ back) (inr b) ]

-- Different numbers below a bound have together at most what all below it have.
pub sum_below : (g total : ℕ → ℕ) (n : ℕ) → ((k : ℕ) → k < n → total k + g k ≡ total (suc k)) → (vs : List ℕ) → Distinct vs → ((v : ℕ) → In v vs → v < n)
    → sum_by g vs ≤ total n
sum_below g total zero adds [] d low = omega arith
sum_below g total zero adds (v ∷ vs) d low = let bad = low v (in_head v vs) in absurd (omega arith)
sum_below g total (suc n) adds vs d low =
    elim (in_or_not n vs) [
      | inl h ↦
          (let at = split n vs h in
          let without = distinct_without n at.front at.back (subst (λ (l : List ℕ). Distinct l) at.is d) in
          let rest = sum_below g total n (λ k lt. adds k (omega arith)) (at.front ++ at.back) without.0 (λ v i. (
          let below = low v (subst (λ (l : List ℕ). In v l) (sym at.is) (in_without v n at.front at.back i)) in
          let apart : v ≢ n = λ e. without.1 (subst (λ (z : ℕ). In z (at.front ++ at.back)) e i) in
          omega arith
          )) in
          let whole = ap (sum_by g) at.is ∙ sum_by-append g at.front (n ∷ at.back) in
          let behind = sum_by-cons g n at.back in
          let parts = sum_by-append g at.front at.back in
          let more = adds n (omega arith) in
          omega arith)
      | inr none ↦
          (let rest = sum_below g total n (λ k lt. adds k (omega arith)) vs d (λ v i. (
          let below = low v i in
          let apart : v ≢ n = λ e. none (subst (λ (z : ℕ). In z vs) e i) in
          omega arith
          )) in
          let more = adds n (omega arith) in
          omega arith)
    ]

-- and are no more than it
pub few_below : (n : ℕ) (vs : List ℕ) → Distinct vs → ((v : ℕ) → In v vs → v < n) → length vs ≤ n
few_below n vs d low = let sum = sum_below (λ v. 1) (λ k. k) n (λ k lt. omega arith) vs d low in let ones = sum_of_ones vs in omega arith
  where
    sum_of_ones : (vs : List ℕ) → sum_by (λ v. 1) vs ≡ length vs
    sum_of_ones [] = refl
    sum_of_ones (v ∷ vs) = let more = sum_of_ones vs in let one = sum_by-cons (λ v. 1) v vs in omega arith
