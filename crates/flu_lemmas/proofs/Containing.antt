-- What a list contains, beside what std's Elements say.
use Rattle.std.proofs.Common.{◌≡◌, ◌≢◌, ◌<◌, ◌≤◌, ℕ, zero, suc, Bool, true, false, ◌⊎◌, inl, inr, List, [], ◌∷◌, Option, Some, None, length, get_or}
use Rattle.std.proofs.Common.{refl, sym, ap, subst, ◌∙◌, arith}
use Rattle.std.specs.List.{cons_option, filter_map}
use Rattle.std.specs.Prelude.{Contains, slice_get, slice_index_or}
use Rattle.std.specs.Bool.{Decides}
use Rattle.std.proofs.lemmas.Bool.{both_ways}
use Rattle.std.proofs.lemmas.List.{get_or_default}

pub contains_here : {X : Type 0} (x : X) (xs : List X) → Contains (x ∷ xs) x
contains_here x xs = (0, omega arith, refl)

pub contains_later : {X : Type 0} (x y : X) (xs : List X) → Contains xs y → Contains (x ∷ xs) y
contains_later x y xs there = let lt = there.1 in (suc there.0, omega (arith, lt), there.2)

pub contains_cases : {X : Type 0} (x y : X) (xs : List X) → Contains (x ∷ xs) y → (x ≡ y) ⊎ Contains xs y
contains_cases {X} x y xs there = at there.0 there.1 there.2
  where
    at : (k : ℕ) → k < length (x ∷ xs) → slice_index_or (x ∷ xs) k y ≡ y → (x ≡ y) ⊎ Contains xs y
    at zero lt e = inl e
    at (suc k) lt e = inr (k, omega arith, e)

-- what is kept of later elements, where something may be kept of the first one
pub kept_later : {X : Type 0} (o : Option X) (xs : List X) (x : X) → Contains xs x → Contains (cons_option o xs) x
kept_later None xs x there = there
kept_later (Some y) xs x there = contains_later y x xs there

-- what is kept of an element is among all that is kept
pub kept_at : {X Y : Type 0} (keep : X → Option Y) (xs : List X) (i : ℕ) (x : X) (y : Y) → slice_get xs i ≡ Some x → keep x ≡ Some y
    → Contains (filter_map keep xs) y
kept_at keep [] i x y is kept = absurd cc
kept_at keep (z ∷ xs) zero x y is kept =
    let same : z ≡ x = cc in
    subst (λ o. Contains (cons_option o (filter_map keep xs)) y) (sym (ap keep same ∙ kept)) (contains_here y (filter_map keep xs))
kept_at keep (z ∷ xs) (suc i) x y is kept = kept_later (keep z) (filter_map keep xs) y (kept_at keep xs i x y is kept)

pub contains_none : {X : Type 0} (x : X) → Contains [] x → ⊥
contains_none x there = let lt = there.1 in omega (arith, lt)

-- a list of one element
pub contains_one : {X : Type 0} (x y : X) → Contains (x ∷ []) y → x ≡ y
contains_one x y there = elim (contains_cases x y [] there) [ inl same ↦ same | inr later ↦ absurd (contains_none y later) ]

pub one_contains : {X : Type 0} (x y : X) → y ≡ x → Contains (x ∷ []) y
one_contains x y same = (0, omega arith, sym same)

pub only_one : {X : Type 0} (xs : List X) (x y : X) → length xs ≤ 1 → Contains xs x → Contains xs y → x ≡ y
only_one [] x y few in_x in_y = absurd (contains_none x in_x)
only_one (z ∷ []) x y few in_x in_y = sym (contains_one z x in_x) ∙ contains_one z y in_y
only_one (z ∷ w ∷ xs) x y few in_x in_y = absurd (omega arith)

-- where it stands
pub place_in : {X : Type 0} (xs : List X) (x d : X) → Contains xs x → (k : ℕ) × (k < length xs) × (get_or xs k d ≡ x)
place_in xs x d there = (there.0, there.1, get_or_default xs there.0 d x there.1 ∙ there.2)

-- it does or it does not, where a test decides equality
module _ {X : Type 0} (same : X → X → Bool) (decides : (x y : X) → Decides (same x y) (x ≡ y)) where
  pub equal_or_not : (x y : X) → (x ≡ y) ⊎ (x ≢ y)
  equal_or_not x y = by (same x y) refl
    where
      by : (b : Bool) → same x y ≡ b → (x ≡ y) ⊎ (x ≢ y)
      by true e = inl ((decides x y).0 e)
      by false e = inr (λ is. both_ways (same x y) e ((decides x y).1 is))

  pub contains_or_not : (xs : List X) (x : X) → Contains xs x ⊎ (Contains xs x → ⊥)
  contains_or_not [] x = inr (contains_none x)
  contains_or_not (y ∷ ys) x =
      elim (equal_or_not y x) [
        | inl is ↦ inl (subst (Contains (y ∷ ys)) is (contains_here y ys))
        | inr other ↦ elim (contains_or_not ys x) [
          | inl there ↦ inl (contains_later y x ys there)
          | inr missing ↦ inr (λ there. elim (contains_cases y x ys there) [ inl is ↦ other is | inr later ↦ missing later ])
        ]
      ]
