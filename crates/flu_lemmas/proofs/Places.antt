-- Elements by their places, and the first place of a list where a test passes.
use Rattle.std.proofs.Common.{◌≡◌, ◌+◌, ◌-◌, ◌<◌, ◌≤◌, ℕ, zero, suc, Bool, true, false, cond, Option, Some, None, List, [], ◌∷◌, ◌++◌, map, length, get_or}
use Rattle.std.proofs.Common.{drop, length-append, ◌⊎◌, inl, inr, refl, sym, ap, ◌∙◌, arith}
use Rattle.std.specs.Prelude.{not, option_map, position, slice_get, slice_index, replicate, ltb, eqb}
use Rattle.std.specs.List.{list_any, range_with_len, position_or_len}
use Rattle.std.specs.Option.{is_some}
use Rattle.std.proofs.Math.ListN.{set}
use Rattle.std.proofs.lemmas.Bool.{cases_Bool, cases_lt, or_parts, lt-ltb}
use Rattle.std.proofs.lemmas.Bool.Decides.{nat_tests}
use Rattle.std.proofs.lemmas.List.{drop_more, map-append, replicate-append-replicate}
use Rattle.std.proofs.lemmas.List.Quantifiers.{position-Some}
use Rattle.flu_lemmas.proofs.Prefixes.{mapped}

-- ---- elements by their places
pub slice_get-there : {X : Type 0} (xs : List X) (i : ℕ) → i < length xs → (x : X) × (slice_get xs i ≡ Some x)
slice_get-there [] i lt = absurd (omega arith)
slice_get-there (x ∷ xs) zero lt = (x, refl)
slice_get-there (x ∷ xs) (suc i) lt = slice_get-there xs i (omega arith)

pub slice_get-is_some : {X : Type 0} (xs : List X) (i : ℕ) → i < length xs → is_some (slice_get xs i) ≡ true
slice_get-is_some xs i lt = ap is_some (slice_get-there xs i lt).1

-- a test that nothing passes tells that there is an element
pub slice_get-within : {X : Type 0} (test : Option X → Bool) → test None ≡ false → (xs : List X) (i : ℕ) → test (slice_get xs i) ≡ true → i < length xs
slice_get-within test none [] i e = cc
slice_get-within test none (x ∷ xs) zero e = omega arith
slice_get-within test none (x ∷ xs) (suc i) e = let later : i < length xs = slice_get-within test none xs i e in omega (arith, later)

-- what stands behind a front
pub slice_get-behind : {X : Type 0} (front : List X) (x : X) (rest : List X) → slice_get (front ++ x ∷ rest) (length front) ≡ Some x
slice_get-behind [] x rest = refl
slice_get-behind (y ∷ front) x rest = slice_get-behind front x rest

-- with one element more at the end
pub slice_get_push : {X : Type 0} (xs : List X) (x : X) (i : ℕ) (y : X) → slice_get (xs ++ x ∷ []) i ≡ Some y
    → (slice_get xs i ≡ Some y) ⊎ ((i ≡ length xs) × (x ≡ y))
slice_get_push [] x zero y e = inr (refl, cc)
slice_get_push [] x (suc i) y e = cc
slice_get_push (z ∷ zs) x zero y e = inl e
slice_get_push (z ∷ zs) x (suc i) y e =
    elim (slice_get_push zs x i y e) as (λ q. (slice_get zs i ≡ Some y) ⊎ ((suc i ≡ suc (length zs)) × (x ≡ y))) [
      | inl f ↦ inl f
      | inr at ↦ inr (ap suc at.0, at.1)
    ]

pub slice_index-map : {X : Type 0} (f : X → ℕ) (xs : List X) (i : ℕ) (x : X) → slice_get xs i ≡ Some x → slice_index (map f xs) i ≡ f x
slice_index-map f [] i x e = cc
slice_index-map f (y ∷ ys) zero x e = let same : y ≡ x = cc in ap f same
slice_index-map f (y ∷ ys) (suc i) x e = slice_index-map f ys i x e

-- an element is replaced by one of which f says the same
pub map-set_alike : {X : Type 0} (f : X → ℕ) (xs : List X) (i : ℕ) (x v : X) → slice_get xs i ≡ Some x → f v ≡ f x → map f (set xs i v) ≡ map f xs
map-set_alike f [] i x v e same = refl
map-set_alike f (y ∷ ys) zero x v e same = let here : y ≡ x = cc in ap (λ n. n ∷ map f ys) (same ∙ sym (ap f here))
map-set_alike f (y ∷ ys) (suc i) x v e same = ap (λ ns. f y ∷ ns) (map-set_alike f ys i x v e same)

-- what is left from a place that was read
pub drop_read : {X : Type 0} (xs : List X) (i : ℕ) (x : X) → i < length xs → x ≡ get_or xs i x → drop i xs ≡ x ∷ drop (i + 1) xs
drop_read xs i x lt is = drop_more xs i x lt ∙ ap (λ y. y ∷ drop (i + 1) xs) (sym is)

-- as many zeros as elements
pub map_push_zero : {X : Type 0} (f : X → ℕ) (xs : List X) (x : X) (n : ℕ) → map f xs ≡ replicate n 0 → f x ≡ 0 → map f (xs ++ x ∷ []) ≡ replicate (n + 1) 0
map_push_zero f xs x n zeros none =
    map-append f xs (x ∷ []) ∙ ap (λ ns. ns ++ f x ∷ []) zeros ∙ ap (λ y. replicate n 0 ++ y ∷ []) none ∙ replicate-append-replicate n 1 0

-- ---- the first place where a test passes
shifted : (n m : ℕ) → cond (ltb (1 + n) (suc m)) (Some (1 + n)) None ≡ option_map (λ i. i + 1) (cond (ltb n m) (Some n) None)
shifted n m = grind (arith, nat_tests)

at_front : (m : ℕ) → cond {A = Option ℕ} (ltb 0 (suc m)) (Some 0) None ≡ Some 0
at_front m = let some : ltb 0 (suc m) ≡ true = grind (arith, nat_tests) in rw some refl

-- where the first element passes, and where it does not
pub position-cons : {X : Type 0} (p : X → Bool) (x : X) (xs : List X) → position p (x ∷ xs) ≡ cond (p x) (Some 0) (option_map (λ i. i + 1) (position p xs))
position-cons p x xs =
    elim (cases_Bool (p x)) [
      | inl hit ↦ rw hit (at_front (length xs))
      | inr miss ↦ rw miss (shifted (position_or_len p xs) (length xs))
    ]

pub position-map : {X Y : Type 0} (p : Y → Bool) (f : X → Y) (xs : List X) → position p (map f xs) ≡ position (λ x. p (f x)) xs
position-map p f [] = refl
position-map p f (x ∷ xs) = rw (position-cons p (f x) (map f xs), position-cons (λ (z : _). p (f z)) x xs, position-map p f xs) refl

pub position-none : {X : Type 0} (xs : List X) → position (λ x. false) xs ≡ None
position-none [] = refl
position-none (x ∷ xs) = rw (position-cons (λ (z : _). false) x xs, position-none xs) refl

pub position_below : {X : Type 0} (p : X → Bool) (xs : List X) (i : ℕ) → position p xs ≡ Some i → i < length xs
position_below p [] i e = cc
position_below p (x ∷ xs) i e = (position-Some p (x ∷ xs) i x e).0

-- what stands at the first place passes
pub position_passes : {X : Type 0} (p : X → Bool) (xs : List X) (k : ℕ) → position p xs ≡ Some k → (x : X) × (slice_get xs k ≡ Some x) × (p x ≡ true)
position_passes p [] k e = cc
position_passes p (x ∷ xs) k e =
    elim (cases_Bool (p x)) [
      | inl hit ↦
          let there : Some 0 ≡ Some k = sym (position-cons p x xs ∙ ap (λ b. cond b (Some 0) (option_map (λ i. i + 1) (position p xs))) hit) ∙ e in
          let first : 0 ≡ k = cc in
          (x, ap (slice_get (x ∷ xs)) (sym first), hit)
      | inr miss ↦
          let there : option_map (λ i. i + 1) (position p xs) ≡ Some k =
          sym (position-cons p x xs ∙ ap (λ b. cond b (Some 0) (option_map (λ i. i + 1) (position p xs))) miss) ∙ e in
          let found = mapped (λ i. i + 1) (position p xs) k there in
          let later = found.2 in
          let number : k ≡ suc found.0 = omega arith in
          let more = position_passes p xs found.0 found.1 in
          (more.0, ap (slice_get (x ∷ xs)) number ∙ more.1, more.2)
    ]

-- behind elements that do not pass
pub place_behind : {X : Type 0} (p : X → Bool) (front rest : List X) (x : X) → list_any p front ≡ false → p x ≡ true
    → position_or_len p (front ++ x ∷ rest) ≡ length front
place_behind p [] rest x none e = ap (λ b. cond (not b) (1 + position_or_len p rest) 0) e
place_behind p (y ∷ ys) rest x none e =
    let parts = or_parts (p y) (list_any p ys) none in
    let later : position_or_len p (ys ++ x ∷ rest) ≡ length ys = place_behind p ys rest x parts.1 e in
    ap (λ b. cond (not b) (1 + position_or_len p (ys ++ x ∷ rest)) 0) parts.0 ∙ omega (arith, later)

pub position_behind : {X : Type 0} (p : X → Bool) (front rest : List X) (x : X) → list_any p front ≡ false → p x ≡ true
    → position p (front ++ x ∷ rest) ≡ Some (length front)
position_behind p front rest x none e =
    let place = place_behind p front rest x none e in
    let long : length (front ++ x ∷ rest) ≡ length front + length (x ∷ rest) = length-append front (x ∷ rest) in
    let inside : position_or_len p (front ++ x ∷ rest) < length (front ++ x ∷ rest) = omega (arith, place, long) in
    ap (λ b. cond b (Some (position_or_len p (front ++ x ∷ rest))) None) (lt-ltb (position_or_len p (front ++ x ∷ rest)) (length (front ++ x ∷ rest)) inside)
    ∙ ap Some place

-- ---- the place of a number in a run
before_range : (key lo n : ℕ) → key < lo → position (λ k. eqb key k) (range_with_len lo n) ≡ None
before_range key lo zero lt = refl
before_range key lo (suc n) lt =
    let miss : eqb key lo ≡ false = grind (arith, nat_tests) in
    rw (position-cons (λ k. eqb key k) lo (range_with_len (lo + 1) n), miss, before_range key (lo + 1) n (omega arith)) refl

pub position_in_range : (key lo n : ℕ) → lo ≤ key → key < lo + n → position (λ k. eqb key k) (range_with_len lo n) ≡ Some (key - lo)
position_in_range key lo zero le lt = absurd (omega arith)
position_in_range key lo (suc n) le lt =
    elim (cases_lt lo key) [
      | inl more ↦
          let miss : eqb key lo ≡ false = grind (arith, nat_tests) in
          let one : (key - (lo + 1)) + 1 ≡ key - lo = omega arith in
          rw (position-cons (λ k. eqb key k) lo (range_with_len (lo + 1) n), miss, position_in_range key (lo + 1) n (omega arith) (omega arith)) (ap Some one)
      | inr less ↦
          let hit : eqb key lo ≡ true = grind (arith, nat_tests) in
          let none : 0 ≡ key - lo = omega arith in
          rw (position-cons (λ k. eqb key k) lo (range_with_len (lo + 1) n), hit) (ap Some none)
    ]

pub position_out_of_range : (key lo n : ℕ) → (lo ≤ key → lo + n ≤ key) → position (λ k. eqb key k) (range_with_len lo n) ≡ None
position_out_of_range key lo zero out = refl
position_out_of_range key lo (suc n) out =
    elim (cases_lt key lo) [
      | inl less ↦ before_range key lo (suc n) less
      | inr le ↦
          let past = out le in
          let miss : eqb key lo ≡ false = grind (arith, nat_tests) in
          rw (position-cons (λ k. eqb key k) lo (range_with_len (lo + 1) n), miss, position_out_of_range key (lo + 1) n (λ more. omega arith)) refl
    ]
