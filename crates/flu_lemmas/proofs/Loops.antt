-- Looks that may find a fault, and what a loop of them keeps, counts and finds.
use Rattle.std.proofs.Common.{◌≡◌, ℕ, zero, suc, ◌+◌, ◌<◌, ◌≤◌, List, [], ◌∷◌, ◌++◌, map, length, drop, get_or, append_assoc, Some, Ok, Err, refl, sym, ap}
use Rattle.std.proofs.Common.{subst, ◌∙◌, arith}
use Rattle.std.specs.Prelude.{Result, slice_get}
use Rattle.std.specs.List.{flat_map, AllByRecursion}
use Rattle.std.proofs.lemmas.List.{drop_all, append-nil, get_or_default}
use Rattle.flu_lemmas.specs.Totals.{total}
use Rattle.flu_lemmas.specs.Loops.{◌>>=◌, ◌>>◌, each}
use Rattle.flu_lemmas.proofs.Elements.{all_of_any}
use Rattle.flu_lemmas.proofs.Places.{drop_read}

-- ---- one look after another
-- what was found first, and that the rest found something of it
pub bind_ok : {E A B : Type 0} (r : Result A E) (g : A → Result B E) (y : B) → (r >>= g) ≡ Ok y → (x : A) × (r ≡ Ok x) × (g x ≡ Ok y)
bind_ok (Ok x) g y e = (x, refl, e)
bind_ok (Err fault) g y e = absurd cc

pub then_ok : {E A B : Type 0} (r : Result A E) (g : Result B E) (y : B) → (r >> g) ≡ Ok y → (x : A) × (r ≡ Ok x) × (g ≡ Ok y)
then_ok (Ok x) g y e = (x, refl, e)
then_ok (Err fault) g y e = absurd cc

-- two looks that find nothing but whether they pass
pub both_pass : {E : Type 0} (r : Result (Unit {0}) E) (g : Unit {0} → Result (Unit {0}) E) → (r >>= g) ≡ Ok tt → (r ≡ Ok tt) × (g tt ≡ Ok tt)
both_pass (Ok u) g e = (refl, e)
both_pass (Err fault) g e = absurd cc

-- ---- a loop, element by element
module _ {E S X : Type 0} (step : S → X → Result S E) where
  pub each-next : (s t : S) (xs : List X) (i : ℕ) (x : X) → i < length xs → x ≡ get_or xs i x → step s x ≡ Ok t
      → each step s (drop i xs) ≡ each step t (drop (i + 1) xs)
  unfolding each
  each-next s t xs i x lt is found = ap (each step s) (drop_read xs i x lt is) ∙ ap (λ r. r >>= λ t. each step t (drop (i + 1) xs)) found

  pub each-fault : (s : S) (e : E) (xs : List X) (i : ℕ) (x : X) → i < length xs → x ≡ get_or xs i x → step s x ≡ Err e → each step s (drop i xs) ≡ Err e
  unfolding each
  each-fault s e xs i x lt is found = ap (each step s) (drop_read xs i x lt is) ∙ ap (λ r. r >>= λ t. each step t (drop (i + 1) xs)) found

  pub each-end : (s : S) (xs : List X) (i : ℕ) → length xs ≤ i → each step s (drop i xs) ≡ Ok s
  unfolding each
  each-end s xs i past = ap (each step s) (drop_all i xs past)

  -- the same, where the element is read with a default
  pub each-next-at : (d : X) (s t : S) (xs : List X) (i : ℕ) → i < length xs → step s (get_or xs i d) ≡ Ok t
      → each step s (drop i xs) ≡ each step t (drop (i + 1) xs)
  each-next-at d s t xs i lt found = each-next s t xs i (get_or xs i d) lt (get_or_default xs i d (get_or xs i d) lt) found

  pub each-fault-at : (d : X) (s : S) (e : E) (xs : List X) (i : ℕ) → i < length xs → step s (get_or xs i d) ≡ Err e → each step s (drop i xs) ≡ Err e
  each-fault-at d s e xs i lt found = each-fault s e xs i (get_or xs i d) lt (get_or_default xs i d (get_or xs i d) lt) found

  -- ---- what a loop that finds no fault keeps and adds
  -- what each step keeps holds in the end
  pub each-keeps : (I : S → Type 0) (P : X → Type 0) → ((s : S) (x : X) (t : S) → I s → P x → step s x ≡ Ok t → I t) → (s : S) (xs : List X) (t : S)
      → I s → AllByRecursion P xs → each step s xs ≡ Ok t → I t
  unfolding each
  each-keeps I P f s [] t i all e = let same : s ≡ t = cc in subst I same i
  each-keeps I P f s (x ∷ xs) t i all e =
      let h = bind_ok (step s x) (λ u. each step u xs) t e in
      each-keeps I P f h.0 xs t (f s x h.0 i all.0 h.1) all.1 h.2

  -- the same, of elements of which nothing need hold
  pub each-keeps-any : (I : S → Type 0) → ((s : S) (x : X) (t : S) → I s → step s x ≡ Ok t → I t) → (s : S) (xs : List X) (t : S) → I s
      → each step s xs ≡ Ok t → I t
  each-keeps-any I f s xs t i e =
      each-keeps I (λ x. Unit {0}) (λ s x t i p e. f s x t i e) s xs t i (all_of_any (λ x. Unit {0}) (λ x. tt) xs) e

  -- what each step adds to a number
  pub each-counts : (f : S → ℕ) (g : X → ℕ) → ((s : S) (x : X) (t : S) → step s x ≡ Ok t → f t ≡ f s + g x) → (s : S) (xs : List X) (t : S)
      → each step s xs ≡ Ok t → f t ≡ f s + total g xs
  unfolding each
  each-counts f g adds s [] t e = let same : s ≡ t = cc in let kept : f s ≡ f t = ap f same in omega arith
  each-counts f g adds s (x ∷ xs) t e =
      let h = bind_ok (step s x) (λ u. each step u xs) t e in
      let here : f h.0 ≡ f s + g x = adds s x h.0 h.1 in
      let rest : f t ≡ f h.0 + total g xs = each-counts f g adds h.0 xs t h.2 in
      omega (arith, here, rest)

  -- what each step adds to a list
  pub each-lists : {Y : Type 0} (f : S → List Y) (g : X → List Y) → ((s : S) (x : X) (t : S) → step s x ≡ Ok t → f t ≡ f s ++ g x)
      → (s : S) (xs : List X) (t : S) → each step s xs ≡ Ok t → f t ≡ f s ++ flat_map g xs
  unfolding each
  each-lists f g adds s [] t e = let same : s ≡ t = cc in sym (ap f same) ∙ sym (append-nil (f s))
  each-lists f g adds s (x ∷ xs) t e =
      let h = bind_ok (step s x) (λ u. each step u xs) t e in
      each-lists f g adds h.0 xs t h.2 ∙ ap (λ ys. ys ++ flat_map g xs) (adds s x h.0 h.1) ∙ append_assoc (f s) (g x) (flat_map g xs)

-- ---- a loop of looks that find nothing but whether they pass: each of them passes
module _ {E X : Type 0} (look : Unit {0} → X → Result (Unit {0}) E) where
  pub each-got : (xs : List X) (i : ℕ) (x : X) → each look tt xs ≡ Ok tt → slice_get xs i ≡ Some x → look tt x ≡ Ok tt
  unfolding each
  each-got [] i x e got = absurd cc
  each-got (y ∷ ys) zero x e got = ap (look tt) (sym (some_same got)) ∙ (both_pass (look tt y) (λ t. each look t ys) e).0
    where
      some_same : Some y ≡ Some x → y ≡ x
      some_same e = cc
  each-got (y ∷ ys) (suc i) x e got = each-got ys i x (both_pass (look tt y) (λ t. each look t ys) e).1 got

  pub each-passed : (xs : List X) (i : ℕ) (d : X) → each look tt xs ≡ Ok tt → i < length xs → look tt (get_or xs i d) ≡ Ok tt
  unfolding each
  each-passed [] i d e lt = absurd (omega arith)
  each-passed (x ∷ xs) zero d e lt = (both_pass (look tt x) (λ t. each look t xs) e).0
  each-passed (x ∷ xs) (suc i) d e lt = each-passed xs i d (both_pass (look tt x) (λ t. each look t xs) e).1 (omega arith)

-- ---- steps through what elements are seen as
module _ {E S X Y : Type 0} (step : S → X → Result S E) (view : Y → X) where
  pub each-map : (s : S) (ys : List Y) → each (λ t y. step t (view y)) s ys ≡ each step s (map view ys)
  unfolding each
  each-map s [] = refl
  each-map s (y ∷ ys) = by (step s (view y)) (λ t. each-map t ys)
    where
      by : (r : Result S E) → ((t : S) → each (λ t y. step t (view y)) t ys ≡ each step t (map view ys))
          → (r >>= λ t. each (λ t y. step t (view y)) t ys) ≡ (r >>= λ t. each step t (map view ys))
      by (Ok t) rest = rest t
      by (Err e) rest = refl

-- ---- one step of finding something of each element
abbrev pub collect : {E X Y : Type 0} → (X → Result Y E) → List Y → X → Result (List Y) E
collect find done x = find x >>= λ y. Ok (done ++ y ∷ [])

pub collects : {E X Y : Type 0} (find : X → Result Y E) (done : List Y) (x : X) (y : Y) → find x ≡ Ok y → collect find done x ≡ Ok (done ++ y ∷ [])
collects find done x y found = ap (λ r. r >>= λ y. Ok (done ++ y ∷ [])) found

pub collect-fault : {E X Y : Type 0} (find : X → Result Y E) (done : List Y) (x : X) (e : E) → find x ≡ Err e → collect find done x ≡ Err e
collect-fault find done x e found = ap (λ r. r >>= λ y. Ok (done ++ y ∷ [])) found
