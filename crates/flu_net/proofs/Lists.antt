-- Lists in which one item is set.
use Rattle.std.proofs.Common.{◌≡◌, ◌<◌, ◌≤◌, ℕ, zero, suc, Some, List, [], ◌∷◌, ◌++◌, length, map, take, drop, set, refl, sym, ap, ◌∙◌, arith}
use Rattle.std.specs.Prelude.{slice_get}
use Rattle.std.proofs.lemmas.Option.{same_Some}
use Rattle.flu_lemmas.proofs.Replaced.{slice_get-set_same}

-- what stands where one item was set is that item
pub set_is : {X : Type 0} (xs : List X) (i : ℕ) (x y : X) → i < length xs → slice_get (set xs i x) i ≡ Some y → x ≡ y
set_is xs i x y lt e = same_Some x y (sym (slice_get-set_same xs i x lt) ∙ e)

-- the first items are changed, and then one more
pub map_one_more : {X : Type 0} (f : X → X) (xs : List X) (i : ℕ) (x : X) → slice_get xs i ≡ Some x
    → set (map f (take i xs) ++ drop i xs) i (f x) ≡ map f (take (suc i) xs) ++ drop (suc i) xs
map_one_more f [] i x e = cc
map_one_more f (y ∷ ys) zero x e = ap (λ z. f z ∷ ys) (sym (same_Some y x e))
map_one_more f (y ∷ ys) (suc i) x e = ap (λ l. f y ∷ l) (map_one_more f ys i x e)

pub mapped_here : {X : Type 0} (f : X → X) (xs : List X) (i : ℕ) → slice_get (map f (take i xs) ++ drop i xs) i ≡ slice_get xs i
mapped_here f [] zero = refl
mapped_here f [] (suc i) = refl
mapped_here f (y ∷ ys) zero = refl
mapped_here f (y ∷ ys) (suc i) = mapped_here f ys i

pub mapped_long : {X : Type 0} (f : X → X) (xs : List X) (i : ℕ) → length (map f (take i xs) ++ drop i xs) ≡ length xs
mapped_long f [] zero = refl
mapped_long f [] (suc i) = refl
mapped_long f (y ∷ ys) zero = refl
mapped_long f (y ∷ ys) (suc i) = ap suc (mapped_long f ys i)

pub mapped_all : {X : Type 0} (f : X → X) (xs : List X) (i : ℕ) → length xs ≤ i → map f (take i xs) ++ drop i xs ≡ map f xs
mapped_all f [] zero le = refl
mapped_all f [] (suc i) le = refl
mapped_all f (y ∷ ys) zero le = absurd (omega arith)
mapped_all f (y ∷ ys) (suc i) le = ap (λ l. f y ∷ l) (mapped_all f ys i (omega arith))
