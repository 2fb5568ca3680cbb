-- What stands at a place of a list that is changed or made longer.
use Rattle.std.proofs.Common.{◌≡◌, ◌<◌, ◌≤◌, ◌+◌, ◌++◌, ℕ, zero, suc, Bool, true, false, cond, List, [], ◌∷◌, length, refl, ap, arith}
use Rattle.std.specs.Prelude.{slice_get}
use Rattle.std.proofs.Math.ListN.{length-append}

pub slice_get-append : {X : Type 0} (xs ys : List X) (i : ℕ) → i < length xs → slice_get (xs ++ ys) i ≡ slice_get xs i
slice_get-append [] ys i lt = absurd (omega arith)
slice_get-append (x ∷ xs) ys zero lt = refl
slice_get-append (x ∷ xs) ys (suc i) lt = slice_get-append xs ys i (omega arith)

-- a list to which at most one element was pushed
pub length_pushed : {X : Type 0} (b : Bool) (xs ys : List X) (x : X) → ys ≡ cond b (xs ++ x ∷ []) xs → length ys ≤ length xs + 1
length_pushed true xs ys x e = omega (arith, ap length e, length-append xs (x ∷ []))
length_pushed false xs ys x e = omega (arith, ap length e)
