-- Totals of nothing.
use Rattle.std.proofs.Common.{◌≡◌, ℕ, suc, Some, List, [], ◌∷◌, refl, arith}
use Rattle.std.specs.Prelude.{slice_get}
use Rattle.flu_lemmas.specs.Totals.{total}

-- where nothing is counted of any element
pub total_none : {X : Type 0} (f : X → ℕ) (xs : List X) → ((i : ℕ) (x : X) → slice_get xs i ≡ Some x → f x ≡ 0) → total f xs ≡ 0
total_none f [] none = refl
total_none f (x ∷ xs) none =
    let more = total_none f xs (λ i. none (suc i)) in
    let here : f x ≡ 0 = none 0 x refl in
    omega (arith, more, here)
