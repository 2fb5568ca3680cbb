-- Lists of lists that grow.
use Rattle.std.proofs.Common.{◌≡◌, ℕ, zero, suc, List, [], ◌∷◌, ◌++◌, get_or, refl}

-- one more empty list
pub empty_more : {X : Type 0} (lists : List (List X)) → ((i : ℕ) → get_or lists i [] ≡ []) → (i : ℕ) → get_or (lists ++ ([] ∷ [])) i [] ≡ []
empty_more [] all zero = refl
empty_more [] all (suc i) = refl
empty_more (x ∷ lists) all zero = all zero
empty_more (x ∷ lists) all (suc i) = empty_more lists (λ j. all (suc j)) i
