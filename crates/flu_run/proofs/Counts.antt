-- Counts of nothing.
use Rattle.std.proofs.Common.{◌≡◌, ℕ, List, [], ◌∷◌, length, refl, ap, arith}
use Rattle.flu_arrive.specs.Notes.{zeros}

pub same_zeros : (xs ys : List ℕ) → length xs ≡ length ys → zeros xs ≡ zeros ys
same_zeros [] [] e = refl
same_zeros [] (y ∷ ys) e = absurd (omega arith)
same_zeros (x ∷ xs) [] e = absurd (omega arith)
same_zeros (x ∷ xs) (y ∷ ys) e = ap (λ (l : List ℕ). 0 ∷ l) (same_zeros xs ys (omega arith))

-- ---- children
