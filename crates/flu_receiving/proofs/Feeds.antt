-- Where bytes are cut at their line feeds.
use Rattle.std.proofs.Common.{◌≡◌, ℕ, zero, suc, ◌+◌, ◌<◌, true, eqb, List, [], ◌∷◌, length, get_or, take, drop, refl, ap, arith, inl, inr}
use Rattle.std.specs.List.{onto_first}
use Rattle.std.proofs.lemmas.Bool.{cases_Bool}
use Rattle.flu_receiving.specs.Faults.{parts_of}

-- bytes are cut at their first line feed
pub parts_at : (bytes : List ℕ) (k : ℕ) → k < length bytes → ((j : ℕ) → j < k → eqb (get_or bytes j 0) 10 ≡ true → ⊥)
    → eqb (get_or bytes k 0) 10 ≡ true → parts_of bytes ≡ take k bytes ∷ parts_of (drop (k + 1) bytes)
parts_at [] k lt before hit = absurd (omega arith)
parts_at (b ∷ bytes) zero lt before hit = rw hit refl
parts_at (b ∷ bytes) (suc k) lt before hit =
    elim (cases_Bool (eqb b 10)) [
      | inl there ↦ absurd (before 0 (omega arith) there)
      | inr miss ↦
          let m : suc k + 1 ≡ suc (k + 1) = omega arith in
          let more = parts_at bytes k (omega (arith, lt)) (λ j below. before (suc j) (omega arith)) hit in
          rw (miss, m) (ap (onto_first b) more)
    ]

-- bytes without a line feed are one part
pub parts_none : (bytes : List ℕ) → ((j : ℕ) → j < length bytes → eqb (get_or bytes j 0) 10 ≡ true → ⊥) → parts_of bytes ≡ bytes ∷ []
parts_none [] none = refl
parts_none (b ∷ bytes) none =
    elim (cases_Bool (eqb b 10)) [
      | inl there ↦ absurd (none 0 (omega arith) there)
      | inr miss ↦ rw miss (ap (onto_first b) (parts_none bytes (λ j below. none (suc j) (omega arith))))
    ]
