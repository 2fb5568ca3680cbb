-- The line of a conflict is written name by name.
use Rattle.std.proofs.Common.{◌≡◌, ℕ, List, ◌++◌, append_assoc}
use Rattle.std.specs.Prelude.{codes}

-- ---- the line of a conflict, of the texts of its tags and its cell
abbrev pub conflict_text : List ℕ → List ℕ → List ℕ → List ℕ
conflict_text a b c = codes "flumina: conflict: " ++ a ++ codes " and " ++ b ++ codes " on " ++ c ++ codes "\n"

in_four : (h a s b t c e : List ℕ) → ((h ++ (a ++ s)) ++ (b ++ t)) ++ (c ++ e) ≡ h ++ a ++ s ++ b ++ t ++ c ++ e
in_four h a s b t c e = simp append_assoc

pub conflict_head : (a b c : List ℕ) → codes "flumina: conflict: " ++ ((a ++ codes " and ") ++ ((b ++ codes " on ") ++ (c ++ codes "\n"))) ≡ conflict_text a b c
conflict_head a b c = by_parts (codes "flumina: conflict: ") (codes " and ") (codes " on ") (codes "\n")
  where
    by_parts : (h s t e : List ℕ) → h ++ ((a ++ s) ++ ((b ++ t) ++ (c ++ e))) ≡ h ++ a ++ s ++ b ++ t ++ c ++ e
    by_parts h s t e = simp append_assoc

pub conflict_first : (a b c : List ℕ) → (codes "flumina: conflict: " ++ (a ++ codes " and ")) ++ ((b ++ codes " on ") ++ (c ++ codes "\n"))
    ≡ conflict_text a b c
conflict_first a b c = by_parts (codes "flumina: conflict: ") (codes " and ") (codes " on ") (codes "\n")
  where
    by_parts : (h s t e : List ℕ) → (h ++ (a ++ s)) ++ ((b ++ t) ++ (c ++ e)) ≡ h ++ a ++ s ++ b ++ t ++ c ++ e
    by_parts h s t e = simp append_assoc

pub conflict_second : (a b c : List ℕ) → ((codes "flumina: conflict: " ++ (a ++ codes " and ")) ++ (b ++ codes " on ")) ++ (c ++ codes "\n")
    ≡ conflict_text a b c
conflict_second a b c = in_four (codes "flumina: conflict: ") a (codes " and ") b (codes " on ") c (codes "\n")
