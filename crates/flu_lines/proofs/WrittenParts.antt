-- The lines of part commands are written piece by piece.
use Rattle.std.proofs.Common.{◌≡◌, sym, ap, ◌∙◌, ℕ, List, ◌++◌, append_assoc}
use Rattle.std.specs.Prelude.{codes}

-- some bytes and the rest of a line, which ends with others
pub head_steps : (head text end : List ℕ) → head ++ (text ++ end) ≡ head ++ text ++ end
head_steps head text end = sym (append_assoc head text end)

-- why a node may not be apart
pub not_apart_steps : (name node text : List ℕ) → name ≡ node
    → (name ++ codes " can't be apart: ") ++ (text ++ codes "\n") ≡ node ++ codes " can't be apart: " ++ text ++ codes "\n"
not_apart_steps name node text is =
    ap (λ (n : List ℕ). (n ++ codes " can't be apart: ") ++ (text ++ codes "\n")) is ∙ head_steps (node ++ codes " can't be apart: ") text (codes "\n")

file_line : (head name colon text end : List ℕ) → (head ++ (name ++ colon)) ++ (text ++ end) ≡ head ++ name ++ colon ++ text ++ end
file_line head name colon text end = simp append_assoc

-- the line of a file
pub file_steps : (bytes name text : List ℕ) → bytes ≡ name
    → (codes "flumina: partial " ++ (bytes ++ codes ": ")) ++ (text ++ codes "\n") ≡ codes "flumina: partial " ++ name ++ codes ": " ++ text ++ codes "\n"
file_steps bytes name text is =
    ap (λ (n : List ℕ). (codes "flumina: partial " ++ (n ++ codes ": ")) ++ (text ++ codes "\n")) is
    ∙ file_line (codes "flumina: partial ") name (codes ": ") text (codes "\n")

-- the name of a source behind some words
pub named_steps : (words bytes name : List ℕ) → bytes ≡ name → words ++ (bytes ++ codes "\n") ≡ words ++ name ++ codes "\n"
named_steps words bytes name is = ap (λ (n : List ℕ). words ++ (n ++ codes "\n")) is ∙ sym (append_assoc words name (codes "\n"))
