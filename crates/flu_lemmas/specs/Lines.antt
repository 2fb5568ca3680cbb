-- Bytes that are cut at their line feeds.
use Rattle.std.specs.Prelude.{ℕ, not, ◌==◌, if◌then◌else◌, List, [], ◌∷◌}
use Rattle.std.specs.List.{onto_first, prefix_len}

-- bytes cut at their line feeds; those after the last one are a line if there are any
unfoldable pub lines_of : List ℕ → List (List ℕ)
lines_of [] = []
lines_of (b ∷ bytes) = if b == 10 then [] ∷ lines_of bytes else onto_first b (lines_of bytes)

-- how many bytes come before the first line feed
abbrev pub line_len : List ℕ → ℕ
line_len bytes = prefix_len (λ b. not (b == 10)) bytes
