-- The bytes of a text that a written name or text takes.
use Rattle.std.specs.Prelude.{ℕ, ◌+◌, ◌-◌, ℤ, pos, negsuc, List}
use Rattle.flu_lemmas.specs.Spans.{spelled}
use Rattle.flu_text.specs.declared.written.WrittenSpan.{WrittenSpan}

-- a written name
abbrev pub name_of : List ℕ → WrittenSpan → List ℕ
name_of text s = spelled text s.from s.to

-- what is between the quotes of a written text
abbrev pub inside : List ℕ → WrittenSpan → List ℕ
inside text s = spelled text (s.from + 1) (s.to - 1)

-- the value of a written number, which is never below 0
abbrev pub written_value : ℤ → ℕ
written_value (pos n) = n
written_value (negsuc n) = 0
