-- A text laid out as words with blanks between them, and its tokens.
use Rattle.std.specs.Prelude.{ℕ, ◌+◌, ◌==◌, Bool, false, IsTrue, IsFalse, List, [], ◌∷◌, ◌++◌, length}
use Rattle.std.specs.Char.{is_ascii_digit}
use Rattle.std.specs.List.{list_all}
use Rattle.flu_text.specs.declared.words.Mark.{Mark}
use Rattle.flu_text.specs.declared.words.Mark.TheVariants as m
use Rattle.flu_text.specs.declared.words.Word.{Word}
use Rattle.flu_text.specs.declared.words.Word.TheVariants as w
use Rattle.flu_text.specs.declared.words.Token.{Token}
use Rattle.flu_text.specs.Grammar.{is_blank, Spells}
use Rattle.flu_names.specs.Names.{is_name_byte}

-- the first byte, if there is one, does not pass
abbrev pub NotFirst : (ℕ → Bool) → List ℕ → Type 0
NotFirst p [] = Unit {0}
NotFirst p (b ∷ rest) = IsFalse (p b)

-- a byte that makes this mark a longer one
abbrev pub makes_longer : Mark → ℕ → Bool
makes_longer m.Less b = b == 61
makes_longer m.More b = b == 61
makes_longer m.Minus b = b == 62
makes_longer _ b = false

-- what comes after does not make the word longer
abbrev pub Ends : Word → List ℕ → Type 0
Ends (w.Name c) rest = NotFirst is_name_byte rest
Ends (w.Reserved r) rest = NotFirst is_name_byte rest
Ends (w.Number n) rest = NotFirst is_ascii_digit rest
Ends w.Text rest = Unit {0}
Ends (w.Mark mark) rest = NotFirst (makes_longer mark) rest

-- a word, how it is spelled, and the blanks after it
pub record Piece : Type 0 where
  pub word : Word
  pub spelling : List ℕ
  pub gap : List ℕ

-- the text of the pieces
abbrev pub layout : List Piece → List ℕ
layout [] = []
layout (p ∷ ps) = p.spelling ++ (p.gap ++ layout ps)

-- their tokens, where the first one begins at a place
abbrev pub tokens_of : ℕ → List Piece → List Token
tokens_of place [] = []
tokens_of place (p ∷ ps) = record { word = p.word; from = place; to = place + length p.spelling } ∷ tokens_of (place + length p.spelling + length p.gap) ps

-- each word is spelled so and ends where its spelling does
abbrev pub IsLaid : List Piece → Type 0
IsLaid [] = Unit {0}
IsLaid (p ∷ ps) = Spells p.word p.spelling × IsTrue (list_all is_blank p.gap) × Ends p.word (p.gap ++ layout ps) × IsLaid ps
