-- Tokens of a text that stand for words that were laid out, and words of a text that tokens stand for.
use Rattle.std.specs.Prelude.{◌≡◌, ◌≤◌, ◌+◌, ◌-◌, ℕ, true, IsTrue, All, List, [], ◌∷◌, ◌++◌, length, slice_range}
use Rattle.std.specs.List.{list_all}
use Rattle.std.specs.Str.{IsUtf8, IsCharBoundary}
use Rattle.flu_names.specs.Names.{is_name, is_text_byte}
use Rattle.flu_text.specs.declared.words.Word.TheVariants as w
use Rattle.flu_text.specs.declared.words.Token.{Token}
use Rattle.flu_text.specs.Grammar.{IsToken}
use Rattle.flu_text.specs.Layout.{Piece}
use Rattle.flu_text.specs.declared.written.WrittenSpan.{WrittenSpan}
use Rattle.flu_text.specs.Signs.{Spanned, Named, Stands, is_name_word}
use Rattle.flu_lemmas.specs.Spans.{spelled}
use Rattle.flu_layout.specs.Spelling.{name_of, inside}

-- the token is this word, and the text has its spelling at the token's place; a name's token has the name
pub record StandsFor (whole : List ℕ) (p : Piece) (t : Token) : Type 0 where
  pub before : List ℕ
  pub after : List ℕ
  pub is : whole ≡ before ++ (p.spelling ++ after)
  pub from : t.from ≡ length before
  pub to : t.to ≡ length before + length p.spelling
  pub word : t.word ≡ p.word
  pub named : is_name_word p.word ≡ true → spelled whole t.from t.to ≡ p.spelling

-- the tokens are these words, one by one
abbrev pub Stand : List ℕ → List Piece → List Token → Type 0
Stand whole [] ts = ts ≡ []
Stand whole (p ∷ ps) ts = (t : Token) × (rest : List Token) × (ts ≡ t ∷ rest) × StandsFor whole p t × Stand whole ps rest

-- what is between the quotes of a text that was read: at most 256 bytes that may be there, with both ends between characters
pub record IsQuoted (whole : List ℕ) (s : WrittenSpan) : Type 0 where
  pub room : s.from + 2 ≤ s.to
  pub begins : IsCharBoundary whole (s.from + 1)
  pub ends : IsCharBoundary whole (s.to - 1)
  pub is : inside whole s ≡ slice_range whole (s.from + 1) (s.to - 1)
  pub bytes : IsTrue (list_all is_text_byte (inside whole s))
  pub short : length (inside whole s) ≤ 256

-- the tokens that a text was read as, its names and its texts
pub record AreRead (whole : List ℕ) (ts : List Token) : Type 0 where
  pub utf8 : IsUtf8 whole
  pub tokens : All (IsToken whole) ts
  pub names : (s : WrittenSpan) → Stands ts (Named s) → IsTrue (is_name (name_of whole s))
  pub texts : (s : WrittenSpan) → Stands ts (Spanned w.Text s) → IsQuoted whole s
