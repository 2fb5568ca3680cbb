-- The words of a text that is printed, each with the blanks after it, and how they are laid out.
use Rattle.std.specs.Prelude.{◌≤◌, ℕ, ℤ, IsTrue, IsFalse, List, [], ◌∷◌, ◌++◌, length, codes}
use Rattle.std.specs.Fmt.{signed_decimal}
use Rattle.std.specs.List.{list_all}
use Rattle.flu_names.specs.declared.reserved.Reserved.{Reserved}
use Rattle.flu_names.specs.Names.{is_name, is_name_byte, is_text_byte, reserved_spelling}
use Rattle.flu_text.specs.declared.words.Word.TheVariants as w
use Rattle.flu_text.specs.declared.words.Contextual.TheVariants as c
use Rattle.flu_text.specs.declared.words.Mark.{Mark}
use Rattle.flu_text.specs.Spelling.{mark_spelling, contextual_of}
use Rattle.flu_text.specs.Grammar.{is_blank}
use Rattle.flu_text.specs.Layout.{Piece, layout, NotFirst, makes_longer}
use Rattle.flu_model.specs.Rules.{is_literal}

-- ---- words, each with what comes after it

abbrev pub blank : List ℕ
blank = 32 ∷ []

abbrev pub line_end : List ℕ
line_end = 10 ∷ []

abbrev pub quoted : List ℕ → List ℕ
quoted text = 34 ∷ (text ++ 34 ∷ [])

abbrev pub reserved : Reserved → List ℕ → Piece
reserved word behind = record { word = w.Reserved word; spelling = reserved_spelling word; gap = behind }

abbrev pub mark : Mark → List ℕ → Piece
mark word behind = record { word = w.Mark word; spelling = mark_spelling word; gap = behind }

abbrev pub name : List ℕ → List ℕ → Piece
name spelling behind = record { word = w.Name (contextual_of spelling); spelling = spelling; gap = behind }

-- the word `item`, where the grammar has it
abbrev pub item : List ℕ → Piece
item behind = record { word = w.Name c.Item; spelling = codes "item"; gap = behind }

abbrev pub text : List ℕ → List ℕ → Piece
text inside behind = record { word = w.Text; spelling = quoted inside; gap = behind }

abbrev pub number : ℤ → List ℕ → Piece
number n behind = record { word = w.Number n; spelling = signed_decimal n; gap = behind }

-- ---- the rules of the layout

-- what comes after a word: blanks, and then no byte of a name
abbrev pub EndsName : List ℕ → List Piece → Type 0
EndsName behind rest = NotFirst is_name_byte (behind ++ layout rest)

-- the words are laid out: each is one of the language, and what comes after it does not make it longer
pub data AreLaid : List Piece → Type 0 where
  laid_none : AreLaid []
  laid_name : (n behind : List ℕ) (rest : List Piece) → IsTrue (is_name n) → IsTrue (list_all is_blank behind) → EndsName behind rest → AreLaid rest
      → AreLaid (name n behind ∷ rest)
  laid_item : (behind : List ℕ) (rest : List Piece) → IsTrue (list_all is_blank behind) → EndsName behind rest → AreLaid rest → AreLaid (item behind ∷ rest)
  laid_reserved : (word : Reserved) (behind : List ℕ) (rest : List Piece) → IsTrue (list_all is_blank behind) → EndsName behind rest → AreLaid rest
      → AreLaid (reserved word behind ∷ rest)
  laid_number : (n : ℤ) (behind : List ℕ) (rest : List Piece) → IsTrue (is_literal n) → IsTrue (list_all is_blank behind) → EndsName behind rest → AreLaid rest
      → AreLaid (number n behind ∷ rest)
  laid_text : (t behind : List ℕ) (rest : List Piece) → IsTrue (list_all is_text_byte t) → length t ≤ 256 → IsTrue (list_all is_blank behind) → AreLaid rest
      → AreLaid (text t behind ∷ rest)
  -- a mark that no byte makes longer
  laid_mark : (word : Mark) (behind : List ℕ) (rest : List Piece) → ((b : ℕ) → IsFalse (makes_longer word b)) → IsTrue (list_all is_blank behind) → AreLaid rest
      → AreLaid (mark word behind ∷ rest)
  -- any mark, with a blank after it
  laid_spaced : (word : Mark) (rest : List Piece) → AreLaid rest → AreLaid (mark word blank ∷ rest)

-- what comes after a word that is still to come, and that it is laid out
pub record Follows (behind : List ℕ) (rest : List Piece) : Type 0 where
  pub blank : IsTrue (list_all is_blank behind)
  pub ends : EndsName behind rest
  pub laid : AreLaid rest
