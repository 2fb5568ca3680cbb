-- What a written template means, under a version and a kind, in an emit or in a flush of a family.
use Rattle.std.specs.Prelude.{◌≡◌, ◌<◌, ◌≤◌, ◌+◌, ◌-◌, ◌^◌, ◌==◌, ◌&&◌, ◌||◌, not, ◌≢◌, ℕ, pos, Bool, true, false, Option, is_some}
use Rattle.std.specs.Prelude.{List, [], ◌∷◌, ◌++◌, length, Some, None, IsTrue, codes, position}
use Rattle.std.specs.Char.{is_ascii_digit}
use Rattle.std.specs.List.{list_all}
use Rattle.std.specs.Str.Parse.{digits_value}
use Rattle.flu_lemmas.specs.Spans.{spelled}
use Rattle.flu_lemmas.specs.Items.{Pairs}
use Rattle.flu_model.specs.declared.jobs.Family.{Family}
use Rattle.flu_model.specs.declared.jobs.Piece.{Piece}
use Rattle.flu_model.specs.declared.jobs.Piece.TheVariants as piece
use Rattle.flu_model.specs.Templates.{written_template}
use Rattle.flu_text.specs.declared.written.WrittenSpan.{WrittenSpan}
use Rattle.flu_names.specs.Names.{is_name}
use Rattle.flu_syntax.specs.declared.tree.WrittenKey.TheVariants as k
use Rattle.flu_layout.specs.Spelling.{name_of, inside}
use Rattle.flu_parse.specs.declared.pieces.WrittenPiece.{WrittenPiece}
use Rattle.flu_parse.specs.declared.pieces.WrittenPiece.TheVariants as w
use Rattle.flu_parse.specs.Templates.{open_brace, close_brace, is_open_bracket, span}
use Rattle.flu_grammar.specs.Means.{IsNamed, Under, HasItems, IsItemWord}
use Rattle.flu_grammar.specs.Cells.{family_name, MeansCell}

-- ---- how a template is cut into pieces

abbrev pub no_brace : ℕ → Bool
no_brace b = not (b == open_brace) && not (b == close_brace)

-- What is between two braces, from one place to before another: `value`, `key`, `time` or, in version 3, `item`; in a flush `cell`
-- or, in version 3, a family's name; in an emit a family's name, alone or with `key`, a number or, in version 3, `item` in brackets
-- after it. `bracket` is how far after the name's beginning the first bracket is.
pub data IsField (text : List ℕ) (version : ℕ) (in_flush : Bool) (from to : ℕ) : WrittenPiece → Type 0 where
  field_value : spelled text from to ≡ codes "value" → IsField text version in_flush from to w.Value
  field_key : spelled text from to ≡ codes "key" → IsField text version in_flush from to w.Key
  field_time : spelled text from to ≡ codes "time" → IsField text version in_flush from to w.Time
  field_item : IsItemWord version (spelled text from to) → IsField text version in_flush from to w.Item
  field_cell : in_flush ≡ true → spelled text from to ≡ codes "cell" → IsField text version in_flush from to w.CellValue
  field_flushed : in_flush ≡ true → version ≡ 3 → is_name (spelled text from to) ≡ true → ¬ IsItemWord version (spelled text from to)
      → IsField text version in_flush from to (w.Family (span from to))
  field_family : in_flush ≡ false → is_name (spelled text from to) ≡ true → ¬ IsItemWord version (spelled text from to)
      → IsField text version in_flush from to (w.Read (record { family = span from to; key = k.Alone }))
  field_own : (bracket : ℕ) → in_flush ≡ false → position is_open_bracket (spelled text from to) ≡ Some bracket
      → is_name (spelled text from (from + bracket)) ≡ true → spelled text (to - 1) to ≡ codes "]"
      → spelled text (from + bracket + 1) (to - 1) ≡ codes "key"
      → IsField text version in_flush from to (w.Read (record { family = span from (from + bracket); key = k.OwnKey (from + bracket + 1) }))
  field_own_item : (bracket : ℕ) → in_flush ≡ false → position is_open_bracket (spelled text from to) ≡ Some bracket
      → is_name (spelled text from (from + bracket)) ≡ true → spelled text (to - 1) to ≡ codes "]"
      → IsItemWord version (spelled text (from + bracket + 1) (to - 1))
      → IsField text version in_flush from to (w.Read (record { family = span from (from + bracket); key = k.OwnItem (from + bracket + 1) }))
  field_fixed : (bracket first : ℕ) (more : List ℕ) → in_flush ≡ false → position is_open_bracket (spelled text from to) ≡ Some bracket
      → is_name (spelled text from (from + bracket)) ≡ true → spelled text (to - 1) to ≡ codes "]"
      → spelled text (from + bracket + 1) (to - 1) ≡ first ∷ more → list_all is_ascii_digit (first ∷ more) ≡ true → digits_value 10 (first ∷ more) < 2 ^ 63
      → IsField text version in_flush from to (w.Read (record {
        family = span from (from + bracket);
        key = k.Fixed (record { value = pos (digits_value 10 (first ∷ more)); at = from + bracket + 1 });
      }))

-- From a place on, these bytes are plain bytes and fields in braces, one after another: template = { plain | "{" field "}" }. No
-- plain piece follows another; none comes first if `plain_first` is false.
pub data AreCut (text : List ℕ) (version : ℕ) (in_flush : Bool) : Bool → ℕ → List ℕ → List WrittenPiece → Type 0 where
  cut_none : (plain_first : Bool) (at : ℕ) → AreCut text version in_flush plain_first at [] []
  cut_plain : (at b : ℕ) (more rest : List ℕ) (pieces : List WrittenPiece) → IsTrue (list_all no_brace (b ∷ more))
      → AreCut text version in_flush false (at + length (b ∷ more)) rest pieces
      → AreCut text version in_flush true at ((b ∷ more) ++ rest) (w.Plain (span at (at + length (b ∷ more))) ∷ pieces)
  cut_field : (plain_first : Bool) (at : ℕ) (word rest : List ℕ) (field : WrittenPiece) (pieces : List WrittenPiece) → IsTrue (list_all no_brace word)
      → IsField text version in_flush (at + 1) (at + 1 + length word) field → AreCut text version in_flush true (at + 1 + length word + 1) rest pieces
      → AreCut text version in_flush plain_first at (open_brace ∷ (word ++ close_brace ∷ rest)) (field ∷ pieces)

-- ---- what its pieces mean

-- Plain bytes mean themselves, and a field what it names: `{value}` only under a kind with a value, `{item}` only under one with items,
-- `{key}` only in a flush or under a keyed kind. Where a family is flushed, the name of it means the cell that is flushed, as `{cell}`
-- does, and the name of another the cell of that one.
abbrev pub MeansPiece : List ℕ → List Family → Under → Option ℕ → WrittenPiece → Piece → Type 0
MeansPiece text families under flushed (w.Plain s) (piece.Plain t) = t ≡ name_of text s
MeansPiece text families under flushed w.Value piece.Value = under.has_value ≡ true
MeansPiece text families under flushed w.Key piece.Key = (is_some flushed || under.keyed) ≡ true
MeansPiece text families under flushed w.Item piece.Item = HasItems under
MeansPiece text families under flushed w.Time piece.Time = Unit {0}
MeansPiece text families under flushed w.CellValue piece.CellValue = Unit {0}
MeansPiece text families under flushed (w.Read r) (piece.Read c) = MeansCell text families under None r c
MeansPiece text families under flushed (w.Family s) piece.CellValue =
    (number : ℕ) × (flushed ≡ Some number) × IsNamed family_name families (name_of text s) number
MeansPiece text families under flushed (w.Family s) (piece.FamilyCell number) = (flushed ≢ Some number) × IsNamed family_name families (name_of text s) number
MeansPiece _ _ _ _ _ _ = ⊥

-- A flush is printed with `{cell}` for the cell that is flushed, even if the family's name was written: that has at most 256 bytes too.
abbrev pub MayBePrinted : List Family → Option ℕ → List Piece → Type 0
MayBePrinted families None pieces = Unit {0}
MayBePrinted families (Some flushed) pieces = length (written_template families pieces) ≤ 256

-- A template means its pieces, one by one. Its inside begins after its quote. It is in a flush of the family of this number, or in an
-- emit if there is none.
pub record MeansTemplate (text : List ℕ) (families : List Family) (under : Under) (flushed : Option ℕ) (written : WrittenSpan) (pieces : List Piece)
    : Type 0 where
  pub parts : List WrittenPiece
  pub cut : AreCut text under.version (is_some flushed) true (written.from + 1) (inside text written) parts
  pub means : Pairs (MeansPiece text families under flushed) parts pieces
  pub short : MayBePrinted families flushed pieces
