-- A written template: its plain pieces and its fields.
use Rattle.std.specs.Prelude.{ℕ, ◌+◌, ◌-◌, Bool, true, false, not, ◌&&◌, ◌||◌, ◌==◌, nat_lt, if◌then◌else◌, List, [], ◌∷◌, ◌++◌, Option, Some, None, option_map}
use Rattle.std.specs.Prelude.{is_some, pos, position, codes, Ok, Err}
use Rattle.std.specs.Char.{is_ascii_digit}
use Rattle.std.specs.List.{list_all}
use Rattle.std.specs.Str.{bytes_eq}
use Rattle.flu_model.specs.declared.jobs.Piece.{Piece}
use Rattle.flu_model.specs.declared.jobs.Piece.TheVariants as piece
use Rattle.flu_model.specs.Rules.{is_short}
use Rattle.flu_model.specs.Templates.{written_template}
use Rattle.flu_text.specs.Lexeme.{number_of}
use Rattle.flu_text.specs.declared.written.WrittenSpan.{WrittenSpan}
use Rattle.flu_syntax.specs.declared.tree.WrittenKey.{WrittenKey}
use Rattle.flu_syntax.specs.declared.tree.WrittenKey.TheVariants as k
use Rattle.flu_names.specs.Names.{is_name}
use Rattle.flu_lemmas.specs.Spans.{spelled}
use Rattle.flu_layout.specs.Spelling.{name_of, inside}
use Rattle.flu_parse.specs.declared.faults.JobFault.TheVariants as f
use Rattle.flu_parse.specs.declared.names.FamilyHead.{FamilyHead}
use Rattle.flu_parse.specs.declared.names.KindHead.{KindHead}
use Rattle.flu_parse.specs.declared.pieces.WrittenPiece.{WrittenPiece}
use Rattle.flu_parse.specs.declared.pieces.WrittenPiece.TheVariants as p
use Rattle.flu_parse.specs.Faults.{Found, ◌>>=◌, ◌>>◌, unless, each, found_of_each}
use Rattle.flu_parse.specs.Naming.{Naming, takes_items, families_of, look_up, known}
use Rattle.flu_parse.specs.Cells.{brackets_fit, at_of}

abbrev pub open_brace : ℕ
open_brace = 123

abbrev pub close_brace : ℕ
close_brace = 125

abbrev pub is_open_bracket : ℕ → Bool
is_open_bracket b = b == 91

abbrev pub span : ℕ → ℕ → WrittenSpan
span from to = record { from = from; to = to }

-- ---- the form of a field, by the places of what is between its braces

-- a number by the rule of tokens
unfoldable pub digits_at : List ℕ → ℕ → Option WrittenKey
digits_at [] at = None
digits_at (b ∷ bs) at = if list_all is_ascii_digit (b ∷ bs) then option_map (λ n. k.Fixed (record { value = pos n; at = at })) (number_of (b ∷ bs)) else None

-- `key`, in version 3 also `item`, or a number
unfoldable pub key_at : ℕ → List ℕ → ℕ → Option WrittenKey
key_at version word at =
    if bytes_eq word (codes "key") then Some (k.OwnKey at)
    else if (version == 3) && bytes_eq word (codes "item") then Some (k.OwnItem at)
    else digits_at word at

-- a family's name, with an optional key in brackets, with the first bracket at this place of the word, if there is one
unfoldable pub ref_with : List ℕ → ℕ → ℕ → ℕ → Option ℕ → Option WrittenPiece
ref_with text version from to None = if is_name (spelled text from to) then Some (p.Read (record { family = span from to; key = k.Alone })) else None
ref_with text version from to (Some i) =
    if is_name (spelled text from (from + i)) && bytes_eq (spelled text (to - 1) to) (codes "]")
    then option_map (λ key. p.Read (record { family = span from (from + i); key = key })) (key_at version (spelled text (from + i + 1) (to - 1)) (from + i + 1))
    else None

abbrev pub ref_at : List ℕ → ℕ → ℕ → ℕ → Option WrittenPiece
ref_at text version from to = ref_with text version from to (position is_open_bracket (spelled text from to))

-- a family's name alone, which a flush may have in version 3
unfoldable pub family_at : List ℕ → ℕ → ℕ → ℕ → Option WrittenPiece
family_at text version from to = if (version == 3) && is_name (spelled text from to) then Some (p.Family (span from to)) else None

-- what a field is, in an emit or in a flush; in version 3 `item` is the event's item, in versions 1 and 2 a name as others
unfoldable pub field_at : List ℕ → ℕ → Bool → ℕ → ℕ → Option WrittenPiece
field_at text version in_flush from to =
    let word = spelled text from to in
    if bytes_eq word (codes "value") then Some p.Value
    else if bytes_eq word (codes "key") then Some p.Key
    else if bytes_eq word (codes "time") then Some p.Time
    else if (version == 3) && bytes_eq word (codes "item") then Some p.Item
    else if in_flush then (if bytes_eq word (codes "cell") then Some p.CellValue else family_at text version from to)
    else ref_at text version from to

-- what is between two braces: a field, or something that has the form of none
abbrev pub braced : Option WrittenPiece → WrittenPiece
braced None = p.Formless
braced (Some field) = field

-- ---- the pieces of a template, byte by byte

-- A brace is faulty if it has no partner: a `{` without a `}` after it before the next brace, or a `}` without a `{` before it.
-- What is between two braces that match is a piece, even if it has the form of no field.

-- the pieces so far, where the next one begins, and whether it is a field
pub record Scan : Type 0 where
  pub pieces : List WrittenPiece
  pub start : ℕ
  pub in_field : Bool

-- the pieces before the first faulty brace, and whether there is none
pub record Template : Type 0 where
  pub pieces : List WrittenPiece
  pub whole : Bool

-- a plain piece is never empty
abbrev pub with_plain : Scan → ℕ → List WrittenPiece
with_plain s place = if nat_lt s.start place then s.pieces ++ p.Plain (span s.start place) ∷ [] else s.pieces

abbrev pub with_piece : Scan → ℕ → WrittenPiece → Scan
with_piece s place piece = record { pieces = s.pieces ++ piece ∷ []; start = place + 1; in_field = false }

-- one more byte, at a place; none if it is a faulty brace, or shows that the `{` before it is one
unfoldable pub scan_byte : (ℕ → ℕ → Option WrittenPiece) → Scan → ℕ → ℕ → Option Scan
scan_byte field s place b =
    if s.in_field then (if b == close_brace then Some (with_piece s place (braced (field s.start place))) else if b == open_brace then None else Some s)
    else if b == open_brace then Some (record { pieces = with_plain s place; start = place + 1; in_field = true })
    else if b == close_brace then None
    else Some s

abbrev pub continued : Scan → Option Scan → (Scan → Template) → Template
continued s None more = record { pieces = s.pieces; whole = false }
continued s (Some next) more = more next

-- what is found where the text ends, at a place
abbrev pub end_of_scan : Scan → ℕ → Template
end_of_scan s place = record { pieces = (if s.in_field then s.pieces else with_plain s place); whole = not s.in_field }

unfoldable pub scan : (ℕ → ℕ → Option WrittenPiece) → Scan → ℕ → List ℕ → Template
scan field s place [] = end_of_scan s place
scan field s place (b ∷ bs) = continued s (scan_byte field s place b) (λ next. scan field next (place + 1) bs)

abbrev pub scan_start : ℕ → Scan
scan_start place = record { pieces = []; start = place; in_field = false }

-- the template of a written text, whose inside begins after its quote
unfoldable pub template_at : List ℕ → ℕ → Bool → WrittenSpan → Template
template_at text version in_flush s = scan (field_at text version in_flush) (scan_start (s.from + 1)) (s.from + 1) (inside text s)

-- ---- what a template means; all its faults are at the text's place

-- a family of each name, in the order of the fields
unfoldable pub known_name : List ℕ → Naming → ℕ → WrittenPiece → Found (Unit {0})
known_name text n place (p.Plain s) = Ok tt
known_name text n place p.Value = Ok tt
known_name text n place p.Key = Ok tt
known_name text n place p.Item = Ok tt
known_name text n place p.Time = Ok tt
known_name text n place p.CellValue = Ok tt
known_name text n place (p.Read r) = known place (look_up (name_of text r.family) n.families) >>= λ _. Ok tt
known_name text n place (p.Family s) = known place (look_up (name_of text s) n.families) >>= λ _. Ok tt
known_name text n place p.Formless = Ok tt

abbrev pub known_names : List ℕ → Naming → ℕ → List WrittenPiece → Found (Unit {0})
known_names text n place qs = each (λ done q. known_name text n place q) tt qs

abbrev pub own_key_fits : Naming → KindHead → WrittenKey → Bool
own_key_fits n under k.Alone = true
own_key_fits n under (k.OwnKey at) = under.keyed
own_key_fits n under (k.OwnItem at) = takes_items n under
own_key_fits n under (k.Fixed number) = true

abbrev pub read_fits : Naming → KindHead → WrittenKey → Option FamilyHead → Bool
read_fits n under key None = false
read_fits n under key (Some family) = brackets_fit family.keyed key && own_key_fits n under key

-- the rules of shape
abbrev pub piece_fits : List ℕ → Naming → KindHead → Bool → WrittenPiece → Bool
piece_fits text n under in_flush (p.Plain s) = true
piece_fits text n under in_flush p.Value = under.has_value
piece_fits text n under in_flush p.Key = in_flush || under.keyed
piece_fits text n under in_flush p.Item = takes_items n under
piece_fits text n under in_flush p.Time = true
piece_fits text n under in_flush p.CellValue = true
piece_fits text n under in_flush (p.Read r) = read_fits n under r.key (look_up (name_of text r.family) n.families)
piece_fits text n under in_flush (p.Family s) = true
piece_fits text n under in_flush p.Formless = false

-- the cell of a family in a flush: of the flushed one it is the cell that is flushed
abbrev pub family_piece : Option ℕ → ℕ → Piece
family_piece None number = piece.FamilyCell number
family_piece (Some flushed) number = if number == flushed then piece.CellValue else piece.FamilyCell number

-- what a piece means, in an emit, or in a flush of the family of this number: a key that is too great is found here
unfoldable pub piece_of : List ℕ → Naming → KindHead → Option ℕ → ℕ → WrittenPiece → Found Piece
piece_of text n under flushed place (p.Plain s) = Ok (piece.Plain (name_of text s))
piece_of text n under flushed place p.Value = Ok piece.Value
piece_of text n under flushed place p.Key = Ok piece.Key
piece_of text n under flushed place p.Item = Ok piece.Item
piece_of text n under flushed place p.Time = Ok piece.Time
piece_of text n under flushed place p.CellValue = Ok piece.CellValue
piece_of text n under flushed place (p.Read r) = do
  family ← known place (look_up (name_of text r.family) n.families)
  at ← at_of n under r.key
  Ok (piece.Read (record { family = family.number; at = at }))
piece_of text n under flushed place (p.Family s) = do
  family ← known place (look_up (name_of text s) n.families)
  Ok (family_piece flushed family.number)
piece_of text n under flushed place p.Formless = Err (f.WrongShape place)

abbrev pub pieces_of : List ℕ → Naming → KindHead → Option ℕ → ℕ → List WrittenPiece → Found (List Piece)
pieces_of text n under flushed place qs = found_of_each (piece_of text n under flushed place) qs

-- In a flush the name of the flushed family is shorter than `{cell}` where it has less than four letters: what is printed for it has to be
-- a text of the language too.
abbrev pub may_be_printed : Naming → Option ℕ → List Piece → Bool
may_be_printed n None ps = true
may_be_printed n (Some flushed) ps = is_short (written_template (families_of n) ps)

-- The pieces of a template, in an emit or in a flush of the family of this number, or its first fault: an unknown name before a wrong
-- shape, and that before a limit.
unfoldable pub template_of : List ℕ → Naming → KindHead → Option ℕ → WrittenSpan → Found (List Piece)
template_of text n under flushed s = do
  let t = template_at text n.version (is_some flushed) s
  known_names text n s.from t.pieces
  unless (t.whole && list_all (piece_fits text n under (is_some flushed)) t.pieces) (f.WrongShape s.from)
  pieces ← pieces_of text n under flushed s.from t.pieces
  unless (may_be_printed n flushed pieces) (f.WrongShape s.from)
  Ok pieces
