-- The bytes of templates may stand between quotes.
use Rattle.std.proofs.Common.{◌≡◌, ◌<◌, ℕ, Bool, true, List, [], ◌∷◌, ◌++◌, Option, Some, None, refl, ◌∙◌, arith}
use Rattle.std.specs.Prelude.{nat_lt, not, ◌==◌, length, slice_get, codes}
use Rattle.std.specs.Char.{is_ascii_digit}
use Rattle.std.specs.Fmt.{decimal}
use Rattle.std.specs.List.{list_all}
use Rattle.std.proofs.lemmas.List.Folds.{list_all-append}
use Rattle.flu_lemmas.proofs.Tests.{and_left, and_right, both, true_lt}
use Rattle.std.proofs.lemmas.Bool.Decides.{nat_tests}
use Rattle.flu_lemmas.proofs.Booleans.{three_left}
use Rattle.flu_lemmas.proofs.Elements.{list_all_weaker}
use Rattle.flu_lemmas.proofs.Digits.{decimal_digits}
use Rattle.flu_model.specs.declared.jobs.Family.{Family}
use Rattle.flu_model.specs.declared.jobs.At.{At}
use Rattle.flu_model.specs.declared.jobs.At.TheVariants as at
use Rattle.flu_model.specs.declared.jobs.Piece.{Piece}
use Rattle.flu_model.specs.declared.jobs.Piece.TheVariants as piece
use Rattle.flu_model.specs.Contents.{key_count}
use Rattle.flu_model.specs.Rules.{is_declared, is_plain_byte, is_plain, key_fits, ref_fits, emit_piece_fits, flush_piece_fits}
use Rattle.flu_model.specs.Templates.{family_name, written_key, written_cell, written_piece, written_template}
use Rattle.flu_names.specs.Names.{is_name, is_name_byte, is_text_byte}
use Rattle.flu_parse.proofs.Printed.Quotes.{name_bytes}
use Rattle.flu_parse.proofs.Printed.LaidCells.{family_at, family_named}

-- the family of a number that is declared
pub record DeclaredAt (families : List Family) (i : ℕ) : Type 0 where
  pub family : Family
  pub found : slice_get families i ≡ Some family

pub declared_at : (families : List Family) (i : ℕ) → is_declared (slice_get families i) ≡ true → DeclaredAt families i
declared_at families i h = by (slice_get families i) refl h
  where
    by : (o : Option Family) → slice_get families i ≡ o → is_declared o ≡ true → DeclaredAt families i
    by None found declared = absurd cc
    by (Some f) found declared = record { family = f; found = found }

-- what plain pieces and references keep, in an emit or in a flush
abbrev pub piece_keeps : List Family → Bool → Piece → Bool
piece_keeps families keyed (piece.Plain t) = is_plain t
piece_keeps families keyed piece.Value = true
piece_keeps families keyed piece.Key = true
piece_keeps families keyed piece.Item = true
piece_keeps families keyed piece.Time = true
piece_keeps families keyed (piece.Read r) = ref_fits families keyed r
piece_keeps families keyed piece.CellValue = true
piece_keeps families keyed (piece.FamilyCell f) = is_declared (slice_get families f)

pub emit_keeps : (families : List Family) (keyed has_value : Bool) (p : Piece) → emit_piece_fits families keyed has_value p ≡ true
    → piece_keeps families keyed p ≡ true
emit_keeps families keyed has_value (piece.Plain t) h = h
emit_keeps families keyed has_value piece.Value h = refl
emit_keeps families keyed has_value piece.Key h = refl
emit_keeps families keyed has_value piece.Item h = refl
emit_keeps families keyed has_value piece.Time h = refl
emit_keeps families keyed has_value (piece.Read r) h = h
emit_keeps families keyed has_value piece.CellValue h = refl
emit_keeps families keyed has_value (piece.FamilyCell f) h = absurd cc

pub flush_keeps : (families : List Family) (flushed : ℕ) (keyed has_value : Bool) (p : Piece) → flush_piece_fits families flushed has_value p ≡ true
    → piece_keeps families keyed p ≡ true
flush_keeps families flushed keyed has_value (piece.Plain t) h = h
flush_keeps families flushed keyed has_value piece.Value h = refl
flush_keeps families flushed keyed has_value piece.Key h = refl
flush_keeps families flushed keyed has_value piece.Item h = refl
flush_keeps families flushed keyed has_value piece.Time h = refl
flush_keeps families flushed keyed has_value (piece.Read r) h = absurd cc
flush_keeps families flushed keyed has_value piece.CellValue h = refl
flush_keeps families flushed keyed has_value (piece.FamilyCell f) h = and_left (is_declared (slice_get families f)) (not (f == flushed)) h

append_all : (xs ys : List ℕ) → list_all is_text_byte xs ≡ true → list_all is_text_byte ys ≡ true → list_all is_text_byte (xs ++ ys) ≡ true
append_all xs ys h k = list_all-append is_text_byte xs ys ∙ both (list_all is_text_byte xs) (list_all is_text_byte ys) h k

plain_quoted : (b : ℕ) → is_plain_byte b ≡ true → is_text_byte b ≡ true
plain_quoted b h = three_left (is_text_byte b) (not (b == 123)) (not (b == 125)) h

name_byte_quoted : (b : ℕ) → is_name_byte b ≡ true → is_text_byte b ≡ true
name_byte_quoted b h = grind (arith, nat_tests)

digit_quoted : (b : ℕ) → is_ascii_digit b ≡ true → is_text_byte b ≡ true
digit_quoted b h = grind (arith, nat_tests)

key_bytes : (a : At) (family_keyed keyed : Bool) → key_fits family_keyed keyed a ≡ true → list_all is_text_byte (written_key a) ≡ true
key_bytes at.Alone family_keyed keyed h = refl
key_bytes at.OwnKey family_keyed keyed h = refl
key_bytes at.OwnItem family_keyed keyed h = refl
key_bytes (at.Fixed k) family_keyed keyed h =
    let small : k < 65536 = true_lt k 65536 (and_right family_keyed (nat_lt k key_count) h) in
    let digits = list_all_weaker is_ascii_digit is_text_byte (decimal k) digit_quoted (decimal_digits k (omega arith)) in
    append_all (codes "[" ++ decimal k) (codes "]") digits refl

module _ (families : List Family) (names : list_all (λ (f : Family). is_name f.name) families ≡ true) (keyed : Bool) where
  piece_bytes : (p : Piece) → piece_keeps families keyed p ≡ true → list_all is_text_byte (written_piece families p) ≡ true
  piece_bytes (piece.Plain t) h = list_all_weaker is_plain_byte is_text_byte t plain_quoted (and_right (nat_lt 0 (length t)) (list_all is_plain_byte t) h)
  piece_bytes piece.Value h = refl
  piece_bytes piece.Key h = refl
  piece_bytes piece.Item h = refl
  piece_bytes piece.Time h = refl
  piece_bytes (piece.Read r) h =
      let found = family_at families keyed r h in
      let n : List ℕ = family_name (slice_get families r.family) in
      let name_bytes = list_all_weaker is_name_byte is_text_byte n name_byte_quoted
      (name_bytes n (family_named families names r.family found.family found.found)) in
      let cell = append_all n (written_key r.at) name_bytes (key_bytes r.at found.family.keyed keyed found.fits) in
      append_all (codes "{" ++ written_cell families r) (codes "}") cell refl
  piece_bytes piece.CellValue h = refl
  piece_bytes (piece.FamilyCell i) h =
      let found = declared_at families i h in
      let n : List ℕ = family_name (slice_get families i) in
      let bytes = list_all_weaker is_name_byte is_text_byte n name_byte_quoted (name_bytes n (family_named families names i found.family found.found)) in
      append_all (codes "{" ++ n) (codes "}") bytes refl

  pub template_bytes : (ps : List Piece) → list_all (piece_keeps families keyed) ps ≡ true → list_all is_text_byte (written_template families ps) ≡ true
  template_bytes [] h = refl
  template_bytes (p ∷ ps) h =
      append_all (written_piece families p) (written_template families ps)
      (piece_bytes p (and_left (piece_keeps families keyed p) (list_all (piece_keeps families keyed) ps) h))
      (template_bytes ps (and_right (piece_keeps families keyed p) (list_all (piece_keeps families keyed) ps) h))
