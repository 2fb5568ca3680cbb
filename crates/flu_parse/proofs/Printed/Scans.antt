-- The bytes of a template are scanned to the pieces that were printed.
use Rattle.std.proofs.Common.{◌≡◌, ◌+◌, ℕ, suc, Bool, true, false, ◌&&◌, List, [], ◌∷◌, ◌++◌, length, Option, Some, None, refl, sym, ap, ◌∙◌, arith}
use Rattle.std.specs.Prelude.{nat_lt, not, ◌==◌, if◌then◌else◌}
use Rattle.std.specs.List.{list_all}
use Rattle.std.proofs.lemmas.Grind.{common_steps}
use Rattle.std.proofs.lemmas.List.{append-nil}
use Rattle.flu_lemmas.proofs.Tests.{and_left, and_right, not_true, lt_true}
use Rattle.flu_model.specs.Rules.{is_plain_byte}
use Rattle.flu_names.specs.Names.{is_text_byte}
use Rattle.flu_parse.specs.declared.pieces.WrittenPiece.{WrittenPiece}
use Rattle.flu_parse.specs.declared.pieces.WrittenPiece.TheVariants as p
use Rattle.flu_parse.specs.Templates.{span, braced, Scan, Template, with_plain, with_piece, scan_byte, continued, scan}

-- between pieces, or within a field
abbrev pub outside : List WrittenPiece → ℕ → Scan
outside pieces start = record { pieces = pieces; start = start; in_field = false }

abbrev pub within_field : List WrittenPiece → ℕ → Scan
within_field pieces start = record { pieces = pieces; start = start; in_field = true }

abbrev pub whole_template : List WrittenPiece → Template
whole_template pieces = record { pieces = pieces; whole = true }

abbrev pub no_brace : ℕ → Bool
no_brace b = not (b == 123) && not (b == 125)

-- two lists of pieces where one is a plain piece that is still open
abbrev pub plain_part : List ℕ → ℕ → ℕ → List WrittenPiece
plain_part [] start place = []
plain_part (b ∷ pend) start place = p.Plain (span start place) ∷ []

module _ (field : ℕ → ℕ → Option WrittenPiece) where
  one_byte : (s : Scan) (place b : ℕ) (more : List ℕ) (next : Scan) → scan_byte field s place b ≡ Some next
      → scan field s place (b ∷ more) ≡ scan field next (place + 1) more
  unfolding scan
  one_byte s place b more next e = ap (λ r. continued s r (λ next. scan field next (place + 1) more)) e

  plain_byte : (pieces : List WrittenPiece) (start place b : ℕ) → is_plain_byte b ≡ true
      → scan_byte field (outside pieces start) place b ≡ Some (outside pieces start)
  unfolding scan_byte
  plain_byte pieces start place b h =
      let unopened : (is_text_byte b && not (b == 123)) ≡ true = and_left (is_text_byte b && not (b == 123)) (not (b == 125)) h in
      ap (λ t. if t then Some (within_field (with_plain (outside pieces start) place) (place + 1)) else if b == 125 then None else Some
      (outside pieces start)) (not_true (b == 123) (and_right (is_text_byte b) (not (b == 123)) unopened))
      ∙ ap (λ t. if t then None else Some (outside pieces start)) (not_true (b == 125) (and_right (is_text_byte b && not (b == 123)) (not (b == 125)) h))

  -- plain bytes leave the scan as it is
  pub scan_plain : (pieces : List WrittenPiece) (start place : ℕ) (t more : List ℕ) → list_all is_plain_byte t ≡ true
      → scan field (outside pieces start) place (t ++ more) ≡ scan field (outside pieces start) (place + length t) more
  scan_plain pieces start place [] more h = ap (λ k. scan field (outside pieces start) k more) (let same : place ≡ place + 0 = omega arith in same)
  scan_plain pieces start place (b ∷ t) more h =
      one_byte (outside pieces start) place b (t ++ more) (outside pieces start)
      (plain_byte pieces start place b (and_left (is_plain_byte b) (list_all is_plain_byte t) h))
      ∙ scan_plain pieces start (place + 1) t more (and_right (is_plain_byte b) (list_all is_plain_byte t) h)
      ∙ ap (λ k. scan field (outside pieces start) k more) (let same : place + 1 + length t ≡ place + suc (length t) = omega arith in same)

  field_byte : (pieces : List WrittenPiece) (start place b : ℕ) → no_brace b ≡ true
      → scan_byte field (within_field pieces start) place b ≡ Some (within_field pieces start)
  unfolding scan_byte
  field_byte pieces start place b h =
      let now : Scan = within_field pieces start in
      ap (λ t. if t then Some (with_piece now place (braced (field start place))) else if b == 123 then None else Some now)
      (not_true (b == 125) (and_right (not (b == 123)) (not (b == 125)) h))
      ∙ ap (λ t. if t then None else Some now) (not_true (b == 123) (and_left (not (b == 123)) (not (b == 125)) h))

  -- and so do the bytes of a field
  scan_word : (pieces : List WrittenPiece) (start place : ℕ) (word more : List ℕ) → list_all no_brace word ≡ true
      → scan field (within_field pieces start) place (word ++ more) ≡ scan field (within_field pieces start) (place + length word) more
  scan_word pieces start place [] more h = ap (λ k. scan field (within_field pieces start) k more) (let same : place ≡ place + 0 = omega arith in same)
  scan_word pieces start place (b ∷ word) more h =
      one_byte (within_field pieces start) place b (word ++ more) (within_field pieces start)
      (field_byte pieces start place b (and_left (no_brace b) (list_all no_brace word) h))
      ∙ scan_word pieces start (place + 1) word more (and_right (no_brace b) (list_all no_brace word) h)
      ∙ ap (λ k. scan field (within_field pieces start) k more) (let same : place + 1 + length word ≡ place + suc (length word) = omega arith in same)

  opens : (pieces : List WrittenPiece) (start place : ℕ)
      → scan_byte field (outside pieces start) place 123 ≡ Some (within_field (with_plain (outside pieces start) place) (place + 1))
  unfolding scan_byte
  opens pieces start place = refl

  closes : (pieces : List WrittenPiece) (start place : ℕ) (q : WrittenPiece) → field start place ≡ Some q
      → scan_byte field (within_field pieces start) place 125 ≡ Some (outside (pieces ++ q ∷ []) (place + 1))
  unfolding scan_byte
  closes pieces start place q e = ap (λ found. Some (with_piece (within_field pieces start) place (braced found))) e

  -- a field in its braces
  pub scan_field : (pieces : List WrittenPiece) (start place : ℕ) (word more : List ℕ) (q : WrittenPiece) → list_all no_brace word ≡ true
      → field (place + 1) (place + 1 + length word) ≡ Some q
      → scan field (outside pieces start) place (123 ∷ (word ++ 125 ∷ more)) ≡ scan field
      (outside (with_plain (outside pieces start) place ++ q ∷ []) (place + 1 + length word + 1)) (place + 1 + length word + 1) more
  scan_field pieces start place word more q h e =
      let inner : List WrittenPiece = with_plain (outside pieces start) place in
      one_byte (outside pieces start) place 123 (word ++ 125 ∷ more) (within_field inner (place + 1)) (opens pieces start place)
      ∙ scan_word inner (place + 1) (place + 1) word (125 ∷ more) h
      ∙ one_byte (within_field inner (place + 1)) (place + 1 + length word) 125 more (outside (inner ++ q ∷ []) (place + 1 + length word + 1))
      (closes inner (place + 1) (place + 1 + length word) q e)

  -- what is still open at a brace or at the end
  pub part_is : (pieces : List WrittenPiece) (pend : List ℕ) (start place : ℕ) → place ≡ start + length pend
      → with_plain (outside pieces start) place ≡ pieces ++ plain_part pend start place
  part_is pieces [] start place e =
      let none : nat_lt start place ≡ false = grind (arith, common_steps) in
      ap (λ t. if t then pieces ++ p.Plain (span start place) ∷ [] else pieces) none ∙ sym (append-nil pieces)
  part_is pieces (b ∷ pend) start place e = ap (λ t. if t then pieces ++ p.Plain (span start place) ∷ [] else pieces) (lt_true start place (omega arith))

  pub scan_end : (pieces : List WrittenPiece) (pend : List ℕ) (start place : ℕ) → place ≡ start + length pend
      → scan field (outside pieces start) place [] ≡ whole_template (pieces ++ plain_part pend start place)
  unfolding scan
  scan_end pieces pend start place e = ap whole_template (part_is pieces pend start place e)
