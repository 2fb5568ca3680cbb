-- Templates that are read keep the rules: plain pieces are as long as they can be and never empty, and fields fit their kind.
use Rattle.std.proofs.Common.{◌≡◌, ℕ, ◌+◌, ◌-◌, ◌<◌, ◌≤◌, Bool, true, false, List, [], ◌∷◌, ◌++◌, map, length, take, drop, get_or, Option, Some, None, Ok, inl}
use Rattle.std.proofs.Common.{inr, refl, sym, ap, subst, ◌∙◌, append_assoc, arith}
use Rattle.std.specs.Prelude.{◌&&◌, ◌==◌, not, nat_lt, is_some, if◌then◌else◌, option_map, position, codes, slice_get, slice_range}
use Rattle.std.specs.List.{list_all, AllByRecursion}
use Rattle.std.specs.Str.{IsUtf8, IsCharBoundary, bytes_eq}
use Rattle.std.proofs.lemmas.List.{drop-drop, length-take, length-drop, append-nil, map-append}
use Rattle.std.proofs.lemmas.List.Folds.{drop_split}
use Rattle.std.proofs.lemmas.Str.{IsCharBoundary-before_ascii, IsCharBoundary-after_ascii}
use Rattle.flu_lemmas.proofs.Tests.{and_left, and_right, both, lt_true, true_lt, true_eq}
use Rattle.flu_lemmas.proofs.Elements.{all_push, list_all_push}
use Rattle.flu_lemmas.proofs.Prefixes.{chosen, mapped, drop_one_more, take_one_more}
use Rattle.flu_lemmas.specs.Spans.{spelled}
use Rattle.flu_lemmas.proofs.Loops.{collect, bind_ok, then_ok}
use Rattle.flu_lemmas.proofs.Spans.{spelled_slice}
use Rattle.flu_model.specs.declared.jobs.Family.{Family}
use Rattle.flu_model.specs.declared.jobs.Piece.{Piece}
use Rattle.flu_model.specs.declared.jobs.Piece.TheVariants as piece
use Rattle.flu_model.specs.Rules.{is_declared, is_plain_byte, is_plain, emit_piece_fits, flush_piece_fits, follows_plain, are_apart, is_short}
use Rattle.flu_model.specs.Rules.{emit_template_fits, flush_template_fits}
use Rattle.flu_model.specs.Templates.{written_template}
use Rattle.flu_names.specs.Names.{is_name, is_text_byte}
use Rattle.flu_text.specs.declared.written.WrittenSpan.{WrittenSpan}
use Rattle.flu_syntax.specs.declared.tree.WrittenKey.TheVariants as k
use Rattle.flu_syntax.specs.declared.tree.WrittenRef.{WrittenRef}
use Rattle.flu_layout.specs.Spelling.{name_of, inside}
use Rattle.flu_layout.specs.Stands.{IsQuoted}
use Rattle.flu_parse.specs.declared.faults.JobFault.TheVariants as f
use Rattle.flu_parse.specs.declared.names.KindHead.{KindHead}
use Rattle.flu_parse.specs.declared.pieces.WrittenPiece.{WrittenPiece}
use Rattle.flu_parse.specs.declared.pieces.WrittenPiece.TheVariants as p
use Rattle.flu_parse.specs.Faults.{Found, each}
use Rattle.flu_parse.specs.Naming.{Naming, is_version_3, look_up, known}
use Rattle.flu_parse.specs.Cells.{brackets_fit, at_of}
use Rattle.flu_parse.specs.Templates.{open_brace, close_brace, is_open_bracket, span, key_at, ref_with, ref_at, family_at, field_at, braced, Scan}
use Rattle.flu_parse.specs.Templates.{with_plain, with_piece, scan_byte, continued, end_of_scan, scan, scan_start, template_at, known_names, own_key_fits}
use Rattle.flu_parse.specs.Templates.{read_fits, piece_fits, family_piece, piece_of, pieces_of, may_be_printed, template_of}
use Rattle.flu_parse.proofs.Looks.{passed}
use Rattle.flu_parse.proofs.Kept.Names.{Numbered, family_number}
use Rattle.flu_parse.proofs.Kept.Versions.{piece_suits}
use Rattle.flu_parse.proofs.Kept.Terms.{was_known, at_kept, at_suits_kept, families_of, family_at as declared_at, ref_kept}
use Rattle.flu_parse.proofs.Kept.Written.{emit_short}

-- ---- plain pieces that are apart, by which of the pieces are plain
abbrev is_plain_piece : Piece → Bool
is_plain_piece (piece.Plain t) = true
is_plain_piece piece.Value = false
is_plain_piece piece.Key = false
is_plain_piece piece.Item = false
is_plain_piece piece.Time = false
is_plain_piece (piece.Read r) = false
is_plain_piece piece.CellValue = false
is_plain_piece (piece.FamilyCell f) = false

abbrev is_written_plain : WrittenPiece → Bool
is_written_plain (p.Plain s) = true
is_written_plain p.Value = false
is_written_plain p.Key = false
is_written_plain p.Item = false
is_written_plain p.Time = false
is_written_plain p.CellValue = false
is_written_plain (p.Read r) = false
is_written_plain (p.Family s) = false
is_written_plain p.Formless = false

abbrev first_is_plain : List Bool → Bool
first_is_plain [] = false
first_is_plain (b ∷ bs) = b

abbrev apart : List Bool → Bool
apart [] = true
apart (b ∷ bs) = not (b && first_is_plain bs) && apart bs

follows : (ps : List Piece) → follows_plain ps ≡ first_is_plain (map is_plain_piece ps)
follows [] = refl
follows (piece.Plain t ∷ ps) = refl
follows (piece.Value ∷ ps) = refl
follows (piece.Key ∷ ps) = refl
follows (piece.Item ∷ ps) = refl
follows (piece.Time ∷ ps) = refl
follows (piece.Read r ∷ ps) = refl
follows (piece.CellValue ∷ ps) = refl
follows (piece.FamilyCell f ∷ ps) = refl

pieces_apart : (ps : List Piece) → are_apart ps ≡ apart (map is_plain_piece ps)
pieces_apart [] = refl
pieces_apart (piece.Plain t ∷ ps) = λ i. not (follows ps i) && pieces_apart ps i
pieces_apart (piece.Value ∷ ps) = pieces_apart ps
pieces_apart (piece.Key ∷ ps) = pieces_apart ps
pieces_apart (piece.Item ∷ ps) = pieces_apart ps
pieces_apart (piece.Time ∷ ps) = pieces_apart ps
pieces_apart (piece.Read r ∷ ps) = pieces_apart ps
pieces_apart (piece.CellValue ∷ ps) = pieces_apart ps
pieces_apart (piece.FamilyCell f ∷ ps) = pieces_apart ps

first_of_more : (bs cs : List Bool) → first_is_plain (bs ++ cs) ≡ false → first_is_plain bs ≡ false
first_of_more [] cs e = refl
first_of_more (b ∷ bs) cs e = e

not_first : (b x y : Bool) → (y ≡ false → x ≡ false) → not (b && y) ≡ true → not (b && x) ≡ true
not_first false x y f e = refl
not_first true x true f e = absurd cc
not_first true x false f e = ap not (f refl)

-- a front is apart where the whole is
front_apart : (bs cs : List Bool) → apart (bs ++ cs) ≡ true → apart bs ≡ true
front_apart [] cs e = refl
front_apart (b ∷ bs) cs e =
    let parts = and_left (not (b && first_is_plain (bs ++ cs))) (apart (bs ++ cs)) e in
    let rest = and_right (not (b && first_is_plain (bs ++ cs))) (apart (bs ++ cs)) e in
    both (not (b && first_is_plain bs)) (apart bs) (not_first b (first_is_plain bs) (first_is_plain (bs ++ cs)) (first_of_more bs cs) parts)
    (front_apart bs cs rest)

-- behind a field a plain piece may follow
first_before_field : (bs : List Bool) → first_is_plain bs ≡ false → first_is_plain (bs ++ false ∷ true ∷ []) ≡ false
first_before_field [] e = refl
first_before_field (b ∷ bs) e = e

behind_field : (bs : List Bool) → apart bs ≡ true → apart (bs ++ false ∷ true ∷ []) ≡ true
behind_field [] e = refl
behind_field (b ∷ bs) e =
    let more = bs ++ false ∷ true ∷ [] in
    both (not (b && first_is_plain more)) (apart more)
    (not_first b (first_is_plain more) (first_is_plain bs) (first_before_field bs) (and_left (not (b && first_is_plain bs)) (apart bs) e))
    (behind_field bs (and_right (not (b && first_is_plain bs)) (apart bs) e))

-- ---- fields
-- what stands between two braces, in an emit or in a flush of a version as it may, and is no plain piece
abbrev IsField : ℕ → Bool → WrittenPiece → Type 0
IsField version in_flush (p.Plain s) = ⊥
IsField version in_flush p.Value = Unit {0}
IsField version in_flush p.Key = Unit {0}
IsField version in_flush p.Item = Unit {0}
IsField version in_flush p.Time = Unit {0}
IsField version in_flush p.CellValue = in_flush ≡ true
IsField version in_flush (p.Read r) = in_flush ≡ false
IsField version in_flush (p.Family s) = (in_flush ≡ true) × ((version == 3) ≡ true)
IsField version in_flush p.Formless = Unit {0}

ref_is_field : (text : List ℕ) (version from to : ℕ) (o : Option ℕ) (q : WrittenPiece) → ref_with text version from to o ≡ Some q → IsField version false q
unfolding ref_with
ref_is_field text version from to None q e =
    elim (chosen (is_name (spelled text from to)) (Some (p.Read (record { family = span from to; key = k.Alone }))) None (Some q) e) [
      | inl h ↦ let same : p.Read (record { family = span from to; key = k.Alone }) ≡ q = cc in subst (IsField version false) same refl
      | inr h ↦ absurd cc
    ]
ref_is_field text version from to (Some i) q e =
    let found : Option WrittenPiece =
    option_map (λ key. p.Read (record { family = span from (from + i); key = key })) (key_at version (spelled text (from + i + 1) (to - 1)) (from + i + 1)) in
    elim (chosen (is_name (spelled text from (from + i)) && bytes_eq (spelled text (to - 1) to) (codes "]")) found None (Some q) e) [
      | inl h ↦
          let m = mapped (λ key. p.Read (record { family = span from (from + i); key = key }))
          (key_at version (spelled text (from + i + 1) (to - 1)) (from + i + 1)) q h.1 in
          subst (IsField version false) m.2 refl
      | inr h ↦ absurd cc
    ]

family_is_field : (text : List ℕ) (version from to : ℕ) (q : WrittenPiece) → family_at text version from to ≡ Some q → IsField version true q
unfolding family_at
family_is_field text version from to q e =
    let named : Bool = is_name (spelled text from to) in
    elim (chosen ((version == 3) && named) (Some (p.Family (span from to))) None (Some q) e) [
      | inl h ↦ let same : p.Family (span from to) ≡ q = cc in subst (IsField version true) same (refl, and_left (version == 3) named h.0)
      | inr h ↦ absurd cc
    ]

is_field : (version : ℕ) (a b c d in_flush e : Bool) (family ref : Option WrittenPiece) (q : WrittenPiece)
    → (family ≡ Some q → IsField version true q) → (ref ≡ Some q → IsField version false q)
    → (if a then Some p.Value else if b then Some p.Key else if c then Some p.Time else if d then Some p.Item else if in_flush then
    (if e then Some p.CellValue else family) else ref) ≡ Some q → IsField version in_flush q
is_field version true b c d in_flush e family ref q by_family by_ref h = let same : p.Value ≡ q = cc in subst (IsField version in_flush) same tt
is_field version false true c d in_flush e family ref q by_family by_ref h = let same : p.Key ≡ q = cc in subst (IsField version in_flush) same tt
is_field version false false true d in_flush e family ref q by_family by_ref h = let same : p.Time ≡ q = cc in subst (IsField version in_flush) same tt
is_field version false false false true in_flush e family ref q by_family by_ref h = let same : p.Item ≡ q = cc in subst (IsField version in_flush) same tt
is_field version false false false false true true family ref q by_family by_ref h = let same : p.CellValue ≡ q = cc in subst (IsField version true) same refl
is_field version false false false false true false family ref q by_family by_ref h = by_family h
is_field version false false false false false e family ref q by_family by_ref h = by_ref h

field_found : (text : List ℕ) (version : ℕ) (in_flush : Bool) (from to : ℕ) (q : WrittenPiece) → field_at text version in_flush from to ≡ Some q
    → IsField version in_flush q
unfolding field_at
field_found text version in_flush from to q e =
    let word = spelled text from to in
    is_field version (bytes_eq word (codes "value")) (bytes_eq word (codes "key")) (bytes_eq word (codes "time"))
    ((version == 3) && bytes_eq word (codes "item")) in_flush (bytes_eq word (codes "cell"))
    (family_at text version from to) (ref_at text version from to) q
    (family_is_field text version from to q)
    (ref_is_field text version from to (position is_open_bracket word) q) e

no_plain_field : (version : ℕ) (in_flush : Bool) (q : WrittenPiece) → IsField version in_flush q → is_written_plain q ≡ false
no_plain_field version in_flush (p.Plain s) field = absurd field
no_plain_field version in_flush p.Value field = refl
no_plain_field version in_flush p.Key field = refl
no_plain_field version in_flush p.Item field = refl
no_plain_field version in_flush p.Time field = refl
no_plain_field version in_flush p.CellValue field = refl
no_plain_field version in_flush (p.Read r) field = refl
no_plain_field version in_flush (p.Family s) field = refl
no_plain_field version in_flush p.Formless field = refl

braced_is_field : (version : ℕ) (in_flush : Bool) (found : Option WrittenPiece) → ((q : WrittenPiece) → found ≡ Some q → IsField version in_flush q)
    → IsField version in_flush (braced found)
braced_is_field version in_flush None is = tt
braced_is_field version in_flush (Some q) is = is q refl

-- ---- the scan of a text
plain_byte : (b : ℕ) → is_text_byte b ≡ true → (b == 123) ≡ false → (b == 125) ≡ false → is_plain_byte b ≡ true
plain_byte b e opens closes = both (is_text_byte b && not (b == 123)) (not (b == 125)) (both (is_text_byte b) (not (b == 123)) e (ap not opens)) (ap not closes)

module _ (text : List ℕ) (version : ℕ) (in_flush : Bool) (utf8 : IsUtf8 text) where
  -- a plain piece stands for plain bytes, and any other is a field
  abbrev IsGood : WrittenPiece → Type 0
  IsGood (p.Plain s) = is_plain (name_of text s) ≡ true
  IsGood p.Value = IsField version in_flush p.Value
  IsGood p.Key = IsField version in_flush p.Key
  IsGood p.Item = IsField version in_flush p.Item
  IsGood p.Time = IsField version in_flush p.Time
  IsGood p.CellValue = IsField version in_flush p.CellValue
  IsGood (p.Read r) = IsField version in_flush (p.Read r)
  IsGood (p.Family s) = IsField version in_flush (p.Family s)
  IsGood p.Formless = IsField version in_flush p.Formless

  good_field : (q : WrittenPiece) → IsField version in_flush q → IsGood q
  good_field (p.Plain s) field = absurd field
  good_field p.Value field = field
  good_field p.Key field = field
  good_field p.Item field = field
  good_field p.Time field = field
  good_field p.CellValue field = field
  good_field (p.Read r) field = field
  good_field (p.Family s) field = field
  good_field p.Formless field = field

  abbrev plains : List WrittenPiece → List Bool
  plains qs = map is_written_plain qs

  -- the pieces of a template
  pub record AreGood (qs : List WrittenPiece) : Type 0 where
    good : AllByRecursion IsGood qs
    are_apart : apart (plains qs) ≡ true

  -- what is open where the scan stands: a field, or plain bytes behind which a plain piece may end
  abbrev Open : Bool → List WrittenPiece → ℕ → ℕ → Type 0
  Open true qs start place = apart (plains qs) ≡ true
  Open false qs start place = (apart (plains qs ++ true ∷ []) ≡ true) × (list_all is_plain_byte (slice_range text start place) ≡ true)

  record Scanned (s : Scan) (place : ℕ) : Type 0 where
    begins : IsCharBoundary text s.start
    rises : s.start ≤ place
    good : AllByRecursion IsGood s.pieces
    is_open : Open s.in_field s.pieces s.start place

  plain_span : (start place : ℕ) → IsCharBoundary text start → IsCharBoundary text place → start < place → place ≤ length text
      → list_all is_plain_byte (slice_range text start place) ≡ true → is_plain (name_of text (span start place)) ≡ true
  plain_span start place begins ends some within all =
      let bytes = spelled_slice text start place (omega arith) begins ends in
      let len : 0 < length (slice_range text start place) = omega (arith, length-take (place - start) (drop start text), length-drop start text) in
      ap is_plain bytes
      ∙ both (nat_lt 0 (length (slice_range text start place))) (list_all is_plain_byte (slice_range text start place))
      (lt_true 0 (length (slice_range text start place)) len) all

  -- where a plain piece ends
  ended : (qs : List WrittenPiece) (start place : ℕ) (b : Bool) → nat_lt start place ≡ b → IsCharBoundary text start → IsCharBoundary text place
      → place ≤ length text → AllByRecursion IsGood qs → Open false qs start place
      → AreGood (if b then qs ++ p.Plain (span start place) ∷ [] else qs)
  ended qs start place true e begins ends within good is_open =
      record {
        good = all_push IsGood qs (p.Plain (span start place)) good (plain_span start place begins ends (true_lt start place e) within is_open.1);
        are_apart = ap apart (map-append is_written_plain qs (p.Plain (span start place) ∷ [])) ∙ is_open.0;
      }
  ended qs start place false e begins ends within good is_open = record { good = good; are_apart = front_apart (plains qs) (true ∷ []) is_open.0 }

  nothing_yet : (place : ℕ) → slice_range text place place ≡ []
  nothing_yet place = let none : place - place ≡ 0 = omega arith in ap (λ (j : ℕ). take j (drop place text)) none

  -- one byte more of what is plain
  one_more_plain : (start place b : ℕ) (rest : List ℕ) → start ≤ place → drop place text ≡ b ∷ rest
      → list_all is_plain_byte (slice_range text start place) ≡ true → is_plain_byte b ≡ true
      → list_all is_plain_byte (slice_range text start (place + 1)) ≡ true
  one_more_plain start place b rest le here all plain =
      let back : start + (place - start) ≡ place = omega arith in
      let there : drop (place - start) (drop start text) ≡ b ∷ rest = drop-drop (place - start) start text ∙ ap (λ (j : ℕ). drop j text) back ∙ here in
      let more = take_one_more (drop start text) (place - start) b rest there in
      let count : place + 1 - start ≡ place - start + 1 = omega arith in
      ap (λ (j : ℕ). list_all is_plain_byte (take j (drop start text))) count ∙ ap (list_all is_plain_byte) more.1
      ∙ list_all_push is_plain_byte (slice_range text start place) b all plain

  -- what is known of one byte more
  record Byte (place b : ℕ) (rest : List ℕ) : Type 0 where
    here : drop place text ≡ b ∷ rest
    is_text : is_text_byte b ≡ true

  boundary_at : (place b : ℕ) (rest : List ℕ) → drop place text ≡ b ∷ rest → b < 128 → IsCharBoundary text place × IsCharBoundary text (place + 1)
  boundary_at place b rest here ascii =
      let at_place = drop_one_more text place b rest here in
      let low : get_or text place 0 < 128 = omega (arith, at_place.1) in
      (IsCharBoundary-before_ascii text place at_place.0 low, IsCharBoundary-after_ascii text place utf8 at_place.0 low)

  step : (qs : List WrittenPiece) (start : ℕ) (in_field : Bool) (place b : ℕ) (rest : List ℕ) (next : Scan)
      → Scanned (record { pieces = qs; start = start; in_field = in_field }) place → Byte place b rest
      → scan_byte (field_at text version in_flush) (record { pieces = qs; start = start; in_field = in_field }) place b ≡ Some next → Scanned next (place + 1)
  unfolding scan_byte
  step qs start true place b rest next now byte e =
      let s : Scan = record { pieces = qs; start = start; in_field = true } in
      let q : WrittenPiece = braced (field_at text version in_flush start place) in
      elim (chosen (b == close_brace) (Some (with_piece s place q)) (if b == open_brace then None else Some s) (Some next) e) [
        | inl h ↦
            let same : with_piece s place q ≡ next = cc in
            let field = braced_is_field version in_flush (field_at text version in_flush start place) (field_found text version in_flush start place) in
            let is : b ≡ 125 = true_eq b 125 h.0 in
            let ends = boundary_at place b rest byte.here (omega (arith, is)) in
            let shape : plains (qs ++ q ∷ []) ++ true ∷ [] ≡ plains qs ++ false ∷ true ∷ [] =
            ap (λ bs. bs ++ true ∷ []) (map-append is_written_plain qs (q ∷ []))
            ∙ append_assoc (plains qs) (is_written_plain q ∷ []) (true ∷ [])
            ∙ ap (λ b. plains qs ++ b ∷ true ∷ []) (no_plain_field version in_flush q field) in
            subst (λ (s : Scan). Scanned s (place + 1)) same (
            record {
              begins = ends.1;
              rises = omega arith;
              good = all_push IsGood qs q now.good (good_field q field);
              is_open = (ap apart shape ∙ behind_field (plains qs) now.is_open, ap (list_all is_plain_byte) (nothing_yet (place + 1)));
            }
            )
        | inr h ↦
            elim (chosen (b == open_brace) None (Some s) (Some next) h.1) [
              | inl g ↦ absurd cc
              | inr g ↦
                  let same : s ≡ next = cc in
                  subst (λ (s : Scan). Scanned s (place + 1)) same
                  (record { begins = now.begins; rises = omega (arith, now.rises); good = now.good; is_open = now.is_open })
            ]
      ]
  step qs start false place b rest next now byte e =
      let opened : Scan = record { pieces = with_plain (record { pieces = qs; start = start; in_field = false }) place; start = place + 1; in_field = true } in
      let more : Option Scan = if b == close_brace then None else Some (record { pieces = qs; start = start; in_field = false }) in
      elim (chosen (b == open_brace) (Some opened) more (Some next) e) [
        | inl h ↦
            let same : opened ≡ next = cc in
            let is : b ≡ 123 = true_eq b 123 h.0 in
            let ends = boundary_at place b rest byte.here (omega (arith, is)) in
            let within = drop_one_more text place b rest byte.here in
            let good = ended qs start place (nat_lt start place) refl now.begins ends.0 (omega (arith, within.0)) now.good now.is_open in
            subst (λ (s : Scan). Scanned s (place + 1)) same (record { begins = ends.1; rises = omega arith; good = good.good; is_open = good.are_apart })
        | inr h ↦
            elim (chosen (b == close_brace) None (Some (record { pieces = qs; start = start; in_field = false })) (Some next) h.1) [
              | inl g ↦ absurd cc
              | inr g ↦
                  let same : record { pieces = qs; start = start; in_field = false } ≡ next = cc in
                  subst (λ (s : Scan). Scanned s (place + 1)) same (
                  record {
                    begins = now.begins;
                    rises = omega (arith, now.rises);
                    good = now.good;
                    is_open = (now.is_open.0, one_more_plain start place b rest now.rises byte.here now.is_open.1 (plain_byte b byte.is_text h.0 g.0));
                  }
                  )
            ]
      ]

  -- the end of a scan that is in no field
  scan_end_kept : (qs : List WrittenPiece) (start : ℕ) (in_field : Bool) (place : ℕ)
      → Scanned (record { pieces = qs; start = start; in_field = in_field }) place → IsCharBoundary text place → place ≤ length text → not in_field ≡ true
      → AreGood (end_of_scan (record { pieces = qs; start = start; in_field = in_field }) place).pieces
  scan_end_kept qs start true place now ends within whole = absurd cc
  scan_end_kept qs start false place now ends within whole = ended qs start place (nat_lt start place) refl now.begins ends within now.good now.is_open

  scanned : (bs rest : List ℕ) (s : Scan) (place : ℕ) → Scanned s place → drop place text ≡ bs ++ rest → list_all is_text_byte bs ≡ true
      → IsCharBoundary text (place + length bs) → place + length bs ≤ length text
      → (scan (field_at text version in_flush) s place bs).whole ≡ true → AreGood (scan (field_at text version in_flush) s place bs).pieces
  unfolding scan
  scanned [] rest s place now here all ends within whole =
      let at_end : place + 0 ≡ place = omega arith in
      scan_end_kept s.pieces s.start s.in_field place now (subst (IsCharBoundary text) at_end ends) (omega (arith, within)) whole
  scanned (b ∷ bs) rest s place now here all ends within whole =
      let byte : Byte place b (bs ++ rest) = record { here = here; is_text = and_left (is_text_byte b) (list_all is_text_byte bs) all } in
      by (scan_byte (field_at text version in_flush) s place b) refl (λ next e.
      scanned bs rest next (place + 1) (step s.pieces s.start s.in_field place b (bs ++ rest) next now byte e) (drop_one_more text place b (bs ++ rest) here).2
      (and_right (is_text_byte b) (list_all is_text_byte bs) all) (subst (IsCharBoundary text) on ends) (omega (arith, within, on))) whole
    where
      on : place + length (b ∷ bs) ≡ place + 1 + length bs
      on = omega arith

      by : (found : Option Scan) → scan_byte (field_at text version in_flush) s place b ≡ found
          → ((next : Scan) → scan_byte (field_at text version in_flush) s place b ≡ Some next
          → (scan (field_at text version in_flush) next (place + 1) bs).whole ≡ true
          → AreGood (scan (field_at text version in_flush) next (place + 1) bs).pieces)
          → (continued s found (λ next. scan (field_at text version in_flush) next (place + 1) bs)).whole ≡ true → AreGood
          (continued s found (λ next. scan (field_at text version in_flush) next (place + 1) bs)).pieces
      by None e more whole = absurd cc
      by (Some next) e more whole = more next e whole

  -- the pieces of a written text that is a whole template
  pub template_kept : (s : WrittenSpan) → IsQuoted text s → (template_at text version in_flush s).whole ≡ true
      → AreGood (template_at text version in_flush s).pieces
  unfolding template_at
  template_kept s within whole =
      let bytes = within.is in
      let len : length (inside text s) ≡ s.to - 1 - (s.from + 1) = ap length bytes
      ∙ omega (arith, within.room, length-take (s.to - 1 - (s.from + 1)) (drop (s.from + 1) text), length-drop (s.from + 1) text) in
      let at_end : s.from + 1 + length (inside text s) ≡ s.to - 1 = omega (arith, within.room, len) in
      let rest : drop (s.from + 1) text ≡ inside text s ++ drop (s.to - 1) text = drop_split text (s.from + 1) (s.to - 1) (omega (arith, within.room))
      ∙ ap (λ bs. bs ++ drop (s.to - 1) text) (sym bytes) in
      scanned (inside text s) (drop (s.to - 1) text) (scan_start (s.from + 1)) (s.from + 1) (
      record {
        begins = within.begins;
        rises = omega arith;
        good = tt;
        is_open = (refl, ap (list_all is_plain_byte) (nothing_yet (s.from + 1)));
      }
      ) rest within.bytes (subst (IsCharBoundary text) (sym at_end) within.ends) (omega (arith, at_end, within.ends.0)) whole

-- ---- what the pieces mean
abbrev AreFound : {X Y : Type 0} → (X → Found Y) → List X → List Y → Type 0
AreFound find [] [] = Unit {0}
AreFound find [] (y ∷ ys) = ⊥
AreFound find (x ∷ xs) [] = ⊥
AreFound find (x ∷ xs) (y ∷ ys) = (find x ≡ Ok y) × AreFound find xs ys

-- what is found of each element, one by one
each_found : {X Y : Type 0} (find : X → Found Y) (done : List Y) (xs : List X) (ys : List Y) → each (collect find) done xs ≡ Ok ys
    → (zs : List Y) × (ys ≡ done ++ zs) × AreFound find xs zs
unfolding each
each_found find done [] ys e = let same : done ≡ ys = cc in ([], sym same ∙ sym (append-nil done), tt)
each_found find done (x ∷ xs) ys e =
    let h = bind_ok (collect find done x) _ ys e in
    let g = bind_ok (find x) (λ y. Ok (done ++ y ∷ [])) h.0 h.1 in
    let now : done ++ g.0 ∷ [] ≡ h.0 = cc in
    let rest = each_found find h.0 xs ys h.2 in
    (g.0 ∷ rest.0, rest.1 ∙ ap (λ l. l ++ rest.0) (sym now) ∙ append_assoc done (g.0 ∷ []) rest.0, (g.1, rest.2))

module _ (text : List ℕ) (utf8 : IsUtf8 text) (n : Naming) (numbered : Numbered family_number 0 n.families) (under : KindHead) where
  abbrev families : List Family
  families = families_of text n numbered

  read_kept : (flushed : Option ℕ) (place : ℕ) (r : WrittenRef) (q : Piece) → read_fits n under r.key (look_up (name_of text r.family) n.families) ≡ true
      → piece_of text n under flushed place (p.Read r) ≡ Ok q
      → (emit_piece_fits families under.keyed under.has_value q ≡ true) × ((newer : Bool) → piece_suits under.has_item newer q ≡ true)
  unfolding piece_of
  read_kept flushed place r q fits e =
      let h = bind_ok (known place (look_up (name_of text r.family) n.families)) _ q e in
      let is = was_known place (look_up (name_of text r.family) n.families) h.0 h.1 in
      let g = bind_ok (at_of n under r.key) (λ at. Ok (piece.Read (record { family = h.0.number; at = at }))) q h.2 in
      let same : piece.Read (record { family = h.0.number; at = g.0 }) ≡ q = cc in
      let fit = ap (read_fits n under r.key) (sym is) ∙ fits in
      let brackets = and_left (brackets_fit h.0.keyed r.key) (own_key_fits n under r.key) fit in (
        ap (emit_piece_fits families under.keyed under.has_value) (sym same)
            ∙ ref_kept text n numbered (name_of text r.family) h.0 under.keyed g.0 is (at_kept n h.0.keyed under r.key g.0 brackets g.1),
        λ newer. ap (piece_suits under.has_item newer) (sym same) ∙ at_suits_kept n under r.key g.0 g.1,
      )

  -- a piece of an emit
  abbrev EmitKeeps : Piece → Type 0
  EmitKeeps q = (emit_piece_fits families under.keyed under.has_value q ≡ true) × (piece_suits under.has_item true q ≡ true)

  emit_piece_kept : (place : ℕ) (q : WrittenPiece) (found : Piece) → IsGood text n.version false utf8 q → piece_fits text n under false q ≡ true
      → piece_of text n under None place q ≡ Ok found → EmitKeeps found
  unfolding piece_of
  emit_piece_kept place (p.Plain s) found good fits e = let same : piece.Plain (name_of text s) ≡ found = cc in subst EmitKeeps same (good, refl)
  emit_piece_kept place p.Value found good fits e = let same : piece.Value ≡ found = cc in subst EmitKeeps same (fits, refl)
  emit_piece_kept place p.Key found good fits e = let same : piece.Key ≡ found = cc in subst EmitKeeps same (fits, refl)
  emit_piece_kept place p.Item found good fits e =
      let same : piece.Item ≡ found = cc in subst EmitKeeps same (refl, and_right (is_version_3 n) under.has_item fits)
  emit_piece_kept place p.Time found good fits e = let same : piece.Time ≡ found = cc in subst EmitKeeps same (refl, refl)
  emit_piece_kept place p.CellValue found good fits e = absurd cc
  emit_piece_kept place (p.Read r) found good fits e = let kept = read_kept None place r found fits e in (kept.0, kept.1 true)
  emit_piece_kept place (p.Family s) found good fits e = absurd (let no = good.0 in cc)
  emit_piece_kept place p.Formless found good fits e = absurd cc

  -- a piece of a flush of the family of this number
  abbrev FlushKeeps : ℕ → Piece → Type 0
  FlushKeeps flushed q = (flush_piece_fits families flushed under.has_value q ≡ true) × (piece_suits under.has_item (is_version_3 n) q ≡ true)

  -- the cell of a family
  family_kept : (flushed number : ℕ) → is_declared (slice_get families number) ≡ true → is_version_3 n ≡ true
      → FlushKeeps flushed (family_piece (Some flushed) number)
  family_kept flushed number declared newer = by (number == flushed) refl
    where
      by : (b : Bool) → (number == flushed) ≡ b → FlushKeeps flushed (if b then piece.CellValue else piece.FamilyCell number)
      by true is = (refl, refl)
      by false is = (both (is_declared (slice_get families number)) (not (number == flushed)) declared (ap not is), newer)

  flush_piece_kept : (flushed place : ℕ) (q : WrittenPiece) (found : Piece) → IsGood text n.version true utf8 q → piece_fits text n under true q ≡ true
      → piece_of text n under (Some flushed) place q ≡ Ok found → FlushKeeps flushed found
  unfolding piece_of
  flush_piece_kept flushed place (p.Plain s) found good fits e =
      let same : piece.Plain (name_of text s) ≡ found = cc in subst (FlushKeeps flushed) same (good, refl)
  flush_piece_kept flushed place p.Value found good fits e = let same : piece.Value ≡ found = cc in subst (FlushKeeps flushed) same (fits, refl)
  flush_piece_kept flushed place p.Key found good fits e = let same : piece.Key ≡ found = cc in subst (FlushKeeps flushed) same (refl, refl)
  flush_piece_kept flushed place p.Item found good fits e =
      let same : piece.Item ≡ found = cc in subst (FlushKeeps flushed) same (refl, and_right (is_version_3 n) under.has_item fits)
  flush_piece_kept flushed place p.Time found good fits e = let same : piece.Time ≡ found = cc in subst (FlushKeeps flushed) same (refl, refl)
  flush_piece_kept flushed place p.CellValue found good fits e = let same : piece.CellValue ≡ found = cc in subst (FlushKeeps flushed) same (refl, refl)
  flush_piece_kept flushed place (p.Read r) found good fits e = absurd cc
  flush_piece_kept flushed place (p.Family s) found good fits e =
      let h = bind_ok (known place (look_up (name_of text s) n.families)) (λ family. Ok (family_piece (Some flushed) family.number)) found e in
      let same : family_piece (Some flushed) h.0.number ≡ found = cc in
      let there = declared_at text n numbered (name_of text s) h.0 (was_known place (look_up (name_of text s) n.families) h.0 h.1) in
      subst (FlushKeeps flushed) same (family_kept flushed h.0.number (ap is_declared there.1) good.1)
  flush_piece_kept flushed place p.Formless found good fits e = absurd cc

  -- a piece is plain where it was written so
  family_no_plain : (flushed : Option ℕ) (number : ℕ) → is_plain_piece (family_piece flushed number) ≡ false
  family_no_plain None number = refl
  family_no_plain (Some flushed) number = by (number == flushed)
    where
      by : (b : Bool) → is_plain_piece (if b then piece.CellValue else piece.FamilyCell number) ≡ false
      by true = refl
      by false = refl

  plain_kept : (flushed : Option ℕ) (place : ℕ) (q : WrittenPiece) (found : Piece) → piece_of text n under flushed place q ≡ Ok found
      → is_plain_piece found ≡ is_written_plain q
  unfolding piece_of
  plain_kept flushed place (p.Plain s) found e = let same : piece.Plain (name_of text s) ≡ found = cc in ap is_plain_piece (sym same)
  plain_kept flushed place p.Value found e = let same : piece.Value ≡ found = cc in ap is_plain_piece (sym same)
  plain_kept flushed place p.Key found e = let same : piece.Key ≡ found = cc in ap is_plain_piece (sym same)
  plain_kept flushed place p.Item found e = let same : piece.Item ≡ found = cc in ap is_plain_piece (sym same)
  plain_kept flushed place p.Time found e = let same : piece.Time ≡ found = cc in ap is_plain_piece (sym same)
  plain_kept flushed place p.CellValue found e = let same : piece.CellValue ≡ found = cc in ap is_plain_piece (sym same)
  plain_kept flushed place (p.Read r) found e =
      let h = bind_ok (known place (look_up (name_of text r.family) n.families)) _ found e in
      let g = bind_ok (at_of n under r.key) (λ at. Ok (piece.Read (record { family = h.0.number; at = at }))) found h.2 in
      let same : piece.Read (record { family = h.0.number; at = g.0 }) ≡ found = cc in
      ap is_plain_piece (sym same)
  plain_kept flushed place (p.Family s) found e =
      let h = bind_ok (known place (look_up (name_of text s) n.families)) (λ family. Ok (family_piece flushed family.number)) found e in
      let same : family_piece flushed h.0.number ≡ found = cc in
      ap is_plain_piece (sym same) ∙ family_no_plain flushed h.0.number
  plain_kept flushed place p.Formless found e = absurd cc

  plains_kept : (flushed : Option ℕ) (place : ℕ) (qs : List WrittenPiece) (ps : List Piece) → AreFound (piece_of text n under flushed place) qs ps
      → map is_plain_piece ps ≡ map is_written_plain qs
  plains_kept flushed place [] [] are = refl
  plains_kept flushed place [] (x ∷ ps) are = absurd are
  plains_kept flushed place (q ∷ qs) [] are = absurd are
  plains_kept flushed place (q ∷ qs) (x ∷ ps) are = λ i. plain_kept flushed place q x are.0 i ∷ plains_kept flushed place qs ps are.1 i

  all_kept : (flushed : Option ℕ) (place : ℕ) (fits suits : Piece → Bool)
      → ((q : WrittenPiece) (found : Piece) → IsGood text n.version (is_some flushed) utf8 q → piece_fits text n under (is_some flushed) q ≡ true
      → piece_of text n under flushed place q ≡ Ok found → (fits found ≡ true) × (suits found ≡ true))
      → (qs : List WrittenPiece) (ps : List Piece) → AllByRecursion (IsGood text n.version (is_some flushed) utf8) qs
      → list_all (piece_fits text n under (is_some flushed)) qs ≡ true
      → AreFound (piece_of text n under flushed place) qs ps → (list_all fits ps ≡ true) × (list_all suits ps ≡ true)
  all_kept flushed place fits suits kept [] [] good all are = (refl, refl)
  all_kept flushed place fits suits kept [] (x ∷ ps) good all are = absurd are
  all_kept flushed place fits suits kept (q ∷ qs) [] good all are = absurd are
  all_kept flushed place fits suits kept (q ∷ qs) (x ∷ ps) good all are =
      let in_flush = is_some flushed in
      let here = and_left (piece_fits text n under in_flush q) (list_all (piece_fits text n under in_flush) qs) all in
      let rest = and_right (piece_fits text n under in_flush q) (list_all (piece_fits text n under in_flush) qs) all in
      let one = kept q x good.0 here are.0 in
      let others = all_kept flushed place fits suits kept qs ps good.1 rest are.1 in
      (both (fits x) (list_all fits ps) one.0 others.0, both (suits x) (list_all suits ps) one.1 others.1)

  -- what a text is found to mean
  found_pieces : (flushed : Option ℕ) (s : WrittenSpan) (ps : List Piece) → IsQuoted text s → template_of text n under flushed s ≡ Ok ps
      → AreGood text n.version (is_some flushed) utf8 (template_at text n.version (is_some flushed) s).pieces
      × (list_all (piece_fits text n under (is_some flushed)) (template_at text n.version (is_some flushed) s).pieces ≡ true)
      × (may_be_printed n flushed ps ≡ true)
      × AreFound (piece_of text n under flushed s.from) (template_at text n.version (is_some flushed) s).pieces ps
  unfolding template_of
  found_pieces flushed s ps within e =
      let in_flush = is_some flushed in
      let t = template_at text n.version in_flush s in
      let one = then_ok (known_names text n s.from t.pieces) _ ps e in
      let two = passed (t.whole && list_all (piece_fits text n under in_flush) t.pieces) (f.WrongShape s.from) _ ps one.2 in
      let three = bind_ok (pieces_of text n under flushed s.from t.pieces) _ ps two.1 in
      let four = passed (may_be_printed n flushed three.0) (f.WrongShape s.from) (Ok three.0) ps three.2 in
      let same : three.0 ≡ ps = cc in
      let five = each_found (piece_of text n under flushed s.from) [] t.pieces three.0 three.1 in
      let whole = and_left t.whole (list_all (piece_fits text n under in_flush) t.pieces) two.0 in (
        template_kept text n.version in_flush utf8 s within whole,
        and_right t.whole (list_all (piece_fits text n under in_flush) t.pieces) two.0,
        ap (may_be_printed n flushed) (sym same) ∙ four.0,
        subst (AreFound (piece_of text n under flushed s.from) t.pieces) (sym five.1 ∙ same) five.2,
      )

  -- the pieces of an emit, and of a flush of the family of this number
  emit_found : (s : WrittenSpan) (ps : List Piece) → IsQuoted text s → template_of text n under None s ≡ Ok ps
      → (list_all (emit_piece_fits families under.keyed under.has_value) ps ≡ true) × (list_all (piece_suits under.has_item true) ps ≡ true)
      × (are_apart ps ≡ true)
  emit_found s ps within e =
      let h = found_pieces None s ps within e in
      let qs = (template_at text n.version false s).pieces in
      let kept = all_kept None s.from (emit_piece_fits families under.keyed under.has_value) (piece_suits under.has_item true)
      (emit_piece_kept s.from) qs ps h.0.good h.1 h.3 in
      (kept.0, kept.1, pieces_apart ps ∙ ap apart (plains_kept None s.from qs ps h.3) ∙ h.0.are_apart)

  flush_found : (flushed : ℕ) (s : WrittenSpan) (ps : List Piece) → IsQuoted text s → template_of text n under (Some flushed) s ≡ Ok ps
      → (list_all (flush_piece_fits families flushed under.has_value) ps ≡ true) × (list_all (piece_suits under.has_item (is_version_3 n)) ps ≡ true)
      × (are_apart ps ≡ true) × (is_short (written_template families ps) ≡ true)
  flush_found flushed s ps within e =
      let h = found_pieces (Some flushed) s ps within e in
      let qs = (template_at text n.version true s).pieces in
      let kept = all_kept (Some flushed) s.from (flush_piece_fits families flushed under.has_value) (piece_suits under.has_item (is_version_3 n))
      (flush_piece_kept flushed s.from) qs ps h.0.good h.1 h.3 in
      (kept.0, kept.1, pieces_apart ps ∙ ap apart (plains_kept (Some flushed) s.from qs ps h.3) ∙ h.0.are_apart, h.2)

  pub emit_kept : (s : WrittenSpan) (ps : List Piece) → IsQuoted text s
      → template_of text n under None s ≡ Ok ps → emit_template_fits families under.keyed under.has_value ps ≡ true
  emit_kept s ps within e =
      let h = emit_found s ps within e in
      let fits = emit_piece_fits families under.keyed under.has_value in
      both (list_all fits ps && are_apart ps) (is_short (written_template families ps)) (both (list_all fits ps) (are_apart ps) h.0 h.2)
      (emit_short text n numbered under s ps within.short e)

  pub emit_suits : (s : WrittenSpan) (ps : List Piece) → IsQuoted text s
      → template_of text n under None s ≡ Ok ps → list_all (piece_suits under.has_item true) ps ≡ true
  emit_suits s ps within e = (emit_found s ps within e).1

  pub flush_kept : (flushed : ℕ) (s : WrittenSpan) (ps : List Piece) → IsQuoted text s
      → template_of text n under (Some flushed) s ≡ Ok ps → flush_template_fits families flushed under.has_value ps ≡ true
  flush_kept flushed s ps within e =
      let h = flush_found flushed s ps within e in
      let fits = flush_piece_fits families flushed under.has_value in
      both (list_all fits ps && are_apart ps) (is_short (written_template families ps)) (both (list_all fits ps) (are_apart ps) h.0 h.2) h.3

  pub flush_suits : (flushed : ℕ) (s : WrittenSpan) (ps : List Piece) → IsQuoted text s
      → template_of text n under (Some flushed) s ≡ Ok ps → list_all (piece_suits under.has_item (is_version_3 n)) ps ≡ true
  flush_suits flushed s ps within e = (flush_found flushed s ps within e).1
