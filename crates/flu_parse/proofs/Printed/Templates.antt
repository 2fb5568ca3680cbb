-- A template that was printed is read as that template.
use Rattle.std.proofs.Common.{◌≡◌, ◌<◌, ◌+◌, ℕ, Bool, true, false, ◌&&◌, ◌||◌, List, [], ◌∷◌, ◌++◌, length, Option, Some, None, Ok, refl, sym, ap, subst, ◌∙◌}
use Rattle.std.proofs.Common.{append_assoc, length-append, arith}
use Rattle.std.specs.Prelude.{nat_lt, not, ◌==◌, is_some, slice_get, codes, if◌then◌else◌}
use Rattle.std.specs.List.{list_all}
use Rattle.std.specs.Str.{IsUtf8, bytes_eq}
use Rattle.std.proofs.lemmas.List.{append-nil}
use Rattle.flu_lemmas.proofs.Tests.{and_left, and_right, both, not_true}
use Rattle.flu_lemmas.proofs.Booleans.{three_left, three_middle, three_right}
use Rattle.flu_lemmas.proofs.Elements.{list_all_weaker}
use Rattle.flu_lemmas.specs.Spans.{is_boundary}
use Rattle.flu_lemmas.proofs.Loops.{collect}
use Rattle.flu_lemmas.proofs.Spans.{Place, before_ascii, after_ascii, spelled_between}
use Rattle.flu_model.specs.declared.jobs.Family.{Family}
use Rattle.flu_model.specs.declared.jobs.At.{At}
use Rattle.flu_model.specs.declared.jobs.CellRef.{CellRef}
use Rattle.flu_model.specs.declared.jobs.Piece.{Piece}
use Rattle.flu_model.specs.declared.jobs.Piece.TheVariants as piece
use Rattle.flu_model.specs.Rules.{is_declared, is_plain_byte, is_plain, ref_fits, follows_plain, are_apart, is_short}
use Rattle.flu_model.specs.Templates.{family_name, written_key, written_piece, written_template}
use Rattle.flu_text.specs.declared.written.WrittenSpan.{WrittenSpan}
use Rattle.flu_names.specs.Names.{is_name, is_name_byte}
use Rattle.flu_layout.specs.Spelling.{name_of}
use Rattle.flu_parse.specs.declared.faults.JobFault.TheVariants as f
use Rattle.flu_parse.specs.declared.names.FamilyHead.{FamilyHead}
use Rattle.flu_parse.specs.declared.names.KindHead.{KindHead}
use Rattle.flu_parse.specs.declared.pieces.WrittenPiece.{WrittenPiece}
use Rattle.flu_parse.specs.declared.pieces.WrittenPiece.TheVariants as p
use Rattle.flu_parse.specs.Faults.{Found, ◌>>=◌, ◌>>◌, unless, each}
use Rattle.flu_parse.specs.Naming.{Naming, is_version_3, look_up, known}
use Rattle.flu_parse.specs.Cells.{brackets_fit, at_of}
use Rattle.flu_parse.specs.Templates.{span, Template, scan, field_at, template_at, known_name, known_names, own_key_fits, read_fits, piece_fits, family_piece}
use Rattle.flu_parse.specs.Templates.{piece_of, pieces_of, may_be_printed, template_of}
use Rattle.flu_parse.proofs.Printed.Quotes.{Quoted, name_bytes, inside_stands}
use Rattle.flu_parse.proofs.Printed.LaidCells.{family_at, family_named}
use Rattle.flu_parse.proofs.Printed.LaidTexts.{declared_at}
use Rattle.flu_parse.proofs.Printed.ReadTerms.{family_head, FamiliesKnown, ItemsKnown}
use Rattle.flu_parse.proofs.Kept.Versions.{at_suits}
use Rattle.flu_parse.proofs.Printed.Scans.{outside, whole_template, no_brace, plain_part, scan_plain, scan_field, part_is, scan_end}
use Rattle.flu_parse.proofs.Printed.Fields.{word_between, FieldIs, read_field, field_of_word, field_of_item, field_of_cell, field_of_ref, field_of_family}
use Rattle.flu_parse.proofs.Printed.Fields.{name_no_brace, ref_closed}

-- a plain piece that is still open, and the pieces behind it
abbrev pub with_open : List ℕ → List Piece → List Piece
with_open [] ps = ps
with_open (b ∷ pend) ps = piece.Plain (b ∷ pend) ∷ ps

-- a family that is not the one of a number
abbrev pub other_than : ℕ → Option ℕ → Bool
other_than f None = true
other_than f (Some g) = not (f == g)

module _ (whole : List ℕ) (utf8 : IsUtf8 whole) (families : List Family) (names : list_all (λ (f : Family). is_name f.name) families ≡ true) (n : Naming)
    (known_families : FamiliesKnown families n) (under : KindHead) (flushed : Option ℕ) (at : ℕ) where
  abbrev in_flush : Bool
  in_flush = is_some flushed

  -- a written piece is the piece that was printed
  record PieceIs (q : WrittenPiece) (r : Piece) : Type 0 where
    known : known_name whole n at q ≡ Ok tt
    fits : piece_fits whole n under in_flush q ≡ true
    means : piece_of whole n under flushed at q ≡ Ok r

  abbrev ArePieces : List WrittenPiece → List Piece → Type 0
  ArePieces [] [] = Unit {0}
  ArePieces [] (r ∷ rs) = ⊥
  ArePieces (q ∷ qs) [] = ⊥
  ArePieces (q ∷ qs) (r ∷ rs) = PieceIs q r × ArePieces qs rs

  -- the bytes from a place on, where a plain piece began at a start, are scanned to these pieces
  record Scanned (start place : ℕ) (bytes : List ℕ) (expected : List Piece) : Type 0 where
    pieces : List WrittenPiece
    scanned : (done : List WrittenPiece) → scan (field_at whole n.version in_flush) (outside done start) place bytes ≡ whole_template (done ++ pieces)
    are : ArePieces pieces expected

  plain_is : (t : List ℕ) (start place : ℕ) → name_of whole (span start place) ≡ t → PieceIs (p.Plain (span start place)) (piece.Plain t)
  unfolding known_name piece_of
  plain_is t start place e = record { known = refl; fits = refl; means = ap (λ t. Ok (piece.Plain t)) e }

  -- what is still open, in front of what follows
  pend_are : (pend : List ℕ) (start place : ℕ) (qs : List WrittenPiece) (rs : List Piece) → name_of whole (span start place) ≡ pend → ArePieces qs rs
      → ArePieces (plain_part pend start place ++ qs) (with_open pend rs)
  pend_are [] start place qs rs e h = h
  pend_are (b ∷ pend) start place qs rs e h = (plain_is (b ∷ pend) start place e, h)

  -- where a plain piece stands that is still open: it began at a start, and here is the place behind it
  record Opened (before pend after : List ℕ) (start place : ℕ) : Type 0 where
    is : Place whole before (pend ++ after) start
    size : place ≡ start + length pend
    begins : is_boundary whole start ≡ true

  pend_spelled : (before pend : List ℕ) (b : ℕ) (after : List ℕ) (start place : ℕ) → Opened before pend (b ∷ after) start place → b < 128
      → name_of whole (span start place) ≡ pend
  pend_spelled before pend b after start place o ascii =
      let is : whole ≡ (before ++ pend) ++ (b ∷ after) = o.is.is ∙ simp append_assoc in
      let here : place ≡ length (before ++ pend) = omega (arith, o.size, o.is.here, length-append before pend) in
      spelled_between whole before pend (b ∷ after) start place o.is o.size o.begins
      (before_ascii whole (before ++ pend) b after place (record { is = is; here = here }) ascii)

  -- a field: its word stands in braces, and then come the pieces that are left
  scan_one : (before pend word more after : List ℕ) (start place : ℕ) (r : Piece) (rs : List Piece) (q : WrittenPiece)
      → Opened before pend (123 ∷ (word ++ (125 ∷ (more ++ after)))) start place → list_all no_brace word ≡ true
      → field_at whole n.version in_flush (place + 1) (place + 1 + length word) ≡ Some q → PieceIs q r
      → Scanned (place + 1 + length word + 1) (place + 1 + length word + 1) more rs
      → Scanned start place (123 ∷ (word ++ (125 ∷ more))) (with_open pend (r ∷ rs))
  scan_one before pend word more after start place r rs q o closed found is rest =
      let part : List WrittenPiece = plain_part pend start place in
      record {
        pieces = part ++ (q ∷ rest.pieces);
        scanned = λ done.
            scan_field (field_at whole n.version in_flush) done start place word more q closed found
            ∙ ap (λ l. scan (field_at whole n.version in_flush) (outside (l ++ q ∷ []) (place + 1 + length word + 1)) (place + 1 + length word + 1) more)
            (part_is (field_at whole n.version in_flush) done pend start place o.size)
            ∙ rest.scanned ((done ++ part) ++ q ∷ [])
            ∙ ap whole_template (let same : ((done ++ part) ++ q ∷ []) ++ rest.pieces ≡ done ++ (part ++ (q ∷ rest.pieces)) = simp append_assoc in same);
        are = pend_are pend start place (q ∷ rest.pieces) (r ∷ rs) (pend_spelled before pend 123 (word ++ (125 ∷ (more ++ after))) start place o
            (omega arith)) (is, rest.are);
      }

  -- where a field's word stands
  record FieldAt (word more after : List ℕ) (place : ℕ) : Type 0 where
    before : List ℕ
    word_at : Place whole before (word ++ (125 ∷ (more ++ after))) (place + 1)
    begins : is_boundary whole (place + 1) ≡ true
    next : Opened ((before ++ word) ++ 125 ∷ []) [] (more ++ after) (place + 1 + length word + 1) (place + 1 + length word + 1)

  field_place : (before pend word more after : List ℕ) (start place : ℕ) → Opened before pend (123 ∷ (word ++ (125 ∷ (more ++ after)))) start place
      → FieldAt word more after place
  field_place before pend word more after start place o =
      let brace_is : whole ≡ (before ++ pend) ++ (123 ∷ (word ++ (125 ∷ (more ++ after)))) = o.is.is ∙ simp append_assoc in
      let brace_here : place ≡ length (before ++ pend) = omega (arith, o.size, o.is.here, length-append before pend) in
      let front : List ℕ = (before ++ pend) ++ 123 ∷ [] in
      let word_is : whole ≡ front ++ (word ++ (125 ∷ (more ++ after))) = brace_is ∙ simp append_assoc in
      let word_here : place + 1 ≡ length front = omega (arith, brace_here, length-append (before ++ pend) (123 ∷ [])) in
      let close_is : whole ≡ (front ++ word) ++ (125 ∷ (more ++ after)) = word_is ∙ simp append_assoc in
      let close_here : place + 1 + length word ≡ length (front ++ word) = omega (arith, word_here, length-append front word) in
      let next_is : whole ≡ ((front ++ word) ++ 125 ∷ []) ++ (more ++ after) = close_is ∙ simp append_assoc in
      let next_here : place + 1 + length word + 1 ≡ length ((front ++ word) ++ 125 ∷ []) =
      omega (arith, close_here, length-append (front ++ word) (125 ∷ [])) in
      record {
        before = front;
        word_at = record { is = word_is; here = word_here };
        begins = after_ascii whole (before ++ pend) 123 (word ++ (125 ∷ (more ++ after))) place utf8 (record { is = brace_is; here = brace_here })
            (omega arith);
        next = record {
          is = record { is = next_is; here = next_here };
          size = (let same : place + 1 + length word + 1 ≡ place + 1 + length word + 1 + 0 = omega arith in same);
          begins = after_ascii whole (front ++ word) 125 (more ++ after) (place + 1 + length word) utf8 (record { is = close_is; here = close_here })
              (omega arith);
        };
      }

  -- a family that is not the flushed one
  abbrev pub is_other : ℕ → Bool
  is_other f = other_than f flushed

  -- what a piece keeps, in an emit or in a flush
  abbrev pub piece_ok : Piece → Bool
  piece_ok (piece.Plain t) = is_plain t
  piece_ok piece.Value = under.has_value
  piece_ok piece.Key = is_some flushed || under.keyed
  piece_ok piece.Item = under.has_item
  piece_ok piece.Time = true
  piece_ok (piece.Read r) = not (is_some flushed) && (ref_fits families under.keyed r && at_suits under.has_item r.at)
  piece_ok piece.CellValue = is_some flushed
  piece_ok (piece.FamilyCell f) = is_some flushed && (is_declared (slice_get families f) && is_other f && is_version_3 n)

  -- behind a plain piece that is open no other stands
  abbrev IsApart : List ℕ → List Piece → Type 0
  IsApart [] rs = Unit {0}
  IsApart (b ∷ pend) rs = follows_plain rs ≡ false

  apart_of : (t : List ℕ) (rs : List Piece) → follows_plain rs ≡ false → IsApart t rs
  apart_of [] rs h = tt
  apart_of (b ∷ t) rs h = h

  open_some : (t : List ℕ) (rs : List Piece) → nat_lt 0 (length t) ≡ true → with_open t rs ≡ piece.Plain t ∷ rs
  open_some [] rs h = absurd cc
  open_some (b ∷ t) rs h = refl

  value_is : under.has_value ≡ true → PieceIs p.Value piece.Value
  unfolding known_name piece_of
  value_is h = record { known = refl; fits = h; means = refl }

  key_is : (in_flush || under.keyed) ≡ true → PieceIs p.Key piece.Key
  unfolding known_name piece_of
  key_is h = record { known = refl; fits = h; means = refl }

  item_is : ItemsKnown n under → under.has_item ≡ true → PieceIs p.Item piece.Item
  unfolding known_name piece_of
  item_is items h = record { known = refl; fits = items ∙ h; means = refl }

  time_is : PieceIs p.Time piece.Time
  unfolding known_name piece_of
  time_is = record { known = refl; fits = refl; means = refl }

  cell_is : PieceIs p.CellValue piece.CellValue
  unfolding known_name piece_of
  cell_is = record { known = refl; fits = refl; means = refl }

  read_is : (r : CellRef) (family : Family) (from to : ℕ) → slice_get families r.family ≡ Some family
      → (w : FieldIs whole n under (family_name (slice_get families r.family)) family.keyed r.at from to) → PieceIs (p.Read w.written) (piece.Read r)
  unfolding known_name piece_of
  read_is r family from to found w =
      let head : FamilyHead = family_head r.family family in
      let look : look_up (name_of whole w.written.family) n.families ≡ Some head =
      ap (λ name. look_up name n.families) (w.named ∙ ap family_name found) ∙ known_families.declared r.family family found in
      record {
        known = ap (λ o. known at o >>= λ _. Ok tt) look;
        fits = ap (read_fits n under w.written.key) look ∙ both (brackets_fit family.keyed w.written.key) (own_key_fits n under w.written.key) w.brackets w.own;
        means =
            ap (λ o. known at o >>= λ family. at_of n under w.written.key >>= λ a. Ok (piece.Read (record { family = family.number; at = a }))) look
            ∙ ap (λ (found : Found At). found >>= λ a. Ok (piece.Read (record { family = r.family; at = a }))) w.means;
      }

  -- the name of another family
  family_piece_is : (i : ℕ) → is_some flushed ≡ true → is_other i ≡ true → family_piece flushed i ≡ piece.FamilyCell i
  family_piece_is i some other = by flushed some other
    where
      by : (o : Option ℕ) → is_some o ≡ true → other_than i o ≡ true → family_piece o i ≡ piece.FamilyCell i
      by None some other = refl
      by (Some g) some other = ap (λ b. if b then piece.CellValue else piece.FamilyCell i) (not_true (i == g) other)

  family_is : (i : ℕ) (family : Family) (from to : ℕ) → slice_get families i ≡ Some family → name_of whole (span from to) ≡ family.name
      → family_piece flushed i ≡ piece.FamilyCell i → PieceIs (p.Family (span from to)) (piece.FamilyCell i)
  unfolding known_name piece_of
  family_is i family from to found named same =
      let head : FamilyHead = family_head i family in
      let look : look_up (name_of whole (span from to)) n.families ≡ Some head =
      ap (λ name. look_up name n.families) named ∙ known_families.declared i family found in
      record {
        known = ap (λ o. known at o >>= λ _. Ok tt) look;
        fits = refl;
        means = ap (λ o. known at o >>= λ family. Ok (family_piece flushed family.number)) look ∙ ap Ok same;
      }

  scan_pieces : ItemsKnown n under → (rs : List Piece) (before pend after : List ℕ) (start place : ℕ)
      → Opened before pend (written_template families rs ++ 34 ∷ after) start place
      → IsApart pend rs → list_all piece_ok rs ≡ true → are_apart rs ≡ true → Scanned start place (written_template families rs) (with_open pend rs)
  scan_pieces items [] before pend after start place o apart ok own = record {
    pieces = plain_part pend start place ++ [];
    scanned = λ done. scan_end (field_at whole n.version in_flush) done pend start place o.size
        ∙ ap (λ l. whole_template (done ++ l)) (sym (append-nil (plain_part pend start place)));
    are = pend_are pend start place [] [] (pend_spelled before pend 34 after start place o (omega arith)) tt;
  }
  scan_pieces items (piece.Plain t ∷ rs) before (b ∷ pend) after start place o apart ok own = absurd cc
  scan_pieces items (piece.Plain t ∷ rs) before [] after start place o apart ok own =
      let plain = and_left (is_plain t) (list_all piece_ok rs) ok in
      let more : List ℕ = written_template families rs in
      let next : Opened before t (more ++ 34 ∷ after) start (place + length t) = record {
        is = record { is = o.is.is ∙ ap (λ l. before ++ l) (append_assoc t more (34 ∷ after)); here = o.is.here };
        size = (let same : place + length t ≡ start + length t = omega (arith, o.size) in same);
        begins = o.begins;
      } in
      let rest = scan_pieces items rs before t after start (place + length t) next
      (apart_of t rs (not_true (follows_plain rs) (and_left (not (follows_plain rs)) (are_apart rs) own)))
      (and_right (is_plain t) (list_all piece_ok rs) ok) (and_right (not (follows_plain rs)) (are_apart rs) own) in
      record {
        pieces = rest.pieces;
        scanned = λ done. scan_plain (field_at whole n.version in_flush) done start place t more
            (and_right (nat_lt 0 (length t)) (list_all is_plain_byte t) plain)
            ∙ rest.scanned done;
        are = subst (ArePieces rest.pieces) (open_some t rs (and_left (nat_lt 0 (length t)) (list_all is_plain_byte t) plain)) rest.are;
      }
  scan_pieces items (piece.Value ∷ rs) before pend after start place o apart ok own =
      let more : List ℕ = written_template families rs in
      let f = field_place before pend (codes "value") more (34 ∷ after) start place o in
      scan_one before pend (codes "value") more (34 ∷ after) start place piece.Value rs p.Value o refl
      (field_of_word whole n.version in_flush (place + 1) (place + 1 + 5) (codes "value")
      (word_between whole f.before (codes "value") (more ++ 34 ∷ after) (place + 1) (place + 1 + 5) f.word_at refl f.begins))
      (value_is (and_left under.has_value (list_all piece_ok rs) ok))
      (scan_pieces items rs ((f.before ++ codes "value") ++ 125 ∷ []) [] after (place + 1 + 5 + 1) (place + 1 + 5 + 1) f.next tt
      (and_right under.has_value (list_all piece_ok rs) ok) own)
  scan_pieces items (piece.Key ∷ rs) before pend after start place o apart ok own =
      let more : List ℕ = written_template families rs in
      let f = field_place before pend (codes "key") more (34 ∷ after) start place o in
      scan_one before pend (codes "key") more (34 ∷ after) start place piece.Key rs p.Key o refl
      (field_of_word whole n.version in_flush (place + 1) (place + 1 + 3) (codes "key")
      (word_between whole f.before (codes "key") (more ++ 34 ∷ after) (place + 1) (place + 1 + 3) f.word_at refl f.begins))
      (key_is (and_left (in_flush || under.keyed) (list_all piece_ok rs) ok))
      (scan_pieces items rs ((f.before ++ codes "key") ++ 125 ∷ []) [] after (place + 1 + 3 + 1) (place + 1 + 3 + 1) f.next tt
      (and_right (in_flush || under.keyed) (list_all piece_ok rs) ok) own)
  scan_pieces items (piece.Item ∷ rs) before pend after start place o apart ok own =
      let more : List ℕ = written_template families rs in
      let has : under.has_item ≡ true = and_left under.has_item (list_all piece_ok rs) ok in
      let f = field_place before pend (codes "item") more (34 ∷ after) start place o in
      scan_one before pend (codes "item") more (34 ∷ after) start place piece.Item rs p.Item o refl
      (field_of_item whole n.version (is_some flushed) (place + 1) (place + 1 + 4) (and_left (is_version_3 n) under.has_item (items ∙ has))
      (word_between whole f.before (codes "item") (more ++ 34 ∷ after) (place + 1) (place + 1 + 4) f.word_at refl f.begins))
      (item_is items has)
      (scan_pieces items rs ((f.before ++ codes "item") ++ 125 ∷ []) [] after (place + 1 + 4 + 1) (place + 1 + 4 + 1) f.next tt
      (and_right under.has_item (list_all piece_ok rs) ok) own)
  scan_pieces items (piece.Time ∷ rs) before pend after start place o apart ok own =
      let more : List ℕ = written_template families rs in
      let f = field_place before pend (codes "time") more (34 ∷ after) start place o in
      scan_one before pend (codes "time") more (34 ∷ after) start place piece.Time rs p.Time o refl
      (field_of_word whole n.version in_flush (place + 1) (place + 1 + 4) (codes "time")
      (word_between whole f.before (codes "time") (more ++ 34 ∷ after) (place + 1) (place + 1 + 4) f.word_at refl f.begins))
      time_is
      (scan_pieces items rs ((f.before ++ codes "time") ++ 125 ∷ []) [] after (place + 1 + 4 + 1) (place + 1 + 4 + 1) f.next tt ok own)
  scan_pieces items (piece.CellValue ∷ rs) before pend after start place o apart ok own =
      let more : List ℕ = written_template families rs in
      let f = field_place before pend (codes "cell") more (34 ∷ after) start place o in
      scan_one before pend (codes "cell") more (34 ∷ after) start place piece.CellValue rs p.CellValue o refl
      (ap (λ b. field_at whole n.version b (place + 1) (place + 1 + 4)) (and_left in_flush (list_all piece_ok rs) ok)
      ∙ field_of_cell whole n.version (place + 1) (place + 1 + 4)
      (word_between whole f.before (codes "cell") (more ++ 34 ∷ after) (place + 1) (place + 1 + 4) f.word_at refl f.begins))
      cell_is
      (scan_pieces items rs ((f.before ++ codes "cell") ++ 125 ∷ []) [] after (place + 1 + 4 + 1) (place + 1 + 4 + 1) f.next tt
      (and_right in_flush (list_all piece_ok rs) ok) own)
  scan_pieces items (piece.Read r ∷ rs) before pend after start place o apart ok own =
      let more : List ℕ = written_template families rs in
      let name : List ℕ = family_name (slice_get families r.family) in
      let word : List ℕ = name ++ written_key r.at in
      let to : ℕ = place + 1 + length word in
      let ref_ok : Bool = ref_fits families under.keyed r in
      let suits_ok : Bool = at_suits under.has_item r.at in
      let here = and_left (not in_flush && (ref_ok && suits_ok)) (list_all piece_ok rs) ok in
      let good = and_right (not in_flush) (ref_ok && suits_ok) here in
      let family = family_at families under.keyed r (and_left ref_ok suits_ok good) in
      let named = family_named families names r.family family.family family.found in
      let bytes : written_piece families (piece.Read r) ++ more ≡ 123 ∷ (word ++ (125 ∷ more)) = ap (λ l. 123 ∷ l) (append_assoc word (125 ∷ []) more) in
      let opened : Opened before pend (123 ∷ (word ++ (125 ∷ (more ++ 34 ∷ after)))) start place = record {
        is = record {
          is = o.is.is ∙ ap (λ l. before ++ (pend ++ l)) (ap (λ l. l ++ 34 ∷ after) bytes
              ∙ ap (λ l. 123 ∷ l) (append_assoc word (125 ∷ more) (34 ∷ after)));
          here = o.is.here;
        };
        size = o.size;
        begins = o.begins;
      } in
      let f = field_place before pend word more (34 ∷ after) start place opened in
      let field = read_field whole utf8 n under items f.before name (more ++ 34 ∷ after)
      (place + 1) to named f.begins family.family.keyed r.at family.fits (and_right ref_ok suits_ok good) f.word_at refl in
      let no_item : (is_version_3 n && bytes_eq name (codes "item")) ≡ false =
      ap (λ o. is_version_3 n && bytes_eq (family_name o) (codes "item")) family.found ∙ known_families.not_item r.family family.family family.found in
      let found : field_at whole n.version in_flush (place + 1) to ≡ Some (p.Read field.written) =
      ap (λ b. field_at whole n.version b (place + 1) to) (not_true in_flush (and_left (not in_flush) (ref_ok && suits_ok) here))
      ∙ field_of_ref whole n.version (place + 1) to name r.at named no_item
      (word_between whole f.before word (more ++ 34 ∷ after) (place + 1) to f.word_at refl f.begins)
      ∙ field.read in
      let rest = scan_pieces items rs ((f.before ++ word) ++ 125 ∷ []) [] after (to + 1) (to + 1) f.next tt
      (and_right (not in_flush && (ref_ok && suits_ok)) (list_all piece_ok rs) ok) own in
      subst (λ l. Scanned start place l (with_open pend (piece.Read r ∷ rs))) (sym bytes)
      (scan_one before pend word more (34 ∷ after) start place (piece.Read r) rs (p.Read field.written) opened
      (ref_closed name r.at family.family.keyed under.keyed named family.fits) found (read_is r family.family (place + 1) to family.found field) rest)
  scan_pieces items (piece.FamilyCell i ∷ rs) before pend after start place o apart ok own =
      let more : List ℕ = written_template families rs in
      let word : List ℕ = family_name (slice_get families i) in
      let to : ℕ = place + 1 + length word in
      let declared : Bool = is_declared (slice_get families i) in
      let here = and_left (in_flush && (declared && is_other i && is_version_3 n)) (list_all piece_ok rs) ok in
      let some : in_flush ≡ true = and_left in_flush (declared && is_other i && is_version_3 n) here in
      let good = and_right in_flush (declared && is_other i && is_version_3 n) here in
      let family = declared_at families i (three_left declared (is_other i) (is_version_3 n) good) in
      let named = family_named families names i family.family family.found in
      let bytes : written_piece families (piece.FamilyCell i) ++ more ≡ 123 ∷ (word ++ (125 ∷ more)) = ap (λ l. 123 ∷ l) (append_assoc word (125 ∷ []) more) in
      let opened : Opened before pend (123 ∷ (word ++ (125 ∷ (more ++ 34 ∷ after)))) start place = record {
        is = record {
          is = o.is.is ∙ ap (λ l. before ++ (pend ++ l)) (ap (λ l. l ++ 34 ∷ after) bytes
              ∙ ap (λ l. 123 ∷ l) (append_assoc word (125 ∷ more) (34 ∷ after)));
          here = o.is.here;
        };
        size = o.size;
        begins = o.begins;
      } in
      let f = field_place before pend word more (34 ∷ after) start place opened in
      let is_word = word_between whole f.before word (more ++ 34 ∷ after) (place + 1) to f.word_at refl f.begins in
      let no_item : (is_version_3 n && bytes_eq word (codes "item")) ≡ false =
      ap (λ o. is_version_3 n && bytes_eq (family_name o) (codes "item")) family.found ∙ known_families.not_item i family.family family.found in
      let found : field_at whole n.version in_flush (place + 1) to ≡ Some (p.Family (span (place + 1) to)) =
      ap (λ b. field_at whole n.version b (place + 1) to) some
      ∙ field_of_family whole n.version (place + 1) to word named no_item (three_right declared (is_other i) (is_version_3 n) good) is_word in
      let is = family_is i family.family (place + 1) to family.found (is_word ∙ ap family_name family.found)
      (family_piece_is i some (three_middle declared (is_other i) (is_version_3 n) good)) in
      let rest = scan_pieces items rs ((f.before ++ word) ++ 125 ∷ []) [] after (to + 1) (to + 1) f.next tt
      (and_right (in_flush && (declared && is_other i && is_version_3 n)) (list_all piece_ok rs) ok) own in
      subst (λ l. Scanned start place l (with_open pend (piece.FamilyCell i ∷ rs))) (sym bytes)
      (scan_one before pend word more (34 ∷ after) start place (piece.FamilyCell i) rs (p.Family (span (place + 1) to)) opened
      (list_all_weaker is_name_byte no_brace word name_no_brace (name_bytes word named)) found is rest)

  -- ---- the whole template

  all_known : (qs : List WrittenPiece) (rs : List Piece) → ArePieces qs rs → known_names whole n at qs ≡ Ok tt
  unfolding each
  all_known [] [] h = refl
  all_known [] (r ∷ rs) h = absurd h
  all_known (q ∷ qs) [] h = absurd h
  all_known (q ∷ qs) (r ∷ rs) h = ap (λ (found : Found (Unit {0})). found >>= λ done. each (λ done q. known_name whole n at q) done qs) h.0.known
      ∙ all_known qs rs h.1

  all_fit : (qs : List WrittenPiece) (rs : List Piece) → ArePieces qs rs → list_all (piece_fits whole n under in_flush) qs ≡ true
  all_fit [] [] h = refl
  all_fit [] (r ∷ rs) h = absurd h
  all_fit (q ∷ qs) [] h = absurd h
  all_fit (q ∷ qs) (r ∷ rs) h = both (piece_fits whole n under in_flush q) (list_all (piece_fits whole n under in_flush) qs) h.0.fits (all_fit qs rs h.1)

  all_mean : (done : List Piece) (qs : List WrittenPiece) (rs : List Piece) → ArePieces qs rs
      → each (collect (piece_of whole n under flushed at)) done qs ≡ Ok (done ++ rs)
  unfolding each
  all_mean done [] [] h = ap Ok (sym (append-nil done))
  all_mean done [] (r ∷ rs) h = absurd h
  all_mean done (q ∷ qs) [] h = absurd h
  all_mean done (q ∷ qs) (r ∷ rs) h =
      ap (λ (found : Found Piece). (found >>= λ y. Ok (done ++ y ∷ [])) >>= λ t. each (collect (piece_of whole n under flushed at)) t qs) h.0.means
      ∙ all_mean (done ++ r ∷ []) qs rs h.1
      ∙ ap Ok (append_assoc done (r ∷ []) rs)

  pub read_template : ItemsKnown n under → (rs : List Piece) (s : WrittenSpan) → s.from ≡ at → Quoted whole (written_template families rs) s
      → list_all piece_ok rs ≡ true → are_apart rs ≡ true → is_short (written_template families rs) ≡ true → template_of whole n under flushed s ≡ Ok rs
  unfolding template_of template_at
  read_template items rs s here q ok own short =
      let start : ℕ = s.from + 1 in
      let opened : Opened q.before [] (written_template families rs ++ 34 ∷ q.after) start start =
      record { is = q.place; size = (let same : start ≡ start + 0 = omega arith in same); begins = q.begins } in
      let r = scan_pieces items rs q.before [] q.after start start opened tt ok own in
      let template : template_at whole n.version in_flush s ≡ whole_template r.pieces =
      ap (scan (field_at whole n.version in_flush) (outside [] start) start) (inside_stands whole (written_template families rs) s q) ∙ r.scanned [] in
      let end : ℕ → List Piece → Found (List Piece) = λ k pieces. unless (may_be_printed n flushed pieces) (f.WrongShape k) >> Ok pieces in
      ap (λ (t : Template). known_names whole n s.from t.pieces >> (unless (t.whole && list_all (piece_fits whole n under in_flush) t.pieces)
      (f.WrongShape s.from) >> (pieces_of whole n under flushed s.from t.pieces >>= end s.from))) template
      ∙ ap (λ k. known_names whole n k r.pieces >> (unless (list_all (piece_fits whole n under in_flush) r.pieces)
      (f.WrongShape k) >> (pieces_of whole n under flushed k r.pieces >>= end k))) here
      ∙ ap (λ (found : Found (Unit {0})). found >> (unless (list_all (piece_fits whole n under in_flush) r.pieces)
      (f.WrongShape at) >> (pieces_of whole n under flushed at r.pieces >>= end at))) (all_known r.pieces rs r.are)
      ∙ ap (λ b. unless b (f.WrongShape at) >> (pieces_of whole n under flushed at r.pieces >>= end at)) (all_fit r.pieces rs r.are)
      ∙ ap (λ (found : Found (List Piece)). found >>= end at) (all_mean [] r.pieces rs r.are)
      ∙ ap (λ b. unless b (f.WrongShape at) >> Ok rs) (printable flushed)
    where
      printable : (o : Option ℕ) → may_be_printed n o rs ≡ true
      printable None = refl
      printable (Some g) = ap is_short (known_families.all rs) ∙ short
