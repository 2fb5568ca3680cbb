-- The scan of a template finds the pieces into which its bytes are cut at their braces, and the other way round.
use Rattle.std.proofs.Common.{◌≡◌, ℕ, suc, ◌+◌, Bool, true, false, List, [], ◌∷◌, ◌++◌, length, Option}
use Rattle.std.proofs.Common.{Some, None, refl, sym, ap, subst, ◌∙◌, append_assoc, length-append, arith}
use Rattle.std.specs.Prelude.{nat_lt, not, ◌==◌, if◌then◌else◌, IsTrue}
use Rattle.std.specs.List.{list_all}
use Rattle.std.proofs.lemmas.Grind.{common_steps}
use Rattle.std.proofs.lemmas.List.{append-nil}
use Rattle.flu_lemmas.proofs.Elements.{list_all_push}
use Rattle.flu_lemmas.proofs.Tests.{and_left, and_right, both, not_true, lt_true, true_eq}
use Rattle.flu_text.specs.declared.written.WrittenSpan.{WrittenSpan}
use Rattle.flu_layout.specs.Spelling.{inside}
use Rattle.flu_parse.specs.declared.pieces.WrittenPiece.{WrittenPiece}
use Rattle.flu_parse.specs.declared.pieces.WrittenPiece.TheVariants as w
use Rattle.flu_parse.specs.Templates.{open_brace, close_brace, span, braced, field_at, Scan, Template, with_plain}
use Rattle.flu_parse.specs.Templates.{with_piece, scan_byte, continued, scan, scan_start, template_at}
use Rattle.flu_grammar.specs.Templates.{no_brace}

-- these bytes are cut, where what stands between two braces is told by its places
pub data AreCut (field : ℕ → ℕ → WrittenPiece) : Bool → ℕ → List ℕ → List WrittenPiece → Type 0 where
  cut_none : (plain_first : Bool) (at : ℕ) → AreCut field plain_first at [] []
  cut_plain : (at b : ℕ) (more rest : List ℕ) (pieces : List WrittenPiece) → IsTrue (list_all no_brace (b ∷ more))
      → AreCut field false (at + length (b ∷ more)) rest pieces
      → AreCut field true at ((b ∷ more) ++ rest) (w.Plain (span at (at + length (b ∷ more))) ∷ pieces)
  cut_field : (plain_first : Bool) (at : ℕ) (word rest : List ℕ) (pieces : List WrittenPiece) → IsTrue (list_all no_brace word)
      → AreCut field true (at + 1 + length word + 1) rest pieces
      → AreCut field plain_first at (open_brace ∷ (word ++ close_brace ∷ rest)) (field (at + 1) (at + 1 + length word) ∷ pieces)

-- what stands between two braces of a text
abbrev pub field_between : List ℕ → ℕ → Bool → ℕ → ℕ → WrittenPiece
field_between text version in_flush from to = braced (field_at text version in_flush from to)

-- between pieces, or within a field
abbrev outside : List WrittenPiece → ℕ → Scan
outside pieces start = record { pieces = pieces; start = start; in_field = false }

abbrev within_field : List WrittenPiece → ℕ → Scan
within_field pieces start = record { pieces = pieces; start = start; in_field = true }

-- a plain piece that is still open, where it has bytes
abbrev plain_part : List ℕ → ℕ → ℕ → List WrittenPiece
plain_part [] start place = []
plain_part (b ∷ pend) start place = w.Plain (span start place) ∷ []

module _ (field : ℕ → ℕ → Option WrittenPiece) where
  abbrev found : ℕ → ℕ → WrittenPiece
  found from to = braced (field from to)

  abbrev Cut : Bool → ℕ → List ℕ → List WrittenPiece → Type 0
  Cut plain_first at bytes pieces = AreCut found plain_first at bytes pieces

  part_is : (pieces : List WrittenPiece) (pend : List ℕ) (start place : ℕ) → place ≡ start + length pend
      → with_plain (outside pieces start) place ≡ pieces ++ plain_part pend start place
  part_is pieces [] start place e =
      let none : nat_lt start place ≡ false = grind (arith, common_steps) in
      ap (λ t. if t then pieces ++ w.Plain (span start place) ∷ [] else pieces) none ∙ sym (append-nil pieces)
  part_is pieces (b ∷ pend) start place e = ap (λ t. if t then pieces ++ w.Plain (span start place) ∷ [] else pieces) (lt_true start place (omega arith))

  -- ---- one byte

  one_byte : (s : Scan) (place b : ℕ) (more : List ℕ) (next : Scan) → scan_byte field s place b ≡ Some next
      → scan field s place (b ∷ more) ≡ scan field next (place + 1) more
  unfolding scan
  one_byte s place b more next e = ap (λ r. continued s r (λ next. scan field next (place + 1) more)) e

  plain_byte : (pieces : List WrittenPiece) (start place b : ℕ) → (b == open_brace) ≡ false → (b == close_brace) ≡ false
      → scan_byte field (outside pieces start) place b ≡ Some (outside pieces start)
  unfolding scan_byte
  plain_byte pieces start place b opens closes =
      ap (λ t. if t then Some (within_field (with_plain (outside pieces start) place) (place + 1)) else if b == close_brace then None else Some
      (outside pieces start)) opens
      ∙ ap (λ t. if t then None else Some (outside pieces start)) closes

  field_byte : (pieces : List WrittenPiece) (start place b : ℕ) → (b == open_brace) ≡ false → (b == close_brace) ≡ false
      → scan_byte field (within_field pieces start) place b ≡ Some (within_field pieces start)
  unfolding scan_byte
  field_byte pieces start place b opens closes =
      let now : Scan = within_field pieces start in
      ap (λ t. if t then Some (with_piece now place (braced (field start place))) else if b == open_brace then None else Some now) closes
      ∙ ap (λ t. if t then None else Some now) opens

  opening : (pieces : List WrittenPiece) (start place b : ℕ) → (b == open_brace) ≡ true
      → scan_byte field (outside pieces start) place b ≡ Some (within_field (with_plain (outside pieces start) place) (place + 1))
  unfolding scan_byte
  opening pieces start place b e =
      ap (λ t. if t then Some (within_field (with_plain (outside pieces start) place) (place + 1)) else if b == close_brace then None else Some
      (outside pieces start)) e

  closing : (pieces : List WrittenPiece) (start place b : ℕ) → (b == close_brace) ≡ true
      → scan_byte field (within_field pieces start) place b ≡ Some (outside (pieces ++ found start place ∷ []) (place + 1))
  unfolding scan_byte
  closing pieces start place b e =
      let now : Scan = within_field pieces start in
      ap (λ t. if t then Some (with_piece now place (braced (field start place))) else if b == open_brace then None else Some now) e

  faulty_close : (pieces : List WrittenPiece) (start place b : ℕ) → (b == open_brace) ≡ false → (b == close_brace) ≡ true
      → scan_byte field (outside pieces start) place b ≡ None
  unfolding scan_byte
  faulty_close pieces start place b opens closes =
      ap (λ t. if t then Some (within_field (with_plain (outside pieces start) place) (place + 1)) else if b == close_brace then None else Some
      (outside pieces start)) opens
      ∙ ap (λ t. if t then None else Some (outside pieces start)) closes

  faulty_open : (pieces : List WrittenPiece) (start place b : ℕ) → (b == open_brace) ≡ true → (b == close_brace) ≡ false
      → scan_byte field (within_field pieces start) place b ≡ None
  unfolding scan_byte
  faulty_open pieces start place b opens closes =
      let now : Scan = within_field pieces start in
      ap (λ t. if t then Some (with_piece now place (braced (field start place))) else if b == open_brace then None else Some now) closes
      ∙ ap (λ t. if t then None else Some now) opens

  -- ---- bytes without braces

  opens_not : (b : ℕ) → no_brace b ≡ true → (b == open_brace) ≡ false
  opens_not b h = not_true (b == open_brace) (and_left (not (b == open_brace)) (not (b == close_brace)) h)

  closes_not : (b : ℕ) → no_brace b ≡ true → (b == close_brace) ≡ false
  closes_not b h = not_true (b == close_brace) (and_right (not (b == open_brace)) (not (b == close_brace)) h)

  scan_plain : (pieces : List WrittenPiece) (start place : ℕ) (t more : List ℕ) → list_all no_brace t ≡ true
      → scan field (outside pieces start) place (t ++ more) ≡ scan field (outside pieces start) (place + length t) more
  scan_plain pieces start place [] more h = let same : place ≡ place + 0 = omega arith in ap (λ k. scan field (outside pieces start) k more) same
  scan_plain pieces start place (b ∷ t) more h =
      let plain = and_left (no_brace b) (list_all no_brace t) h in
      let same : place + 1 + length t ≡ place + suc (length t) = omega arith in
      one_byte (outside pieces start) place b (t ++ more) (outside pieces start) (plain_byte pieces start place b (opens_not b plain) (closes_not b plain))
      ∙ scan_plain pieces start (place + 1) t more (and_right (no_brace b) (list_all no_brace t) h)
      ∙ ap (λ k. scan field (outside pieces start) k more) same

  scan_word : (pieces : List WrittenPiece) (start place : ℕ) (word more : List ℕ) → list_all no_brace word ≡ true
      → scan field (within_field pieces start) place (word ++ more) ≡ scan field (within_field pieces start) (place + length word) more
  scan_word pieces start place [] more h = let same : place ≡ place + 0 = omega arith in ap (λ k. scan field (within_field pieces start) k more) same
  scan_word pieces start place (b ∷ word) more h =
      let plain = and_left (no_brace b) (list_all no_brace word) h in
      let same : place + 1 + length word ≡ place + suc (length word) = omega arith in
      one_byte (within_field pieces start) place b (word ++ more) (within_field pieces start) (field_byte pieces start place b (opens_not b plain)
      (closes_not b plain))
      ∙ scan_word pieces start (place + 1) word more (and_right (no_brace b) (list_all no_brace word) h)
      ∙ ap (λ k. scan field (within_field pieces start) k more) same

  -- ---- what is cut is scanned

  abbrev Whole : List WrittenPiece → Template
  Whole pieces = record { pieces = pieces; whole = true }

  pub cut_scanned : {plain_first : Bool} {at : ℕ} {bytes : List ℕ} {qs : List WrittenPiece} → AreCut found plain_first at bytes qs → (done : List WrittenPiece)
      (pend : List ℕ) (start : ℕ) → at ≡ start + length pend → (plain_first ≡ true → pend ≡ [])
      → scan field (outside done start) at bytes ≡ Whole ((done ++ plain_part pend start at) ++ qs)
  unfolding scan
  cut_scanned (cut_none plain_first at) done pend start place only =
      ap Whole (part_is done pend start at place ∙ sym (append-nil (done ++ plain_part pend start at)))
  cut_scanned (cut_plain at b more rest qs plain cut) done pend start place only =
      let none : pend ≡ [] = only refl in
      let same : start ≡ at = (let size = ap length none in omega (arith, place, size)) in
      let next : at + length (b ∷ more) ≡ start + length (b ∷ more) = ap (λ (m : ℕ). m + length (b ∷ more)) (sym same) in
      scan_plain done start at (b ∷ more) rest plain
      ∙ cut_scanned cut done (b ∷ more) start next (λ e. absurd cc)
      ∙ ap Whole (append_assoc done (w.Plain (span start (at + length (b ∷ more))) ∷ []) qs
      ∙ (λ i. done ++ (w.Plain (span (same i) (at + length (b ∷ more))) ∷ qs))
      ∙ ap (λ (l : List WrittenPiece). l ++ (w.Plain (span at (at + length (b ∷ more))) ∷ qs))
      (sym (append-nil done) ∙ ap (λ (l : List ℕ). done ++ plain_part l start at) (sym none)))
  cut_scanned (cut_field plain_first at word rest qs plain cut) done pend start place only =
      let inner = with_plain (outside done start) at in
      let q = found (at + 1) (at + 1 + length word) in
      let next = at + 1 + length word + 1 in
      let none_more : next ≡ next + 0 = omega arith in
      one_byte (outside done start) at open_brace (word ++ close_brace ∷ rest) (within_field inner (at + 1)) (opening done start at open_brace refl)
      ∙ scan_word inner (at + 1) (at + 1) word (close_brace ∷ rest) plain
      ∙ one_byte (within_field inner (at + 1)) (at + 1 + length word) close_brace rest (outside (inner ++ q ∷ []) next)
      (closing inner (at + 1) (at + 1 + length word) close_brace refl)
      ∙ cut_scanned cut (inner ++ q ∷ []) [] next none_more (λ e. refl)
      ∙ ap Whole (ap (λ (l : List WrittenPiece). l ++ qs) (append-nil (inner ++ q ∷ [])) ∙ append_assoc inner (q ∷ []) qs
      ∙ ap (λ (l : List WrittenPiece). l ++ (q ∷ qs)) (part_is done pend start at place))

  -- ---- what is scanned is cut

  record Scanned (done : List WrittenPiece) (plain_first : Bool) (at : ℕ) (bytes : List ℕ) (t : Template) : Type 0 where
    pieces : List WrittenPiece
    is : done ++ pieces ≡ t.pieces
    cut : AreCut found plain_first at bytes pieces

  -- where the plain bytes that are open end
  plain_ends : (done : List WrittenPiece) (pend : List ℕ) (start place : ℕ) (rest : List ℕ) (t : Template) → place ≡ start + length pend
      → list_all no_brace pend ≡ true → ((first : Bool) → Scanned (done ++ plain_part pend start place) first place rest t) → Scanned done true start
      (pend ++ rest) t
  plain_ends done [] start place rest t here plain more =
      let m = more true in
      let same : place ≡ start = omega (arith, here) in
      record {
        pieces = m.pieces;
        is = ap (λ (l : List WrittenPiece). l ++ m.pieces) (sym (append-nil done)) ∙ m.is;
        cut = subst (λ (p : ℕ). AreCut found true p rest m.pieces) same m.cut;
      }
  plain_ends done (b ∷ pend) start place rest t here plain more =
      let m = more false in
      record {
        pieces = w.Plain (span start (start + length (b ∷ pend))) ∷ m.pieces;
        is =
            (λ i. done ++ (w.Plain (span start (sym here i)) ∷ m.pieces)) ∙ sym (append_assoc done (w.Plain (span start place) ∷ []) m.pieces) ∙ m.is;
        cut = cut_plain start b pend rest m.pieces plain (subst (λ (p : ℕ). AreCut found false p rest m.pieces) here m.cut);
      }

  abbrev IsWhole : Template → Type 0
  IsWhole t = t.whole ≡ true

  -- both where the scan stands between pieces, and where it stands within a field that began at a place
  record Both (bytes : List ℕ) : Type 0 where
    between : (done : List WrittenPiece) (pend : List ℕ) (start place : ℕ) → place ≡ start + length pend → list_all no_brace pend ≡ true
        → IsWhole (scan field (outside done start) place bytes) → Scanned done true start (pend ++ bytes) (scan field (outside done start) place bytes)
    within : (done : List WrittenPiece) (word : List ℕ) (at place : ℕ) → place ≡ at + 1 + length word → list_all no_brace word ≡ true
        → IsWhole (scan field (within_field done (at + 1)) place bytes)
        → (first : Bool) → Scanned done first at (open_brace ∷ (word ++ bytes)) (scan field (within_field done (at + 1)) place bytes)

  not_brace : (b : ℕ) → (b == open_brace) ≡ false → (b == close_brace) ≡ false → no_brace b ≡ true
  not_brace b opens closes = both (not (b == open_brace)) (not (b == close_brace)) (ap not opens) (ap not closes)

  faulty : (s : Scan) (place b : ℕ) (bytes : List ℕ) → scan_byte field s place b ≡ None → IsWhole (scan field s place (b ∷ bytes)) → ⊥
  unfolding scan
  faulty s place b bytes e whole =
      let bad : false ≡ true = sym (ap (λ r. (continued s r (λ next. scan field next (place + 1) bytes)).whole) e) ∙ whole in
      (cc)

  scanned_none : Both []
  unfolding scan
  scanned_none = record {
    between = λ done pend start place here plain whole. plain_ends done pend start place [] (scan field (outside done start) place []) here plain
        (λ first. record {
          pieces = [];
          is = append-nil (done ++ plain_part pend start place) ∙ sym (part_is done pend start place here);
          cut = cut_none first place;
        });
    within = λ done word at place here plain whole first. (let bad : false ≡ true = whole in absurd cc);
  }

  between_more : (b : ℕ) (bytes : List ℕ) → Both bytes → (opens closes : Bool) → (b == open_brace) ≡ opens → (b == close_brace) ≡ closes
      → (done : List WrittenPiece) (pend : List ℕ) (start place : ℕ) → place ≡ start + length pend → list_all no_brace pend ≡ true
      → IsWhole (scan field (outside done start) place (b ∷ bytes)) → Scanned done true start (pend ++ b ∷ bytes) (scan field (outside done start) place
      (b ∷ bytes))
  between_more b bytes more true closes opens_is closes_is done pend start place here plain whole =
      let inner = with_plain (outside done start) place in
      let is : scan field (outside done start) place (b ∷ bytes) ≡ scan field (within_field inner (place + 1)) (place + 1) bytes =
      one_byte (outside done start) place b bytes (within_field inner (place + 1)) (opening done start place b opens_is) in
      let none_more : place + 1 ≡ place + 1 + 0 = omega arith in
      let byte : open_brace ≡ b = sym (true_eq b open_brace opens_is) in
      plain_ends done pend start place (b ∷ bytes) (scan field (outside done start) place (b ∷ bytes)) here plain (λ first. (
      let got = more.within inner [] place (place + 1) none_more refl (sym (ap (λ (t : Template). t.whole) is) ∙ whole) first in
      record {
        pieces = got.pieces;
        is = ap (λ (l : List WrittenPiece). l ++ got.pieces) (sym (part_is done pend start place here)) ∙ got.is ∙ ap (λ (t : Template). t.pieces) (sym is);
        cut = subst (λ (c : ℕ). AreCut found first place (c ∷ bytes) got.pieces) byte got.cut;
      }))
  between_more b bytes more false true opens_is closes_is done pend start place here plain whole =
      absurd (faulty (outside done start) place b bytes (faulty_close done start place b opens_is closes_is) whole)
  between_more b bytes more false false opens_is closes_is done pend start place here plain whole =
      let is : scan field (outside done start) place (b ∷ bytes) ≡ scan field (outside done start) (place + 1) bytes =
      one_byte (outside done start) place b bytes (outside done start) (plain_byte done start place b opens_is closes_is) in
      let longer : length (pend ++ b ∷ []) ≡ length pend + 1 = length-append pend (b ∷ []) in
      let got = more.between done (pend ++ b ∷ []) start (place + 1) (omega (arith, here, longer)) (list_all_push no_brace pend b plain
      (not_brace b opens_is closes_is))
      (sym (ap (λ (t : Template). t.whole) is) ∙ whole) in
      record {
        pieces = got.pieces;
        is = got.is ∙ ap (λ (t : Template). t.pieces) (sym is);
        cut = subst (λ (l : List ℕ). AreCut found true start l got.pieces) (append_assoc pend (b ∷ []) bytes) got.cut;
      }

  within_more : (b : ℕ) (bytes : List ℕ) → Both bytes → (opens closes : Bool) → (b == open_brace) ≡ opens → (b == close_brace) ≡ closes
      → (done : List WrittenPiece) (word : List ℕ) (at place : ℕ) → place ≡ at + 1 + length word → list_all no_brace word ≡ true
      → IsWhole (scan field (within_field done (at + 1)) place (b ∷ bytes))
      → (first : Bool) → Scanned done first at (open_brace ∷ (word ++ b ∷ bytes)) (scan field (within_field done (at + 1)) place (b ∷ bytes))
  within_more b bytes more opens true opens_is closes_is done word at place here plain whole first =
      let q = found (at + 1) place in
      let is : scan field (within_field done (at + 1)) place (b ∷ bytes) ≡ scan field (outside (done ++ q ∷ []) (place + 1)) (place + 1) bytes =
      one_byte (within_field done (at + 1)) place b bytes (outside (done ++ q ∷ []) (place + 1)) (closing done (at + 1) place b closes_is) in
      let none_more : place + 1 ≡ place + 1 + 0 = omega arith in
      let byte : close_brace ≡ b = sym (true_eq b close_brace closes_is) in
      let got = more.between (done ++ q ∷ []) [] (place + 1) (place + 1) none_more refl (sym (ap (λ (t : Template). t.whole) is) ∙ whole) in
      let cut : AreCut found first at (open_brace ∷ (word ++ close_brace ∷ bytes)) (found (at + 1) (at + 1 + length word) ∷ got.pieces) =
      cut_field first at word bytes got.pieces plain (subst (λ (p : ℕ). AreCut found true (p + 1) bytes got.pieces) here got.cut) in
      record {
        pieces = q ∷ got.pieces;
        is = sym (append_assoc done (q ∷ []) got.pieces) ∙ got.is ∙ ap (λ (t : Template). t.pieces) (sym is);
        cut =
            subst (λ (c : ℕ). AreCut found first at (open_brace ∷ (word ++ c ∷ bytes)) (q ∷ got.pieces)) byte
            (subst (λ (p : ℕ). AreCut found first at (open_brace ∷ (word ++ close_brace ∷ bytes)) (found (at + 1) p ∷ got.pieces)) (sym here) cut);
      }
  within_more b bytes more true false opens_is closes_is done word at place here plain whole first =
      absurd (faulty (within_field done (at + 1)) place b bytes (faulty_open done (at + 1) place b opens_is closes_is) whole)
  within_more b bytes more false false opens_is closes_is done word at place here plain whole first =
      let is : scan field (within_field done (at + 1)) place (b ∷ bytes) ≡ scan field (within_field done (at + 1)) (place + 1) bytes =
      one_byte (within_field done (at + 1)) place b bytes (within_field done (at + 1)) (field_byte done (at + 1) place b opens_is closes_is) in
      let longer : length (word ++ b ∷ []) ≡ length word + 1 = length-append word (b ∷ []) in
      let got = more.within done (word ++ b ∷ []) at (place + 1) (omega (arith, here, longer)) (list_all_push no_brace word b plain
      (not_brace b opens_is closes_is))
      (sym (ap (λ (t : Template). t.whole) is) ∙ whole) first in
      record {
        pieces = got.pieces;
        is = got.is ∙ ap (λ (t : Template). t.pieces) (sym is);
        cut = subst (λ (l : List ℕ). AreCut found first at (open_brace ∷ l) got.pieces) (append_assoc word (b ∷ []) bytes) got.cut;
      }

  scanned_all : (bytes : List ℕ) → Both bytes
  scanned_all [] = scanned_none
  scanned_all (b ∷ bytes) =
      let more = scanned_all bytes in record {
        between = between_more b bytes more (b == open_brace) (b == close_brace) refl refl;
        within = within_more b bytes more (b == open_brace) (b == close_brace) refl refl;
      }

  pub scan_cut : (at : ℕ) (bytes : List ℕ) → IsWhole (scan field (scan_start at) at bytes) → AreCut found true at bytes (scan field
      (scan_start at) at bytes).pieces
  scan_cut at bytes whole =
      let none_more : at ≡ at + 0 = omega arith in
      let got = (scanned_all bytes).between [] [] at at none_more refl whole in
      subst (λ (l : List WrittenPiece). AreCut found true at bytes l) got.is got.cut

  pub cut_scan : (at : ℕ) (bytes : List ℕ) (qs : List WrittenPiece) → AreCut found true at bytes qs → scan field (scan_start at) at bytes ≡ Whole qs
  cut_scan at bytes qs cut = let none_more : at ≡ at + 0 = omega arith in cut_scanned cut [] [] at none_more (λ e. refl)

-- ---- the template of a text

pub template_cut : (text : List ℕ) (version : ℕ) (in_flush : Bool) (s : WrittenSpan) → (template_at text version in_flush s).whole ≡ true
    → AreCut (field_between text version in_flush) true (s.from + 1) (inside text s) (template_at text version in_flush s).pieces
unfolding template_at
template_cut text version in_flush s whole = scan_cut (field_at text version in_flush) (s.from + 1) (inside text s) whole

pub cut_template : (text : List ℕ) (version : ℕ) (in_flush : Bool) (s : WrittenSpan) (qs : List WrittenPiece)
    → AreCut (field_between text version in_flush) true (s.from + 1) (inside text s) qs
    → template_at text version in_flush s ≡ record { pieces = qs; whole = true }
unfolding template_at
cut_template text version in_flush s qs cut = cut_scan (field_at text version in_flush) (s.from + 1) (inside text s) qs cut
