-- The template of an emit is written in no more bytes than the text that it was read from.
use Rattle.std.proofs.Common.{◌≡◌, ◌≤◌, ◌+◌, ◌-◌, ℕ, suc, Bool, true, false, ◌&&◌, List, [], ◌∷◌, ◌++◌, map, length, Some, None, Ok, refl, sym, ap, subst, ◌∙◌}
use Rattle.std.proofs.Common.{length-append, arith}
use Rattle.std.specs.Prelude.{slice_get, if◌then◌else◌}
use Rattle.std.specs.Fmt.{decimal}
use Rattle.std.specs.List.{list_all}
use Rattle.std.specs.Str.{bytes_eq}
use Rattle.std.proofs.lemmas.List.Concat.{flat_map-append}
use Rattle.std.proofs.lemmas.Slice.Eq.{bytes_eq-Decides}
use Rattle.flu_lemmas.proofs.Tests.{le_true}
use Rattle.flu_lemmas.proofs.Loops.{collect, bind_ok, then_ok}
use Rattle.flu_model.specs.declared.jobs.Family.{Family}
use Rattle.flu_model.specs.declared.jobs.At.{At}
use Rattle.flu_model.specs.declared.jobs.At.TheVariants as at
use Rattle.flu_model.specs.declared.jobs.Piece.{Piece}
use Rattle.flu_model.specs.declared.jobs.Piece.TheVariants as piece
use Rattle.flu_model.specs.Templates.{family_name, written_key, written_piece, written_template}
use Rattle.flu_model.specs.Rules.{is_short}
use Rattle.flu_text.specs.declared.written.WrittenSpan.{WrittenSpan}
use Rattle.flu_syntax.specs.declared.tree.WrittenKey.{WrittenKey}
use Rattle.flu_syntax.specs.declared.tree.WrittenKey.TheVariants as k
use Rattle.flu_layout.specs.Spelling.{name_of, inside, written_value}
use Rattle.flu_parse.specs.declared.faults.JobFault.TheVariants as f
use Rattle.flu_parse.specs.declared.names.FamilyHead.{FamilyHead}
use Rattle.flu_parse.specs.declared.names.KindHead.{KindHead}
use Rattle.flu_parse.specs.declared.pieces.WrittenPiece.{WrittenPiece}
use Rattle.flu_parse.specs.declared.pieces.WrittenPiece.TheVariants as p
use Rattle.flu_parse.specs.Faults.{each}
use Rattle.flu_parse.specs.Naming.{Naming, takes_items, family, look_up, known}
use Rattle.flu_parse.specs.Cells.{resolved_key, at_of}
use Rattle.flu_parse.specs.Templates.{template_at, known_names, piece_fits, piece_of, pieces_of, template_of}
use Rattle.flu_parse.proofs.Looks.{passed}
use Rattle.flu_parse.proofs.Kept.Names.{Numbered, family_number}
use Rattle.flu_parse.proofs.Kept.Terms.{was_known, key_kept}
use Rattle.flu_parse.proofs.Kept.Sizes.{key_size, piece_size, pieces_size, spelled_size, template_size}

-- ---- what is looked up has the name that it was looked up by

named : (i : ℕ) (hs : List (List ℕ × FamilyHead)) (name : List ℕ) (x : FamilyHead) → Numbered family_number i hs → look_up name hs ≡ Some x
    → (j : ℕ) × (x.number ≡ i + j) × (family_name (slice_get (map family hs) j) ≡ name)
named i [] name x all e = absurd cc
named i (h ∷ hs) name x all e = by (bytes_eq name h.0) refl e (named (i + 1) hs name x all.1)
  where
    by : (b : Bool) → bytes_eq name h.0 ≡ b → (if b then Some h.1 else look_up name hs) ≡ Some x
        → (look_up name hs ≡ Some x → (j : ℕ) × (x.number ≡ i + 1 + j) × (family_name (slice_get (map family hs) j) ≡ name))
        → (j : ℕ) × (x.number ≡ i + j) × (family_name (slice_get (map family (h ∷ hs)) j) ≡ name)
    by true same e rest =
        let head : h.1 ≡ x = cc in
        let number : x.number ≡ i + 0 = ap family_number (sym head) ∙ all.0 ∙ (let none : i ≡ i + 0 = omega arith in none) in
        (0, number, sym ((bytes_eq-Decides name h.0).0 same))
    by false same e rest = let r = rest e in (suc r.0, omega (arith, r.1), r.2)

-- ---- pieces

key_written : (n : Naming) (under : KindHead) (key : WrittenKey) (a : At) → at_of n under key ≡ Ok a → length (written_key a) ≤ key_size key
key_written n under k.Alone a e = let same : at.Alone ≡ a = cc in subst (λ a. length (written_key a) ≤ 0) same (omega arith)
key_written n under (k.OwnKey place) a e =
    let h = passed under.keyed (f.WrongShape place) (Ok at.OwnKey) a e in
    let same : at.OwnKey ≡ a = cc in
    subst (λ a. length (written_key a) ≤ 5) same (omega arith)
key_written n under (k.OwnItem place) a e =
    let h = passed (takes_items n under) (f.WrongShape place) (Ok at.OwnItem) a e in
    let same : at.OwnItem ≡ a = cc in
    subst (λ a. length (written_key a) ≤ 6) same (omega arith)
key_written n under (k.Fixed number) a e =
    let h = bind_ok (resolved_key number) (λ key. Ok (at.Fixed key)) a e in
    let same : at.Fixed h.0 ≡ a = cc in
    let value = (key_kept number h.0 h.1).1 in
    let size = length-append (91 ∷ decimal (written_value number.value)) (93 ∷ []) in
    subst (λ a. length (written_key a) ≤ length (decimal (written_value number.value)) + 2) (ap at.Fixed value ∙ same) (omega (arith, size))

module _ (text : List ℕ) (n : Naming) (numbered : Numbered family_number 0 n.families) where
  abbrev families : List Family
  families = map family n.families

  -- a family that is known by a name is written by it
  name_written : (name : List ℕ) (x : FamilyHead) → look_up name n.families ≡ Some x → family_name (slice_get families x.number) ≡ name
  name_written name x e =
      let h = named 0 n.families name x numbered e in
      let here : x.number ≡ h.0 = omega (arith, h.1) in
      ap (λ i. family_name (slice_get families i)) here ∙ h.2

  module _ (under : KindHead) where
    piece_written : (place : ℕ) (q : WrittenPiece) (r : Piece) → piece_of text n under None place q ≡ Ok r → length (written_piece families r) ≤ piece_size q
    unfolding piece_of
    piece_written place (p.Plain s) r e =
        let same : piece.Plain (name_of text s) ≡ r = cc in subst (λ r. length (written_piece families r) ≤ s.to - s.from) same (spelled_size text s.from s.to)
    piece_written place p.Value r e = let same : piece.Value ≡ r = cc in subst (λ r. length (written_piece families r) ≤ 7) same (omega arith)
    piece_written place p.Key r e = let same : piece.Key ≡ r = cc in subst (λ r. length (written_piece families r) ≤ 5) same (omega arith)
    piece_written place p.Item r e = let same : piece.Item ≡ r = cc in subst (λ r. length (written_piece families r) ≤ 6) same (omega arith)
    piece_written place p.Time r e = let same : piece.Time ≡ r = cc in subst (λ r. length (written_piece families r) ≤ 6) same (omega arith)
    piece_written place p.CellValue r e = let same : piece.CellValue ≡ r = cc in subst (λ r. length (written_piece families r) ≤ 6) same (omega arith)
    piece_written place (p.Read v) r e =
        let h = bind_ok (known place (look_up (name_of text v.family) n.families)) _ r e in
        let g = bind_ok (at_of n under v.key) (λ a. Ok (piece.Read (record { family = h.0.number; at = a }))) r h.2 in
        let same : piece.Read (record { family = h.0.number; at = g.0 }) ≡ r = cc in
        let name : List ℕ = family_name (slice_get families h.0.number) in
        let is : name ≡ name_of text v.family =
        name_written (name_of text v.family) h.0 (was_known place (look_up (name_of text v.family) n.families) h.0 h.1) in
        let name_size = ap length is in
        let key = key_written n under v.key g.0 g.1 in
        let inner = length-append name (written_key g.0) in
        let outer = length-append (123 ∷ (name ++ written_key g.0)) (125 ∷ []) in
        subst (λ r. length (written_piece families r) ≤ piece_size (p.Read v)) same
        (omega (arith, name_size, spelled_size text v.family.from v.family.to, key, inner, outer))
    piece_written place (p.Family s) r e =
        let h = bind_ok (known place (look_up (name_of text s) n.families)) (λ family. Ok (piece.FamilyCell family.number)) r e in
        let same : piece.FamilyCell h.0.number ≡ r = cc in
        let name : List ℕ = family_name (slice_get families h.0.number) in
        let is : name ≡ name_of text s = name_written (name_of text s) h.0 (was_known place (look_up (name_of text s) n.families) h.0 h.1) in
        let name_size = ap length is in
        let outer = length-append (123 ∷ name) (125 ∷ []) in
        subst (λ r. length (written_piece families r) ≤ s.to - s.from + 2) same (omega (arith, name_size, spelled_size text s.from s.to, outer))
    piece_written place p.Formless r e = absurd cc

    pieces_written : (place : ℕ) (done : List Piece) (qs : List WrittenPiece) (rs : List Piece)
        → each (collect (piece_of text n under None place)) done qs ≡ Ok rs
        → length (written_template families rs) ≤ length (written_template families done) + pieces_size qs
    unfolding each
    pieces_written place done [] rs e =
        let same : done ≡ rs = cc in subst (λ rs. length (written_template families rs) ≤ length (written_template families done) + 0) same (omega arith)
    pieces_written place done (q ∷ qs) rs e =
        let h = bind_ok (collect (piece_of text n under None place) done q) _ rs e in
        let g = bind_ok (piece_of text n under None place q) (λ y. Ok (done ++ y ∷ [])) h.0 h.1 in
        let now : done ++ g.0 ∷ [] ≡ h.0 = cc in
        let here = piece_written place q g.0 g.1 in
        let all = pieces_written place h.0 qs rs h.2 in
        let split = flat_map-append (written_piece families) done (g.0 ∷ []) in
        let size : length (written_template families h.0) ≡ length (written_template families done) + (length (written_piece families g.0) + 0) =
        ap (λ l. length (written_template families l)) (sym now) ∙ ap length split
        ∙ length-append (written_template families done) (written_piece families g.0 ++ [])
        ∙ ap (λ k. length (written_template families done) + k) (length-append (written_piece families g.0) []) in
        omega (arith, here, all, size)

    pub emit_short : (s : WrittenSpan) (rs : List Piece) → length (inside text s) ≤ 256 → template_of text n under None s ≡ Ok rs
        → is_short (written_template families rs) ≡ true
    unfolding template_of
    emit_short s rs few e =
        let t = template_at text n.version false s in
        let one = then_ok (known_names text n s.from t.pieces) _ rs e in
        let two = passed (t.whole && list_all (piece_fits text n under false) t.pieces) (f.WrongShape s.from) _ rs one.2 in
        let three = bind_ok (pieces_of text n under None s.from t.pieces) (λ pieces. Ok pieces) rs two.1 in
        let same : three.0 ≡ rs = cc in
        let size = pieces_written s.from [] t.pieces three.0 three.1 in
        subst (λ rs. is_short (written_template families rs) ≡ true) same
        (le_true (length (written_template families three.0)) 256 (omega (arith, size, few, template_size text n.version false s)))
