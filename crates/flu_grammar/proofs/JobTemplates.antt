-- Templates that are found are what they mean, and the other way round.
use Rattle.std.proofs.Common.{◌≡◌, ℕ, ◌+◌, Bool, true, false, List, [], ◌∷◌, length, Option, Some, None, arith, Ok, refl, sym, ap, subst, ◌∙◌}
use Rattle.std.specs.Prelude.{◌&&◌, ◌==◌, slice_get, is_some, if◌then◌else◌}
use Rattle.std.specs.List.{list_all, list_any}
use Rattle.flu_lemmas.specs.Items.{Pairs}
use Rattle.flu_lemmas.proofs.Loops.{bind_ok, then_ok}
use Rattle.flu_lemmas.proofs.Elements.{passes_at}
use Rattle.flu_lemmas.proofs.Searches.{eq_true}
use Rattle.flu_lemmas.proofs.Tests.{and_left, and_right, both, false_if_not, not_both, true_eq, true_le, le_true}
use Rattle.flu_model.specs.declared.jobs.Family.{Family}
use Rattle.flu_model.specs.declared.jobs.At.{At}
use Rattle.flu_model.specs.declared.jobs.At.TheVariants as at
use Rattle.flu_model.specs.declared.jobs.Piece.{Piece}
use Rattle.flu_model.specs.declared.jobs.Piece.TheVariants as piece
use Rattle.flu_model.specs.Rules.{is_short}
use Rattle.flu_model.specs.Templates.{written_template}
use Rattle.flu_text.specs.declared.written.WrittenSpan.{WrittenSpan}
use Rattle.flu_syntax.specs.declared.tree.WrittenKey.{WrittenKey}
use Rattle.flu_syntax.specs.declared.tree.WrittenKey.TheVariants as k
use Rattle.flu_layout.specs.Spelling.{name_of}
use Rattle.flu_parse.specs.declared.faults.JobFault.TheVariants as f
use Rattle.flu_parse.specs.declared.names.FamilyHead.{FamilyHead}
use Rattle.flu_parse.specs.declared.names.KindHead.{KindHead}
use Rattle.flu_parse.specs.declared.pieces.WrittenPiece.{WrittenPiece}
use Rattle.flu_parse.specs.declared.pieces.WrittenPiece.TheVariants as w
use Rattle.flu_parse.specs.Faults.{Found, ◌>>=◌, ◌>>◌, unless, each}
use Rattle.flu_parse.specs.Naming.{Naming, takes_items, look_up, known}
use Rattle.flu_parse.specs.Cells.{brackets_fit, at_of}
use Rattle.flu_parse.specs.Templates.{Template, template_at, known_name, known_names, own_key_fits, read_fits, piece_fits, family_piece, piece_of, pieces_of}
use Rattle.flu_parse.specs.Templates.{may_be_printed, template_of}
use Rattle.flu_grammar.specs.Cells.{family_name, MeansKey}
use Rattle.flu_grammar.specs.Means.{IsNamed}
use Rattle.flu_grammar.specs.Templates.{MeansPiece, MayBePrinted, MeansTemplate}
use Rattle.flu_grammar.proofs.Lists.{some_same, no_some, any_none}
use Rattle.flu_grammar.proofs.Looks.{ok_same, ok_ok, passed, passes, binds, thens, Finds, found_each, finds_each}
use Rattle.flu_grammar.proofs.Heads.{HeadFound, looked_up}
use Rattle.flu_grammar.proofs.Cuts.{template_cut, cut_template}
use Rattle.flu_grammar.proofs.Fields.{is_formless, formed, told}
use Rattle.flu_grammar.proofs.JobCells.{family_head, KnowFamilies, families_are, under_head, has_items, takes, known_is, at_means, at_found, look_up_found}
use Rattle.flu_grammar.proofs.JobCells.{cell_from}

module _ (text : List ℕ) (n : Naming) (families : List Family) (knows : KnowFamilies n families) (under : KindHead) (flushed : Option ℕ) where
  abbrev Means : WrittenPiece → Piece → Type 0
  Means q p = MeansPiece text families (under_head n under) flushed q p

  -- the cell of a family that is named in a flush
  named_family : (name : List ℕ) (h : FamilyHead) → HeadFound family_name family_head families name 0 h → IsNamed family_name families name h.number
  named_family name h head =
      let zero_more : head.place ≡ 0 + head.place = omega arith in
      let number : head.place ≡ h.number = zero_more ∙ ap (λ (x : FamilyHead). x.number) head.is in
      (head.declared, ap (slice_get families) (sym number) ∙ head.here, head.named)

  family_means : (s : WrittenSpan) (number : ℕ) → IsNamed family_name families (name_of text s) number → Means (w.Family s) (family_piece flushed number)
  family_means s number named = by flushed refl
    where
      at_flushed : (f : ℕ) → flushed ≡ Some f → (b : Bool) → (number == f) ≡ b
          → Means (w.Family s) (if b then piece.CellValue else piece.FamilyCell number)
      at_flushed f is true same = (number, is ∙ ap (λ (x : ℕ). Some x) (sym (true_eq number f same)), named)
      at_flushed f is false other = (λ same. not_both (number == f) (eq_true number f (some_same number f (sym same ∙ is))) other, named)

      by : (o : Option ℕ) → flushed ≡ o → Means (w.Family s) (family_piece o number)
      by None is = (λ some. no_some number (sym is ∙ some), named)
      by (Some f) is = at_flushed f is (number == f) refl

  piece_means : (place : ℕ) (q : WrittenPiece) (p : Piece) → piece_fits text n under (is_some flushed) q ≡ true → piece_of text n under flushed place q ≡ Ok p
      → Means q p
  unfolding piece_of
  piece_means place (w.Plain s) p fits e = subst (λ (x : Piece). Means (w.Plain s) x) (ok_same (piece.Plain (name_of text s)) p e) refl
  piece_means place w.Value p fits e = subst (λ (x : Piece). Means w.Value x) (ok_same piece.Value p e) fits
  piece_means place w.Key p fits e = subst (λ (x : Piece). Means w.Key x) (ok_same piece.Key p e) fits
  piece_means place w.Item p fits e = subst (λ (x : Piece). Means w.Item x) (ok_same piece.Item p e) (has_items n under fits)
  piece_means place w.Time p fits e = subst (λ (x : Piece). Means w.Time x) (ok_same piece.Time p e) tt
  piece_means place w.CellValue p fits e = subst (λ (x : Piece). Means w.CellValue x) (ok_same piece.CellValue p e) tt
  piece_means place (w.Read r) p fits e =
      let one = bind_ok (known place (look_up (name_of text r.family) n.families))
      (λ family. at_of n under r.key >>= λ a. Ok (piece.Read (record { family = family.number; at = a }))) p e in
      let two = bind_ok (at_of n under r.key) (λ a. Ok (piece.Read (record { family = one.0.number; at = a }))) p one.2 in
      let found : look_up (name_of text r.family) n.families ≡ Some one.0 = known_is place (look_up (name_of text r.family) n.families) one.0 one.1 in
      let read = sym (ap (read_fits n under r.key) found) ∙ fits in
      let head = looked_up family_name family_head 0 families (name_of text r.family) one.0 (ap (look_up (name_of text r.family)) (sym knows.heads_are)
      ∙ found) in
      subst (λ (x : Piece). Means (w.Read r) x) (ok_same (piece.Read (record { family = one.0.number; at = two.0 })) p two.2)
      (cell_from text n families knows under None r one.0 two.0 head tt
      (at_means n under one.0.keyed r.key two.0 (and_left (brackets_fit one.0.keyed r.key) (own_key_fits n under r.key) read) two.1))
  piece_means place (w.Family s) p fits e =
      let one = bind_ok (known place (look_up (name_of text s) n.families)) (λ family. Ok (family_piece flushed family.number)) p e in
      let found : look_up (name_of text s) n.families ≡ Some one.0 = known_is place (look_up (name_of text s) n.families) one.0 one.1 in
      let head = looked_up family_name family_head 0 families (name_of text s) one.0 (ap (look_up (name_of text s)) (sym knows.heads_are) ∙ found) in
      subst (λ (x : Piece). Means (w.Family s) x) (ok_same (family_piece flushed one.0.number) p one.2)
      (family_means s one.0.number (named_family (name_of text s) one.0 head))
  piece_means place w.Formless p fits e = absurd cc

  -- what a piece that means something passes
  record Passes (place : ℕ) (q : WrittenPiece) (p : Piece) : Type 0 where
    named : known_name text n place q ≡ Ok tt
    fits : piece_fits text n under (is_some flushed) q ≡ true
    found : piece_of text n under flushed place q ≡ Ok p

  own_key : (keyed : Bool) (key : WrittenKey) (a : At) → MeansKey keyed (under_head n under) key a → own_key_fits n under key ≡ true
  own_key keyed k.Alone a h = refl
  own_key keyed (k.OwnKey place) a h = by a h
    where
      by : (a : At) → MeansKey keyed (under_head n under) (k.OwnKey place) a → under.keyed ≡ true
      by at.OwnKey h = h.1
      by at.Alone h = absurd h
      by at.OwnItem h = absurd h
      by (at.Fixed key) h = absurd h
  own_key keyed (k.OwnItem place) a h = by a h
    where
      by : (a : At) → MeansKey keyed (under_head n under) (k.OwnItem place) a → takes_items n under ≡ true
      by at.OwnItem h = takes n under h.1
      by at.Alone h = absurd h
      by at.OwnKey h = absurd h
      by (at.Fixed key) h = absurd h
  own_key keyed (k.Fixed number) a h = refl

  family_passes : (place : ℕ) (s : WrittenSpan) (number : ℕ) (p : Piece) → IsNamed family_name families (name_of text s) number
      → family_piece flushed number ≡ p → Passes place (w.Family s) p
  unfolding piece_of known_name
  family_passes place s number p named is =
      let found = look_up_found text n families knows s number named.0 named.1 named.2 in record {
        named = ap (λ o. known place o >>= λ _. Ok tt) found;
        fits = refl;
        found =
            binds (known place (look_up (name_of text s) n.families)) (λ family. Ok (family_piece flushed family.number)) (family_head number named.0) p
            (ap (known place) found) (ok_ok (family_piece flushed number) p is);
      }

  piece_found : (place : ℕ) (q : WrittenPiece) (p : Piece) → Means q p → Passes place q p
  unfolding piece_of known_name
  piece_found place (w.Plain s) (piece.Plain t) h = record {
    named = refl;
    fits = refl;
    found = ok_ok (piece.Plain (name_of text s)) (piece.Plain t)
        (ap piece.Plain (sym h));
  }
  piece_found place w.Value piece.Value h = record { named = refl; fits = h; found = refl }
  piece_found place w.Key piece.Key h = record { named = refl; fits = h; found = refl }
  piece_found place w.Item piece.Item h = record { named = refl; fits = takes n under h; found = refl }
  piece_found place w.Time piece.Time h = record { named = refl; fits = refl; found = refl }
  piece_found place w.CellValue piece.CellValue h = record { named = refl; fits = refl; found = refl }
  piece_found place (w.Read r) (piece.Read c) h =
      let x = h.family in
      let found = look_up_found text n families knows r.family c.family x h.here h.name in
      let key = at_found n under x.keyed r.key c.at h.key in record {
        named = ap (λ o. known place o >>= λ _. Ok tt) found;
        fits = ap (read_fits n under r.key) found ∙ both (brackets_fit x.keyed r.key) (own_key_fits n under r.key) key.0 (own_key x.keyed r.key c.at h.key);
        found =
            binds (known place (look_up (name_of text r.family) n.families))
            (λ family. at_of n under r.key >>= λ a. Ok (piece.Read (record { family = family.number; at = a }))) (family_head c.family x) (piece.Read c)
            (ap (known place) found) (binds (at_of n under r.key) (λ a. Ok (piece.Read (record { family = c.family; at = a }))) c.at (piece.Read c) key.1 refl);
      }
  piece_found place (w.Family s) piece.CellValue h =
      let number = h.0 in
      family_passes place s number piece.CellValue h.2
      (ap (λ o. family_piece o number) h.1 ∙ ap (λ b. if b then piece.CellValue else piece.FamilyCell number) (eq_true number number refl))
  piece_found place (w.Family s) (piece.FamilyCell number) h = family_passes place s number (piece.FamilyCell number) h.1 (by flushed refl)
    where
      by : (o : Option ℕ) → flushed ≡ o → family_piece o number ≡ piece.FamilyCell number
      by None is = refl
      by (Some f) is =
          ap (λ b. if b then piece.CellValue else piece.FamilyCell number)
          (false_if_not (number == f) (λ same. h.0 (is ∙ ap (λ (x : ℕ). Some x) (sym (true_eq number f same)))))
  piece_found place _ _ h = absurd h

  pub pieces_mean : (place : ℕ) (qs : List WrittenPiece) (ps : List Piece) → list_all (piece_fits text n under (is_some flushed)) qs ≡ true
      → Pairs (Finds (piece_of text n under flushed place)) qs ps → Pairs Means qs ps
  pieces_mean place [] [] fits h = tt
  pieces_mean place [] (p ∷ ps) fits h = absurd h
  pieces_mean place (q ∷ qs) [] fits h = absurd h
  pieces_mean place (q ∷ qs) (p ∷ ps) fits h = (
    piece_means place q p (and_left (piece_fits text n under (is_some flushed) q) (list_all (piece_fits text n under (is_some flushed)) qs) fits) h.0,
    pieces_mean place qs ps (and_right (piece_fits text n under (is_some flushed) q) (list_all (piece_fits text n under (is_some flushed)) qs) fits) h.1,
  )

  -- what pieces that mean something pass
  record AllPass (place : ℕ) (qs : List WrittenPiece) (ps : List Piece) : Type 0 where
    named : each (λ done q. known_name text n place q) tt qs ≡ Ok tt
    fits : list_all (piece_fits text n under (is_some flushed)) qs ≡ true
    found : Pairs (Finds (piece_of text n under flushed place)) qs ps

  pieces_pass : (place : ℕ) (qs : List WrittenPiece) (ps : List Piece) → Pairs Means qs ps → AllPass place qs ps
  unfolding each
  pieces_pass place [] [] h = record { named = refl; fits = refl; found = tt }
  pieces_pass place [] (p ∷ ps) h = absurd h
  pieces_pass place (q ∷ qs) [] h = absurd h
  pieces_pass place (q ∷ qs) (p ∷ ps) h =
      let one = piece_found place q p h.0 in
      let more = pieces_pass place qs ps h.1 in record {
        named = binds (known_name text n place q) (λ t. each (λ done x. known_name text n place x) t qs) tt tt one.named more.named;
        fits = both (piece_fits text n under (is_some flushed) q) (list_all (piece_fits text n under (is_some flushed)) qs) one.fits more.fits;
        found = (one.found, more.found);
      }

  pub fits_formed : (q : WrittenPiece) → piece_fits text n under (is_some flushed) q ≡ true → is_formless q ≡ false
  fits_formed (w.Plain s) fits = refl
  fits_formed w.Value fits = refl
  fits_formed w.Key fits = refl
  fits_formed w.Item fits = refl
  fits_formed w.Time fits = refl
  fits_formed w.CellValue fits = refl
  fits_formed (w.Read r) fits = refl
  fits_formed (w.Family s) fits = refl
  fits_formed w.Formless fits = absurd cc

  pub fit_formed : (qs : List WrittenPiece) → list_all (piece_fits text n under (is_some flushed)) qs ≡ true → list_any is_formless qs ≡ false
  fit_formed qs fits = any_none is_formless qs (λ i q here. fits_formed q (passes_at (piece_fits text n under (is_some flushed)) qs i q fits here))

  -- what is printed of a template in a flush is short
  printed_is : (ps : List Piece) → may_be_printed n flushed ps ≡ true → MayBePrinted families flushed ps
  printed_is ps e = by flushed e
    where
      by : (o : Option ℕ) → may_be_printed n o ps ≡ true → MayBePrinted families o ps
      by None e = tt
      by (Some f) e =
          true_le (length (written_template families ps)) 256
          (subst (λ (fs : List Family). is_short (written_template fs ps) ≡ true) (families_are n families knows) e)

  pub prints : (ps : List Piece) → MayBePrinted families flushed ps → may_be_printed n flushed ps ≡ true
  prints ps few = by flushed few
    where
      by : (o : Option ℕ) → MayBePrinted families o ps → may_be_printed n o ps ≡ true
      by None few = refl
      by (Some f) few =
          subst (λ (fs : List Family). is_short (written_template fs ps) ≡ true) (sym (families_are n families knows))
          (le_true (length (written_template families ps)) 256 few)

  -- the pieces, where what is printed of them may be
  abbrev printed : WrittenSpan → List WrittenPiece → Found (List Piece)
  printed s qs = pieces_of text n under flushed s.from qs >>= λ ps. unless (may_be_printed n flushed ps) (f.WrongShape s.from) >> Ok ps

  pub template_means : (s : WrittenSpan) (ps : List Piece) → template_of text n under flushed s ≡ Ok ps
      → MeansTemplate text families (under_head n under) flushed s ps
  unfolding template_of
  template_means s ps e =
      let t = template_at text n.version (is_some flushed) s in
      let fits = list_all (piece_fits text n under (is_some flushed)) t.pieces in
      let one = then_ok (known_names text n s.from t.pieces) (unless (t.whole && fits) (f.WrongShape s.from) >> printed s t.pieces) ps e in
      let two = passed (t.whole && fits) (f.WrongShape s.from) (printed s t.pieces) ps one.2 in
      let three = bind_ok (pieces_of text n under flushed s.from t.pieces)
      (λ ps. unless (may_be_printed n flushed ps) (f.WrongShape s.from) >> Ok ps) ps two.1 in
      let four = passed (may_be_printed n flushed three.0) (f.WrongShape s.from) (Ok three.0) ps three.2 in
      let same : three.0 ≡ ps = ok_same three.0 ps four.1 in
      let found : pieces_of text n under flushed s.from t.pieces ≡ Ok ps = three.1 ∙ ok_ok three.0 ps same in
      let means = pieces_mean s.from t.pieces ps (and_right t.whole fits two.0) (found_each (piece_of text n under flushed s.from) t.pieces ps found) in
      record {
        parts = t.pieces;
        cut = formed (template_cut text n.version (is_some flushed) s (and_left t.whole fits two.0)) (fit_formed t.pieces (and_right t.whole fits two.0));
        means = means;
        short = printed_is ps (subst (λ (qs : List Piece). may_be_printed n flushed qs ≡ true) same four.0);
      }

  pub template_found : (s : WrittenSpan) (ps : List Piece) → MeansTemplate text families (under_head n under) flushed s ps
      → template_of text n under flushed s ≡ Ok ps
  unfolding template_of
  template_found s ps is =
      let t = template_at text n.version (is_some flushed) s in
      let fits = list_all (piece_fits text n under (is_some flushed)) t.pieces in
      let same = cut_template text n.version (is_some flushed) s is.parts (told is.cut) in
      let parts : t.pieces ≡ is.parts = ap (λ (x : Template). x.pieces) same in
      let all = pieces_pass s.from is.parts ps is.means in
      let named : known_names text n s.from t.pieces ≡ Ok tt = ap (known_names text n s.from) parts ∙ all.named in
      let fit : fits ≡ true = ap (list_all (piece_fits text n under (is_some flushed))) parts ∙ all.fits in
      let found : pieces_of text n under flushed s.from t.pieces ≡ Ok ps = ap (pieces_of text n under flushed s.from) parts ∙ finds_each
      (piece_of text n under flushed s.from) is.parts ps all.found in
      thens (known_names text n s.from t.pieces) (unless (t.whole && fits) (f.WrongShape s.from) >> printed s t.pieces) tt ps named
      (passes (t.whole && fits) (f.WrongShape s.from) (printed s t.pieces) ps (both t.whole fits (ap (λ (x : Template). x.whole) same) fit)
      (binds (pieces_of text n under flushed s.from t.pieces) (λ ps. unless (may_be_printed n flushed ps) (f.WrongShape s.from) >> Ok ps) ps ps found
      (passes (may_be_printed n flushed ps) (f.WrongShape s.from) (Ok ps) ps (prints ps is.short) refl)))
