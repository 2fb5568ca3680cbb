-- Actions of the normal form are read as what was printed.
use Rattle.std.proofs.Common.{◌≡◌, ◌≤◌, ◌+◌, ℕ, Bool, true, false, ◌&&◌, List, [], ◌∷◌, ◌++◌, length, Option, Some, None, Ok, refl, sym, ap, ◌∙◌, append_assoc}
use Rattle.std.proofs.Common.{length-append, arith}
use Rattle.std.specs.Prelude.{nat_lt, slice_get, if◌then◌else◌}
use Rattle.std.specs.List.{list_all}
use Rattle.std.specs.Str.{IsUtf8}
use Rattle.std.proofs.lemmas.List.{append-nil}
use Rattle.flu_lemmas.proofs.Tests.{and_left, and_right, both, lt_true}
use Rattle.flu_lemmas.proofs.Booleans.{three_left, three_middle, three_right}
use Rattle.flu_lemmas.proofs.Elements.{list_all_weaker, list_all_both}
use Rattle.flu_lemmas.proofs.Items.{begins_append, Took, ItemIs}
use Rattle.flu_lemmas.specs.Items.{Pairs}
use Rattle.flu_text.specs.declared.words.Word.TheVariants as w
use Rattle.flu_names.specs.declared.reserved.Reserved.TheVariants as r
use Rattle.flu_names.specs.declared.reserved.Reserved.{Reserved}
use Rattle.flu_names.specs.Names.{is_name}
use Rattle.flu_text.specs.declared.words.Token.{Token}
use Rattle.flu_text.specs.Layout.{Piece as Laid}
use Rattle.flu_model.specs.declared.limits.What.TheVariants.{Actions}
use Rattle.flu_model.specs.declared.jobs.Family.{Family}
use Rattle.flu_model.specs.declared.jobs.CellRef.{CellRef}
use Rattle.flu_model.specs.declared.jobs.Piece.{Piece}
use Rattle.flu_model.specs.declared.jobs.Piece.TheVariants as piece
use Rattle.flu_model.specs.Erasure.{Term, Adding, Raising, Setting, Clearing, ClearingFamily, Emitting, Flushing, PlainAction, PlainAct}
use Rattle.flu_model.specs.Rules.{is_sort, has_sort, is_keyed, ref_fits, ref_has_sort, is_plain, are_apart, is_short, emit_piece_fits, flush_piece_fits}
use Rattle.flu_model.specs.Rules.{flush_template_fits}
use Rattle.flu_model.specs.Templates.{family_name, written_template}
use Rattle.flu_syntax.specs.declared.tokens.Verb.{Verb}
use Rattle.flu_syntax.specs.declared.tokens.Verb.TheVariants as verb
use Rattle.flu_text.specs.Signs.{is_name_word, span_of}
use Rattle.flu_syntax.specs.declared.tree.WrittenKey.{WrittenKey}
use Rattle.flu_syntax.specs.declared.tree.WrittenKey.TheVariants as k
use Rattle.flu_syntax.specs.declared.tree.WrittenRef.{WrittenRef}
use Rattle.flu_syntax.specs.Tree.{Tree, Writes, Clears, Emits, Flushes}
use Rattle.flu_syntax.specs.Tree.{Deed as WrittenDeed, Action as WrittenDo}
use Rattle.flu_text.specs.Signs.{IsSign}
use Rattle.flu_syntax.specs.Grammar.{verb_word, cell_signs, spelled, deed_signs, IsDeed, guard_signs, IsGuard, action_signs, AreActions}
use Rattle.flu_layout.specs.Laid.{blank, reserved}
use Rattle.flu_layout.specs.Stands.{Stand}
use Rattle.flu_parse.specs.declared.faults.JobFault.TheVariants as f
use Rattle.flu_parse.specs.declared.names.FamilyHead.{FamilyHead}
use Rattle.flu_parse.specs.declared.names.KindHead.{KindHead}
use Rattle.flu_parse.specs.Faults.{Found, ◌>>=◌, ◌>>◌, unless, each}
use Rattle.flu_parse.specs.Naming.{Naming, is_version_3, look_up, known, family_of}
use Rattle.flu_parse.specs.Cells.{brackets_fit, resolved_cell}
use Rattle.flu_parse.specs.Terms.{is_alone, expression_of}
use Rattle.flu_parse.specs.Templates.{template_of}
use Rattle.flu_parse.proofs.Printed.Words.{cell_words, term_words, act_words, behind_act, guard_words, action_words}
use Rattle.flu_parse.proofs.Printed.Quotes.{text_stands}
use Rattle.flu_parse.proofs.Printed.LaidActions.{keyed_at}
use Rattle.flu_parse.proofs.Printed.ReadTerms.{family_head, FamiliesKnown, ItemsKnown, read_cell, read_expression}
use Rattle.flu_parse.proofs.Kept.Terms.{sort_swapped}
use Rattle.flu_parse.proofs.Printed.Templates.{piece_ok, read_template}
use Rattle.flu_parse.specs.Actions.{sort_for, act_with, clears_whole, resolved_act, guard_of, action_of, with_action}
use Rattle.flu_parse.proofs.Kept.Plain.{is_good_term, plain_act_fits, plain_guard_fits, plain_action_fits}
use Rattle.flu_parse.proofs.Kept.Versions.{at_suits, term_suits, piece_suits, act_suits, guard_suits, action_suits}

-- a cell is not a whole family: where its family is keyed, it is named with brackets
one_cell : (newer keyed : Bool) (key : WrittenKey) → brackets_fit keyed key ≡ true → (newer && keyed && is_alone key) ≡ false
one_cell true true k.Alone fits = absurd cc
one_cell true false k.Alone fits = refl
one_cell false keyed k.Alone fits = refl
one_cell true true (k.OwnKey at) fits = refl
one_cell true false (k.OwnKey at) fits = refl
one_cell false keyed (k.OwnKey at) fits = refl
one_cell true true (k.OwnItem at) fits = refl
one_cell true false (k.OwnItem at) fits = refl
one_cell false keyed (k.OwnItem at) fits = refl
one_cell true true (k.Fixed number) fits = refl
one_cell true false (k.Fixed number) fits = refl
one_cell false keyed (k.Fixed number) fits = refl

module _ (whole : List ℕ) (utf8 : IsUtf8 whole) (families : List Family) (names : list_all (λ (f : Family). is_name f.name) families ≡ true) (n : Naming)
    (known_families : FamiliesKnown families n) (under : KindHead) where
  abbrev emit_test : Piece → Bool
  emit_test q = emit_piece_fits families under.keyed under.has_value q && piece_suits under.has_item true q

  emit_ok : (q : Piece) → emit_test q ≡ true → piece_ok whole utf8 families names n known_families under None 0 q ≡ true
  emit_ok (piece.Plain t) h = and_left (is_plain t) true h
  emit_ok piece.Value h = and_left under.has_value true h
  emit_ok piece.Key h = and_left under.keyed true h
  emit_ok piece.Item h = h
  emit_ok piece.Time h = h
  emit_ok (piece.Read c) h = h
  emit_ok piece.CellValue h = h
  emit_ok (piece.FamilyCell f) h = h

  abbrev flush_test : ℕ → Piece → Bool
  flush_test flushed q = flush_piece_fits families flushed under.has_value q && piece_suits under.has_item (is_version_3 n) q

  flush_ok : (flushed : ℕ) (q : Piece) → flush_test flushed q ≡ true → piece_ok whole utf8 families names n known_families under (Some flushed) 0 q ≡ true
  flush_ok flushed (piece.Plain t) h = and_left (is_plain t) true h
  flush_ok flushed piece.Value h = and_left under.has_value true h
  flush_ok flushed piece.Key h = h
  flush_ok flushed piece.Item h = h
  flush_ok flushed piece.Time h = h
  flush_ok flushed (piece.Read c) h = h
  flush_ok flushed piece.CellValue h = h
  flush_ok flushed (piece.FamilyCell f) h = h

  -- what an action does, as it is read
  record ActIs (d : PlainAct) (rest : List Laid) (ts : List Token) : Type 0 where
    at : ℕ
    written : WrittenDeed
    took : Took IsSign (Stand whole) (deed_signs at written) rest ts
    is : IsDeed 64 written
    means : resolved_act whole n under written ≡ Ok d

  read_writing : ItemsKnown n under → (v : Verb) (word : Reserved) (c : CellRef) (e : Term) (behind : List ℕ) (rest : List Laid) (ts : List Token)
      → w.Reserved word ≡ verb_word v
      → (ref_fits families under.keyed c && ref_has_sort families (sort_for v) c && is_good_term families under.keyed under.has_value e) ≡ true
      → (at_suits under.has_item c.at && term_suits under.has_item (is_version_3 n) e) ≡ true
      → Stand whole (reserved word blank ∷ cell_words families c blank (term_words families e behind rest)) ts → ActIs (act_with v c e) rest ts
  unfolding resolved_act
  read_writing items v word c e behind rest ts same fits suits h =
      let ref_ok = ref_fits families under.keyed c in
      let sort_ok = ref_has_sort families (sort_for v) c in
      let good = is_good_term families under.keyed under.has_value e in
      let at_ok = at_suits under.has_item c.at in
      let term_ok = term_suits under.has_item (is_version_3 n) e in
      let cell = read_cell whole utf8 families names n known_families under items c blank (term_words families e behind rest) h.1
      (three_left ref_ok sort_ok good fits) (and_left at_ok term_ok suits) h.4 in
      let amount = read_expression whole utf8 families names n known_families under items under.has_value e behind rest cell.took.rest refl
      (three_right ref_ok sort_ok good fits) (and_right at_ok term_ok suits) cell.took.stand in
      let sort : is_sort cell.family.sort (sort_for v) ≡ true = ap (λ o. has_sort o (sort_for v)) (sym cell.found) ∙ three_middle ref_ok sort_ok good fits in
      record {
        at = h.0.from;
        written = Writes v cell.written amount.tree;
        took = record {
          rest = amount.took.rest;
          begins = (
            h.0,
            h.1,
            h.2,
            (h.3.word ∙ same, refl),
            begins_append IsSign (cell_signs cell.written)
                (spelled amount.tree) h.1 cell.took.rest amount.took.rest cell.took.begins amount.took.begins,
          );
          stand = amount.took.stand;
        };
        is = amount.is;
        means =
            ap (λ (found : Found CellRef). found >>= λ cell. expression_of whole n under amount.tree >>= λ term. Ok (act_with v cell term))
            (cell.means (Some (sort_for v)) (sort_swapped cell.family.sort (sort_for v) sort))
            ∙ ap (λ (found : Found Term). found >>= λ term. Ok (act_with v c term)) amount.means;
      }

  -- a whole family is cleared, or one cell
  abbrev cleared : Bool → FamilyHead → WrittenRef → Found PlainAct
  cleared all family r = if all then Ok (ClearingFamily family.number) else (resolved_cell whole n under None r >>= λ cell. Ok (Clearing cell))

  read_act : ItemsKnown n under → (d : PlainAct) (behind : List ℕ) (rest : List Laid) (ts : List Token)
      → plain_act_fits families under.keyed under.has_value d ≡ true → act_suits under.has_item (is_version_3 n) d ≡ true
      → Stand whole (act_words families d behind rest) ts → ActIs d rest ts
  unfolding resolved_act
  read_act items (Adding c e) behind rest ts fits suits h = read_writing items verb.Add r.Add c e behind rest ts refl fits suits h
  read_act items (Raising c e) behind rest ts fits suits h = read_writing items verb.Raise r.Raise c e behind rest ts refl fits suits h
  read_act items (Setting c e) behind rest ts fits suits h = read_writing items verb.Set r.Set c e behind rest ts refl fits suits h
  read_act items (Clearing c) behind rest ts fits suits h =
      let cell = read_cell whole utf8 families names n known_families under items c behind rest h.1 fits suits h.4 in
      let written : WrittenRef = cell.written in
      let head : FamilyHead = family_head c.family cell.family in
      record {
        at = h.0.from;
        written = Clears cell.written;
        took = record { rest = cell.took.rest; begins = (h.0, h.1, h.2, (h.3.word, refl), cell.took.begins); stand = cell.took.stand };
        is = tt;
        means =
            ap (λ (found : Found FamilyHead). found >>= λ family. cleared (clears_whole n family written.key) family written) cell.looked
            ∙ ap (λ b. cleared b head written) (one_cell (is_version_3 n) cell.family.keyed written.key cell.brackets)
            ∙ ap (λ (found : Found CellRef). found >>= λ cell. Ok (Clearing cell)) (cell.means None refl);
      }
  read_act items (ClearingFamily i) behind rest ts fits suits h =
      let named = h.4 in
      let r : WrittenRef = record { family = span_of named.0; key = k.Alone } in
      let family = keyed_at families i fits in
      let head : FamilyHead = family_head i family.family in
      let looked : family_of whole n r.family ≡ Ok head =
      ap (λ name. known r.family.from (look_up name n.families)) (named.3.named refl ∙ ap family_name family.found)
      ∙ ap (known r.family.from) (known_families.declared i family.family family.found) in
      let all : clears_whole n head k.Alone ≡ true =
      both (is_version_3 n && head.keyed) true (both (is_version_3 n) head.keyed suits family.keyed) refl in
      record {
        at = h.0.from;
        written = Clears r;
        took = record {
          rest = named.1;
          begins = (h.0, h.1, h.2, (h.3.word, refl), (named.0, named.1, named.2, (ap is_name_word named.3.word, refl, refl), refl));
          stand = named.4;
        };
        is = tt;
        means =
            ap (λ (found : Found FamilyHead). found >>= λ family. cleared (clears_whole n family k.Alone) family r) looked
            ∙ ap (λ b. cleared b head r) all;
      }
  read_act items (Emitting ps) behind rest ts fits suits h =
      let t = h.4 in
      let span = span_of t.0 in
      let pieces = list_all (emit_piece_fits families under.keyed under.has_value) ps in
      let short = is_short (written_template families ps) in
      let ok = list_all_weaker emit_test (piece_ok whole utf8 families names n known_families under None 0) ps emit_ok
      (list_all_both (emit_piece_fits families under.keyed under.has_value) (piece_suits under.has_item true) ps
      (three_left pieces (are_apart ps) short fits) suits) in
      record {
        at = h.0.from;
        written = Emits span;
        took = record { rest = t.1; begins = (h.0, h.1, h.2, (h.3.word, refl), (t.0, t.1, t.2, (t.3.word, refl, refl), refl)); stand = t.4 };
        is = tt;
        means = ap (λ (found : Found (List Piece)). found >>= λ pieces. Ok (Emitting pieces))
            (read_template whole utf8 families names n known_families under None span.from items ps span refl
            (text_stands whole (written_template families ps) behind t.0 utf8 t.3) ok (three_middle pieces (are_apart ps) short fits)
            (three_right pieces (are_apart ps) short fits));
      }
  read_act items (Flushing i ps) behind rest ts fits suits h =
      let named = h.4 in
      let t = named.4 in
      let name_span = span_of named.0 in
      let span = span_of t.0 in
      let template_ok = flush_template_fits families i under.has_value ps in
      let family = keyed_at families i (and_left (is_keyed (slice_get families i)) template_ok fits) in
      let template = and_right (is_keyed (slice_get families i)) template_ok fits in
      let pieces = list_all (flush_piece_fits families i under.has_value) ps in
      let short = is_short (written_template families ps) in
      let ok = list_all_weaker (flush_test i) (piece_ok whole utf8 families names n known_families under (Some i) 0) ps (flush_ok i)
      (list_all_both (flush_piece_fits families i under.has_value) (piece_suits under.has_item (is_version_3 n)) ps
      (three_left pieces (are_apart ps) short template) suits) in
      let head : FamilyHead = family_head i family.family in
      let looked : family_of whole n name_span ≡ Ok head =
      ap (λ name. known name_span.from (look_up name n.families)) (named.3.named refl ∙ ap family_name family.found)
      ∙ ap (known name_span.from) (known_families.declared i family.family family.found) in
      record {
        at = h.0.from;
        written = Flushes name_span span;
        took = record {
          rest = t.1;
          begins = (
            h.0,
            h.1,
            h.2,
            (h.3.word, refl),
            (named.0, named.1, named.2, (ap is_name_word named.3.word, refl, refl), (t.0, t.1, t.2, (t.3.word, refl, refl), refl)),
          );
          stand = t.4;
        };
        is = tt;
        means =
            ap (λ (found : Found FamilyHead). found >>= λ family. unless family.keyed (f.WrongShape name_span.from) >>
            (template_of whole n under (Some family.number) span >>= λ pieces. Ok (Flushing family.number pieces))) looked
            ∙ ap (λ b. unless b (f.WrongShape name_span.from) >> (template_of whole n under (Some i) span >>= λ pieces. Ok (Flushing i pieces))) family.keyed
            ∙ ap (λ (found : Found (List Piece)). found >>= λ pieces. Ok (Flushing i pieces))
            (read_template whole utf8 families names n known_families under (Some i) span.from items ps span refl
            (text_stands whole (written_template families ps) behind t.0 utf8 t.3) ok (three_middle pieces (are_apart ps) short template)
            (three_right pieces (are_apart ps) short template));
      }

  -- a guard, as it is read
  record GuardIs (g : Option Term) (rest : List Laid) (ts : List Token) : Type 0 where
    written : Option Tree
    took : Took IsSign (Stand whole) (guard_signs written) rest ts
    is : IsGuard 64 written
    means : guard_of whole n under written ≡ Ok g

  read_guard : ItemsKnown n under → (g : Option Term) (behind : List ℕ) (rest : List Laid) (ts : List Token)
      → plain_guard_fits families under.keyed under.has_value g ≡ true → guard_suits under.has_item (is_version_3 n) g ≡ true
      → Stand whole (guard_words families g behind rest) ts → GuardIs g rest ts
  unfolding guard_of
  read_guard items None behind rest ts fits suits h = record { written = None; took = record { rest = ts; begins = refl; stand = h }; is = tt; means = refl }
  read_guard items (Some e) behind rest ts fits suits h =
      let guard = read_expression whole utf8 families names n known_families under items under.has_value e behind rest h.1 refl fits suits h.4 in
      record {
        written = Some guard.tree;
        took = record { rest = guard.took.rest; begins = (h.0, h.1, h.2, h.3.word, guard.took.begins); stand = guard.took.stand };
        is = guard.is;
        means = ap (λ (found : Found Term). found >>= λ t. Ok (Some t)) guard.means;
      }

  -- an action that was written means this one
  pub record Does (a : PlainAction) (d : WrittenDo) : Type 0 where
    pub deed : IsDeed 64 d.deed
    pub guard : IsGuard 64 d.guard
    pub means : action_of whole n under d ≡ Ok a

  -- what an action keeps
  abbrev pub action_ok : PlainAction → Bool
  action_ok a = plain_action_fits families under.keyed under.has_value a && action_suits under.has_item (is_version_3 n) a

  pub read_action : ItemsKnown n under → (a : PlainAction) (behind : List ℕ) (rest : List Laid) (ts : List Token) → action_ok a ≡ true
      → Stand whole (action_words families a behind rest) ts → ItemIs IsSign (Stand whole) action_signs Does a rest ts
  unfolding action_of
  read_action items a behind rest ts ok h =
      let act_ok = plain_act_fits families under.keyed under.has_value a.act in
      let guard_ok = plain_guard_fits families under.keyed under.has_value a.guard in
      let act_suits_ok = act_suits under.has_item (is_version_3 n) a.act in
      let guard_suits_ok = guard_suits under.has_item (is_version_3 n) a.guard in
      let fits = and_left (act_ok && guard_ok) (act_suits_ok && guard_suits_ok) ok in
      let suits = and_right (act_ok && guard_ok) (act_suits_ok && guard_suits_ok) ok in
      let act = read_act items a.act (behind_act a.guard behind) (guard_words families a.guard behind rest) ts (and_left act_ok guard_ok fits)
      (and_left act_suits_ok guard_suits_ok suits) h in
      let guard = read_guard items a.guard behind rest act.took.rest (and_right act_ok guard_ok fits) (and_right act_suits_ok guard_suits_ok suits)
      act.took.stand in
      record {
        written = record { at = act.at; deed = act.written; guard = guard.written };
        took = record {
          rest = guard.took.rest;
          begins = begins_append IsSign (deed_signs act.at act.written)
              (guard_signs guard.written) ts act.took.rest guard.took.rest act.took.begins guard.took.begins;
          stand = guard.took.stand;
        };
        is = record {
          deed = act.is;
          guard = guard.is;
          means =
              ap (λ (found : Found PlainAct). found >>= λ act. guard_of whole n under guard.written >>=
              λ guard. Ok (let action : PlainAction = record { act = act; guard = guard } in action)) act.means
              ∙ ap (λ (found : Found (Option Term)). found >>= λ guard. Ok
              (let action : PlainAction = record { act = a.act; guard = guard } in action)) guard.means;
        };
      }

  pub are_actions : (actions : List PlainAction) (dos : List WrittenDo) → Pairs Does actions dos → AreActions 64 dos
  are_actions [] [] h = tt
  are_actions [] (d ∷ dos) h = absurd h
  are_actions (a ∷ actions) [] h = absurd h
  are_actions (a ∷ actions) (d ∷ dos) h = (h.0.deed, h.0.guard, are_actions actions dos h.1)

  -- actions in order, at most 32
  pub do_all : (done actions : List PlainAction) (dos : List WrittenDo) → length done + length actions ≤ 32 → Pairs Does actions dos
      → each (with_action whole n under) done dos ≡ Ok (done ++ actions)
  unfolding each with_action
  do_all done [] [] few h = ap Ok (sym (append-nil done))
  do_all done [] (d ∷ dos) few h = absurd h
  do_all done (a ∷ actions) [] few h = absurd h
  do_all done (a ∷ actions) (d ∷ dos) few h =
      let space : nat_lt (length done) 32 ≡ true = lt_true (length done) 32 (omega arith) in
      let fewer : length (done ++ a ∷ []) + length actions ≤ 32 = omega (arith, few, length-append done (a ∷ [])) in
      ap (λ b. (unless b (f.OverLimit Actions 33) >> (action_of whole n under d >>= λ action. Ok (done ++ action ∷ []))) >>=
      λ t. each (with_action whole n under) t dos) space
      ∙ ap (λ (found : Found PlainAction). (found >>= λ action. Ok (done ++ action ∷ [])) >>= λ t. each (with_action whole n under) t dos) h.0.means
      ∙ do_all (done ++ a ∷ []) actions dos fewer h.1
      ∙ ap Ok (append_assoc done (a ∷ []) actions)
