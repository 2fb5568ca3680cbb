-- The laying out of actions.
use Rattle.std.proofs.Common.{◌≡◌, ℕ, Bool, true, ◌&&◌, List, ◌∷◌, length, Option, Some, None, refl}
use Rattle.std.specs.Prelude.{nat_le, slice_get}
use Rattle.std.specs.List.{list_all}
use Rattle.flu_lemmas.proofs.Booleans.{three_left, three_right}
use Rattle.flu_lemmas.proofs.Elements.{list_all_weaker}
use Rattle.flu_lemmas.proofs.Tests.{and_left, and_right, true_le}
use Rattle.flu_names.specs.declared.reserved.Reserved.{Reserved}
use Rattle.flu_names.specs.declared.reserved.Reserved.TheVariants as r
use Rattle.flu_names.specs.Names.{is_name, is_text_byte}
use Rattle.flu_text.specs.Layout.{Piece as Laid}
use Rattle.flu_model.specs.declared.jobs.Sort.{Sort}
use Rattle.flu_model.specs.declared.jobs.Sort.TheVariants.{Sum, Max, Last}
use Rattle.flu_model.specs.declared.jobs.Family.{Family}
use Rattle.flu_model.specs.declared.jobs.CellRef.{CellRef}
use Rattle.flu_model.specs.declared.jobs.Piece.{Piece}
use Rattle.flu_model.specs.Erasure.{Term, PlainAct, Adding, Raising, Setting, Clearing, ClearingFamily, Emitting, Flushing, PlainAction}
use Rattle.flu_model.specs.Rules.{is_keyed, ref_fits, ref_has_sort, emit_piece_fits, flush_piece_fits, are_apart, is_short, emit_template_fits}
use Rattle.flu_model.specs.Rules.{flush_template_fits}
use Rattle.flu_model.specs.Templates.{family_name, written_template}
use Rattle.flu_layout.specs.Laid.{blank, reserved, AreLaid, laid_name, laid_reserved, laid_text, Follows}
use Rattle.flu_parse.proofs.Kept.Plain.{term_fits, term_height, is_good_term, plain_act_fits, plain_guard_fits, plain_action_fits}
use Rattle.flu_parse.proofs.Printed.Words.{cell_words, term_words, act_words, behind_act, guard_words, action_words}
use Rattle.flu_parse.proofs.Printed.LaidCells.{family_named, laid_cell, laid_term}
use Rattle.flu_parse.proofs.Printed.LaidTexts.{piece_keeps, emit_keeps, flush_keeps, template_bytes}

-- the family of a keyed one's number
pub record KeyedAt (families : List Family) (i : ℕ) : Type 0 where
  pub family : Family
  pub found : slice_get families i ≡ Some family
  pub keyed : family.keyed ≡ true

pub keyed_at : (families : List Family) (i : ℕ) → is_keyed (slice_get families i) ≡ true → KeyedAt families i
keyed_at families i h = by (slice_get families i) refl h
  where
    by : (o : Option Family) → slice_get families i ≡ o → is_keyed o ≡ true → KeyedAt families i
    by None found keyed = absurd cc
    by (Some f) found keyed = record { family = f; found = found; keyed = keyed }

module _ (families : List Family) (names : list_all (λ (f : Family). is_name f.name) families ≡ true) (keyed has_value : Bool) where
  emit_bytes : (ps : List Piece) → emit_template_fits families keyed has_value ps ≡ true → list_all is_text_byte (written_template families ps) ≡ true
  emit_bytes ps h =
      let pieces = list_all (emit_piece_fits families keyed has_value) ps in
      template_bytes families names keyed ps
      (list_all_weaker (emit_piece_fits families keyed has_value) (piece_keeps families keyed) ps (emit_keeps families keyed has_value)
      (three_left pieces (are_apart ps) (is_short (written_template families ps)) h))

  flush_bytes : (flushed : ℕ) (ps : List Piece) → flush_template_fits families flushed has_value ps ≡ true
      → list_all is_text_byte (written_template families ps) ≡ true
  flush_bytes flushed ps h =
      let pieces = list_all (flush_piece_fits families flushed has_value) ps in
      template_bytes families names keyed ps
      (list_all_weaker (flush_piece_fits families flushed has_value) (piece_keeps families keyed) ps (flush_keeps families flushed keyed has_value)
      (three_left pieces (are_apart ps) (is_short (written_template families ps)) h))

  -- a cell, and an expression behind it
  laid_writing : (word : Reserved) (sort : Sort) (c : CellRef) (e : Term) (behind : List ℕ) (rest : List Laid)
      → (ref_fits families keyed c && ref_has_sort families sort c && is_good_term families keyed has_value e) ≡ true → Follows behind rest
      → AreLaid (reserved word blank ∷ cell_words families c blank (term_words families e behind rest))
  laid_writing word sort c e behind rest fits f =
      let ref_ok = ref_fits families keyed c in
      let sort_ok = ref_has_sort families sort c in
      let good = three_right ref_ok sort_ok (is_good_term families keyed has_value e) fits in
      let amount = laid_term families names keyed has_value e behind rest
      (and_left (term_fits families keyed has_value e) (nat_le (term_height e) 32) good) f in
      let cell = laid_cell families names keyed c blank (term_words families e behind rest)
      (three_left ref_ok sort_ok (is_good_term families keyed has_value e) fits)
      (record { blank = refl; ends = refl; laid = amount }) in
      laid_reserved word blank _ refl refl cell

  laid_act : (act : PlainAct) (behind : List ℕ) (rest : List Laid) → plain_act_fits families keyed has_value act ≡ true → Follows behind rest
      → AreLaid (act_words families act behind rest)
  laid_act (Adding c e) behind rest fits f = laid_writing r.Add Sum c e behind rest fits f
  laid_act (Raising c e) behind rest fits f = laid_writing r.Raise Max c e behind rest fits f
  laid_act (Setting c e) behind rest fits f = laid_writing r.Set Last c e behind rest fits f
  laid_act (Clearing c) behind rest fits f = laid_reserved r.Clear blank _ refl refl (laid_cell families names keyed c behind rest fits f)
  laid_act (ClearingFamily i) behind rest fits f =
      let found = keyed_at families i fits in
      let family = laid_name (family_name (slice_get families i)) behind rest (family_named families names i found.family found.found) f.blank f.ends f.laid in
      laid_reserved r.Clear blank _ refl refl family
  laid_act (Emitting ps) behind rest fits f =
      let template = written_template families ps in
      let short = three_right (list_all (emit_piece_fits families keyed has_value) ps) (are_apart ps) (is_short template) fits in
      laid_reserved r.Emit blank _ refl refl (laid_text template behind rest (emit_bytes ps fits) (true_le (length template) 256 short) f.blank f.laid)
  laid_act (Flushing i ps) behind rest fits f =
      let template = written_template families ps in
      let found = keyed_at families i (and_left (is_keyed (slice_get families i)) (flush_template_fits families i has_value ps) fits) in
      let good = and_right (is_keyed (slice_get families i)) (flush_template_fits families i has_value ps) fits in
      let short = three_right (list_all (flush_piece_fits families i has_value) ps) (are_apart ps) (is_short template) good in
      let quoted = laid_text template behind rest (flush_bytes i ps good) (true_le (length template) 256 short) f.blank f.laid in
      let family = laid_name (family_name (slice_get families i)) blank _ (family_named families names i found.family found.found) refl refl quoted in
      laid_reserved r.Flush blank _ refl refl family

  laid_guard : (g : Option Term) (behind : List ℕ) (rest : List Laid) → plain_guard_fits families keyed has_value g ≡ true → Follows behind rest
      → Follows (behind_act g behind) (guard_words families g behind rest)
  laid_guard None behind rest fits f = f
  laid_guard (Some e) behind rest fits f =
      let guard = laid_term families names keyed has_value e behind rest (and_left (term_fits families keyed has_value e) (nat_le (term_height e) 32) fits) f in
      record { blank = refl; ends = refl; laid = laid_reserved r.When blank _ refl refl guard }

  pub laid_action : (a : PlainAction) (behind : List ℕ) (rest : List Laid) → plain_action_fits families keyed has_value a ≡ true → Follows behind rest
      → AreLaid (action_words families a behind rest)
  laid_action a behind rest fits f =
      let act_ok = plain_act_fits families keyed has_value a.act in
      let guard_ok = plain_guard_fits families keyed has_value a.guard in
      laid_act a.act (behind_act a.guard behind) (guard_words families a.guard behind rest) (and_left act_ok guard_ok fits)
      (laid_guard a.guard behind rest (and_right act_ok guard_ok fits) f)
