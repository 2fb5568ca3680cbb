-- The family that a reference names, and the laying out of cells and expressions.
use Rattle.std.proofs.Common.{◌≡◌, ◌^◌, ℕ, pos, Bool, true, List, [], ◌∷◌, Option, Some, None, refl, ap, ◌∙◌, arith}
use Rattle.std.specs.Prelude.{nat_lt, slice_get}
use Rattle.std.specs.List.{list_all}
use Rattle.flu_lemmas.proofs.Tests.{and_left, and_right}
use Rattle.flu_lemmas.proofs.Numbers.{lt_wider}
use Rattle.flu_lemmas.proofs.Elements.{passes_at}
use Rattle.flu_names.specs.declared.reserved.Reserved.TheVariants as r
use Rattle.flu_names.specs.Names.{is_name}
use Rattle.flu_text.specs.declared.words.Mark.TheVariants as m
use Rattle.flu_text.specs.Layout.{Piece as Laid}
use Rattle.flu_model.specs.declared.jobs.Family.{Family}
use Rattle.flu_model.specs.declared.jobs.At.{At}
use Rattle.flu_model.specs.declared.jobs.At.TheVariants as at
use Rattle.flu_model.specs.declared.jobs.CellRef.{CellRef}
use Rattle.flu_model.specs.declared.jobs.Op.{Op}
use Rattle.flu_model.specs.declared.jobs.Op.TheVariants as op
use Rattle.flu_model.specs.Contents.{key_count}
use Rattle.flu_model.specs.Erasure.{Term, Literal, EventValue, EventKey, EventItem, EventTime, CellRead, CellHeld, Negative, Negation, Operation}
use Rattle.flu_model.specs.Rules.{key_fits, family_fits, ref_fits, is_literal}
use Rattle.flu_model.specs.Templates.{family_name}
use Rattle.flu_layout.specs.Laid.{blank, reserved, mark, item, AreLaid, Follows, laid_name, laid_item, laid_reserved, laid_number, laid_mark, laid_spaced}
use Rattle.flu_parse.proofs.Printed.Words.{operator, behind_name, key_words, cell_words, term_words}
use Rattle.flu_parse.proofs.Kept.Plain.{term_fits}

-- the family that a reference names
pub record FamilyAt (families : List Family) (keyed : Bool) (c : CellRef) : Type 0 where
  pub family : Family
  pub found : slice_get families c.family ≡ Some family
  pub fits : key_fits family.keyed keyed c.at ≡ true

pub family_at : (families : List Family) (keyed : Bool) (c : CellRef) → ref_fits families keyed c ≡ true → FamilyAt families keyed c
family_at families keyed c h = by (slice_get families c.family) refl h
  where
    by : (o : Option Family) → slice_get families c.family ≡ o → family_fits o keyed c.at ≡ true → FamilyAt families keyed c
    by None found fits = absurd cc
    by (Some f) found fits = record { family = f; found = found; fits = fits }

-- operators
pub laid_operator : (o : Op) (rest : List Laid) → AreLaid rest → AreLaid (operator o blank ∷ rest)
laid_operator op.Plus rest laid = laid_spaced m.Plus rest laid
laid_operator op.Minus rest laid = laid_spaced m.Minus rest laid
laid_operator op.Times rest laid = laid_spaced m.Times rest laid
laid_operator op.Divide rest laid = laid_spaced m.Divide rest laid
laid_operator op.Remainder rest laid = laid_spaced m.Remainder rest laid
laid_operator op.Less rest laid = laid_spaced m.Less rest laid
laid_operator op.LessEq rest laid = laid_spaced m.LessEq rest laid
laid_operator op.More rest laid = laid_spaced m.More rest laid
laid_operator op.MoreEq rest laid = laid_spaced m.MoreEq rest laid
laid_operator op.Same rest laid = laid_spaced m.Same rest laid
laid_operator op.Differs rest laid = laid_spaced m.Differs rest laid
laid_operator op.Both rest laid = laid_reserved r.And blank rest refl refl laid
laid_operator op.Either rest laid = laid_reserved r.Or blank rest refl refl laid

module _ (families : List Family) (names : list_all (λ (f : Family). is_name f.name) families ≡ true) where
  pub family_named : (i : ℕ) (f : Family) → slice_get families i ≡ Some f → is_name (family_name (slice_get families i)) ≡ true
  family_named i f found = ap (λ o. is_name (family_name o)) found ∙ passes_at (λ (f : Family). is_name f.name) families i f names found

  laid_key : (a : At) (family_keyed keyed : Bool) (behind : List ℕ) (rest : List Laid) → key_fits family_keyed keyed a ≡ true → Follows behind rest
      → Follows (behind_name a behind) (key_words a behind rest)
  laid_key at.Alone family_keyed keyed behind rest fits f = f
  laid_key at.OwnKey family_keyed keyed behind rest fits f =
      let closed : AreLaid (mark m.CloseBracket behind ∷ rest) = laid_mark m.CloseBracket behind rest (λ b. refl) f.blank f.laid in
      let key : AreLaid (reserved r.Key [] ∷ mark m.CloseBracket behind ∷ rest) = laid_reserved r.Key [] (mark m.CloseBracket behind ∷ rest) refl refl closed in
      record { blank = refl; ends = refl; laid = laid_mark m.OpenBracket [] (reserved r.Key [] ∷ mark m.CloseBracket behind ∷ rest) (λ b. refl) refl key }
  laid_key at.OwnItem family_keyed keyed behind rest fits f =
      let closed : AreLaid (mark m.CloseBracket behind ∷ rest) = laid_mark m.CloseBracket behind rest (λ b. refl) f.blank f.laid in
      let word : AreLaid (item [] ∷ mark m.CloseBracket behind ∷ rest) = laid_item [] (mark m.CloseBracket behind ∷ rest) refl refl closed in
      record { blank = refl; ends = refl; laid = laid_mark m.OpenBracket [] (item [] ∷ mark m.CloseBracket behind ∷ rest) (λ b. refl) refl word }
  laid_key (at.Fixed k) family_keyed keyed behind rest fits f =
      let closed : AreLaid (mark m.CloseBracket behind ∷ rest) = laid_mark m.CloseBracket behind rest (λ b. refl) f.blank f.laid in
      let small : is_literal (pos k) ≡ true = lt_wider k key_count (2 ^ 63) (omega arith) (and_right family_keyed (nat_lt k key_count) fits) in
      let key = laid_number (pos k) [] (mark m.CloseBracket behind ∷ rest) small refl refl closed in
      record { blank = refl; ends = refl; laid = laid_mark m.OpenBracket [] _ (λ b. refl) refl key }

  pub laid_cell : (keyed : Bool) (c : CellRef) (behind : List ℕ) (rest : List Laid) → ref_fits families keyed c ≡ true → Follows behind rest
      → AreLaid (cell_words families c behind rest)
  laid_cell keyed c behind rest fits f =
      let found = family_at families keyed c fits in
      let key = laid_key c.at found.family.keyed keyed behind rest found.fits f in
      laid_name (family_name (slice_get families c.family)) (behind_name c.at behind) (key_words c.at behind rest)
      (family_named c.family found.family found.found) key.blank key.ends key.laid

  -- behind what stands in parentheses
  laid_close : (behind : List ℕ) (rest : List Laid) → Follows behind rest → Follows [] (mark m.CloseParen behind ∷ rest)
  laid_close behind rest f = record { blank = refl; ends = refl; laid = laid_mark m.CloseParen behind rest (λ b. refl) f.blank f.laid }

  pub laid_term : (keyed has_value : Bool) (e : Term) (behind : List ℕ) (rest : List Laid) → term_fits families keyed has_value e ≡ true → Follows behind rest
      → AreLaid (term_words families e behind rest)
  laid_term keyed has_value (Literal n) behind rest fits f = laid_number n behind rest fits f.blank f.ends f.laid
  laid_term keyed has_value EventValue behind rest fits f = laid_reserved r.Value behind rest f.blank f.ends f.laid
  laid_term keyed has_value EventKey behind rest fits f = laid_reserved r.Key behind rest f.blank f.ends f.laid
  laid_term keyed has_value EventItem behind rest fits f = laid_item behind rest f.blank f.ends f.laid
  laid_term keyed has_value EventTime behind rest fits f = laid_reserved r.Time behind rest f.blank f.ends f.laid
  laid_term keyed has_value (CellRead c) behind rest fits f = laid_cell keyed c behind rest fits f
  laid_term keyed has_value (CellHeld c) behind rest fits f = laid_reserved r.Has blank (cell_words families c behind rest) refl refl
      (laid_cell keyed c behind rest fits f)
  laid_term keyed has_value (Negative e) behind rest fits f =
      let inner = laid_term keyed has_value e [] (mark m.CloseParen behind ∷ rest) fits (laid_close behind rest f) in
      laid_mark m.OpenParen [] _ (λ b. refl) refl (laid_spaced m.Minus _ inner)
  laid_term keyed has_value (Negation e) behind rest fits f =
      let inner = laid_term keyed has_value e [] (mark m.CloseParen behind ∷ rest) fits (laid_close behind rest f) in
      laid_mark m.OpenParen [] _ (λ b. refl) refl (laid_reserved r.Not blank _ refl refl inner)
  laid_term keyed has_value (Operation o a b) behind rest fits f =
      let left_fits = term_fits families keyed has_value a in
      let right_fits = term_fits families keyed has_value b in
      let right = laid_term keyed has_value b [] (mark m.CloseParen behind ∷ rest) (and_right left_fits right_fits fits) (laid_close behind rest f) in
      let sign = laid_operator o (term_words families b [] (mark m.CloseParen behind ∷ rest)) right in
      let left = laid_term keyed has_value a blank (operator o blank ∷ term_words families b [] (mark m.CloseParen behind ∷ rest))
      (and_left left_fits right_fits fits)
      (record { blank = refl; ends = refl; laid = sign }) in
      laid_mark m.OpenParen [] _ (λ b. refl) refl left
