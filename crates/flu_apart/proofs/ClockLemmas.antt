-- The first clock whose itag a subtree has, and a subtree that has none.
use Rattle.std.proofs.Common.{◌≡◌, ◌+◌, ◌-◌, ◌<◌, ℕ, Bool, true, false, cond, Option, Some, None, List, [], ◌∷◌, ◌++◌, suc, inl, inr, refl, sym, ap, ◌∙◌, arith}
use Rattle.std.specs.Prelude.{◌&&◌, ◌||◌, option_map, position}
use Rattle.std.specs.List.{list_any, range_with_len}
use Rattle.std.proofs.lemmas.Bool.{cases_Bool, or_parts}
use Rattle.std.proofs.lemmas.List.FromFn.{length-range_with_len}
use Rattle.flu_lemmas.proofs.Places.{position-cons, position_behind}
use Rattle.flu_lemmas.proofs.Ranges.{any_in_range, found_in_range, range_append}
use Rattle.flu_lemmas.proofs.Tests.{and_left, and_right, both, not_both}
use Rattle.flu_model.specs.declared.jobs.Program.{Program}
use Rattle.flu_model.specs.declared.plans.Node.{Node}
use Rattle.flu_model.specs.Itags.{count_of_itags, source_of_itag}
use Rattle.flu_apart.specs.Apart.{HasNoTicks, first_clock}
use Rattle.flu_apart.specs.Classes.{itag, has_ticks, inside}

-- ---- the first place where a test passes
module _ {X : Type 0} (p : X → Bool) where
  -- where no place is the first, none passes
  none_passes : (xs : List X) → position p xs ≡ None → list_any p xs ≡ false
  none_passes [] none = refl
  none_passes (x ∷ xs) none = by_test (p x) refl (position p xs) refl (sym (position-cons p x xs) ∙ none) (none_passes xs)
    where
      by_test : (b : Bool) → p x ≡ b → (o : Option ℕ) → position p xs ≡ o → cond b (Some 0) (option_map (λ i. i + 1) o) ≡ None
          → (position p xs ≡ None → list_any p xs ≡ false) → (p x || list_any p xs) ≡ false
      by_test true is o later h more = cc
      by_test false is (Some i) later h more = cc
      by_test false is None later h more = ap (λ b. b || list_any p xs) is ∙ more later

  -- where none passes, no place is the first
  no_place : (xs : List X) → list_any p xs ≡ false → position p xs ≡ None
  no_place [] none = refl
  no_place (x ∷ xs) none =
      let parts = or_parts (p x) (list_any p xs) none in
      let later = no_place xs parts.1 in
      position-cons p x xs ∙ (λ j. cond (parts.0 j) (Some 0) (option_map (λ i. i + 1) (later j)))

-- the first number of a run that passes
first_in_range : (p : ℕ → Bool) (n i : ℕ) → i < n → list_any p (range_with_len 0 i) ≡ false → p i ≡ true → position p (range_with_len 0 n) ≡ Some i
first_in_range p n i lt none e =
    let parts : n ≡ i + suc (n - i - 1) = omega arith in
    let front : 0 + i ≡ i = omega arith in
    let list : range_with_len 0 n ≡ range_with_len 0 i ++ i ∷ range_with_len (i + 1) (n - i - 1) =
    ap (range_with_len 0) parts ∙ range_append 0 i (suc (n - i - 1)) ∙ ap (λ k. range_with_len 0 i ++ range_with_len k (suc (n - i - 1))) front in
    ap (position p) list ∙ position_behind p (range_with_len 0 i) (range_with_len (i + 1) (n - i - 1)) i none e ∙ ap Some (length-range_with_len 0 i)

pub some_or_none : (n : ℕ) → Some n ≡ None → ⊥
some_or_none n e = cc

-- ---- the first clock of a subtree
module _ (p : Program) (nodes : List Node) (w : ℕ) where
  -- the subtree has an itag, and it is of a clock
  abbrev pub of_clock : ℕ → Bool
  of_clock i = inside p nodes w i && has_ticks p i

  pub first_at : (i : ℕ) → i < count_of_itags p → list_any of_clock (range_with_len 0 i) ≡ false → of_clock i ≡ true
      → first_clock p nodes w ≡ Some (source_of_itag p (itag i))
  first_at i lt none e = ap (option_map (λ k. source_of_itag p (itag k))) (first_in_range of_clock (count_of_itags p) i lt none e)

  pub none_at : list_any of_clock (range_with_len 0 (count_of_itags p)) ≡ false → first_clock p nodes w ≡ None
  none_at none = ap (option_map (λ k. source_of_itag p (itag k))) (no_place of_clock (range_with_len 0 (count_of_itags p)) none)

  -- none is the first where there is none, and only there
  pub no_ticks : first_clock p nodes w ≡ None → HasNoTicks p nodes w
  no_ticks none i lt inner =
      elim (cases_Bool (has_ticks p i)) [
        | inl ticks ↦
            let some = any_in_range of_clock 0 (count_of_itags p) i (omega arith) (omega arith) (both (inside p nodes w i) _ inner ticks) in
            absurd (not_both _ some (none_passes of_clock (range_with_len 0 (count_of_itags p)) (no_place_mapped _ none)))
        | inr still ↦ still
      ]
    where
      no_place_mapped : (o : Option ℕ) → option_map (λ k. source_of_itag p (itag k)) o ≡ None → o ≡ None
      no_place_mapped None e = refl
      no_place_mapped (Some k) e = cc

  pub no_first : HasNoTicks p nodes w → first_clock p nodes w ≡ None
  no_first still =
      none_at (elim (cases_Bool (list_any of_clock (range_with_len 0 (count_of_itags p)))) [
        | inl some ↦
            let found = found_in_range of_clock 0 (count_of_itags p) some in
            let high = found.high in
            let lt : found.number < count_of_itags p = omega (arith, high) in
            absurd (not_both (has_ticks p found.number) (and_right (inside p nodes w found.number) _ found.passes)
            (still found.number lt (and_left _ _ found.passes)))
        | inr none ↦ none
      ])
