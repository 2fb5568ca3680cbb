-- What came with version 3: the word `item` where a cell may be named, and division.
use Rattle.std.proofs.Common.{◌≡◌, ◌≢◌, ℕ, Bool, true, false, List, refl, sym, ap, subst, ◌∙◌}
use Rattle.std.specs.Prelude.{not, ◌==◌, ◌&&◌, ◌||◌, codes}
use Rattle.std.specs.Str.{bytes_eq}
use Rattle.flu_lemmas.proofs.Booleans.{or_true, or_false_left, or_false_right, and_false}
use Rattle.flu_lemmas.proofs.Bytes.{bytes_is}
use Rattle.flu_lemmas.proofs.Searches.{eq_true}
use Rattle.flu_lemmas.proofs.Tests.{and_left, and_right, both, false_if_not, not_both, true_eq}
use Rattle.flu_model.specs.declared.jobs.Op.{Op}
use Rattle.flu_model.specs.Versions.{op_divides}
use Rattle.flu_grammar.specs.Means.{IsItemWord}

pub not_false : (b : Bool) → not b ≡ false → b ≡ true
not_false true e = refl
not_false false e = absurd cc

module _ (version : ℕ) (word : List ℕ) where
  abbrev pub is_item_word : Bool
  is_item_word = (version == 3) && bytes_eq word (codes "item")

  pub item_word : is_item_word ≡ true → IsItemWord version word
  item_word e =
      let named = bytes_eq word (codes "item") in
      (true_eq version 3 (and_left (version == 3) named e), bytes_is word (codes "item") (and_right (version == 3) named e))

  pub is_item : IsItemWord version word → is_item_word ≡ true
  is_item is =
      both (version == 3) (bytes_eq word (codes "item")) (eq_true version 3 is.0)
      (subst (λ (s : List ℕ). bytes_eq s (codes "item") ≡ true) (sym is.1) refl)

  pub no_item_word : is_item_word ≡ false → ¬ IsItemWord version word
  no_item_word e is = not_both is_item_word (is_item is) e

  pub not_item : ¬ IsItemWord version word → is_item_word ≡ false
  not_item other = false_if_not is_item_word (λ e. other (item_word e))

  -- another word is none
  pub other_word : bytes_eq word (codes "item") ≡ false → is_item_word ≡ false
  other_word e = ap (λ b. (version == 3) && b) e ∙ and_false (version == 3)

-- ---- division

pub divides_in : (version : ℕ) (op : Op) → ((version == 3) || not (op_divides op)) ≡ true → op_divides op ≡ true → version ≡ 3
divides_in version op e divides = by (version == 3) refl (op_divides op) divides e
  where
    by : (b : Bool) → (version == 3) ≡ b → (c : Bool) → c ≡ true → (b || not c) ≡ true → version ≡ 3
    by true is c divides e = true_eq version 3 is
    by false is true divides e = absurd cc
    by false is false divides e = absurd cc

-- where it does not fit, it is a division in another version
pub divides_before : (version : ℕ) (op : Op) → ((version == 3) || not (op_divides op)) ≡ false → (version ≢ 3) × (op_divides op ≡ true)
divides_before version op fails = (
  λ third. not_both (version == 3) (eq_true version 3 third) (or_false_left (version == 3) (not (op_divides op)) fails),
  not_false (op_divides op) (or_false_right (version == 3) (not (op_divides op)) fails),
)

pub fits_in : (version : ℕ) (op : Op) → (op_divides op ≡ true → version ≡ 3) → ((version == 3) || not (op_divides op)) ≡ true
fits_in version op fits = by (op_divides op) fits
  where
    by : (c : Bool) → (c ≡ true → version ≡ 3) → ((version == 3) || not c) ≡ true
    by true fits = ap (λ b. b || false) (eq_true version 3 (fits refl))
    by false fits = or_true (version == 3)
