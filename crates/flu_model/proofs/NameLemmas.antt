-- Texts of lists of names that are looked up.
use Rattle.std.proofs.Common.{◌≡◌, ℕ, Bool, true, false, List, [], ◌∷◌, ◌++◌, Some, None, refl, sym, ap, ◌∙◌, cond, subst, map, ◌+◌}
use Rattle.std.specs.Prelude.{position, option_map, not, ◌&&◌, ◌||◌, if◌then◌else◌}
use Rattle.std.specs.List.{AllByRecursion, list_any}
use Rattle.std.specs.Str.{bytes_eq, IsUtf8}
use Rattle.std.specs.Cmp.Lexicographic.{nat_list_eq_equiv}
use Rattle.std.proofs.lemmas.List.{map-append}
use Rattle.flu_lemmas.proofs.Bytes.{bytes_is}
use Rattle.flu_lemmas.proofs.Distinct.{distinct-append}
use Rattle.flu_lemmas.proofs.Searches.{list_any-map}
use Rattle.flu_model.specs.Rules.{is_same_text, are_distinct}
use Rattle.flu_lemmas.proofs.Places.{position-cons}

one_more : (t u : List ℕ) (us : List (List ℕ)) → IsUtf8 u → ¬ (IsUtf8 t) → position (bytes_eq t) us ≡ None
    → (b : Bool) → bytes_eq t u ≡ b → position (bytes_eq t) (u ∷ us) ≡ None
one_more t u us text other rest true same = absurd (other (subst IsUtf8 (sym (bytes_is t u same)) text))
one_more t u us text other rest false differs =
    position-cons (bytes_eq t) u us ∙ ap (λ b. cond b (Some 0) (option_map (λ i. i + 1) (position (bytes_eq t) us))) differs
    ∙ ap (option_map (λ i. i + 1)) rest

-- bytes that are not UTF-8 are none of the texts
pub other_bytes : (t : List ℕ) (ts : List (List ℕ)) → AllByRecursion IsUtf8 ts → ¬ (IsUtf8 t) → position (bytes_eq t) ts ≡ None
other_bytes t [] all other = refl
other_bytes t (u ∷ us) all other = one_more t u us all.0 other (other_bytes t us all.1 other) (bytes_eq t u) refl

-- ---- no two texts are the same
has_the_text : (t : List ℕ) (us : List (List ℕ)) → list_any (λ u. list_any (is_same_text u) (t ∷ [])) us ≡ list_any (is_same_text t) us
has_the_text t [] = refl
has_the_text t (u ∷ us) = or_end (is_same_text u t) (is_same_text t u) (nat_list_eq_equiv.symm u t) _ _ (has_the_text t us)
  where
    or_end : (a b : Bool) → a ≡ b → (c d : Bool) → c ≡ d → ((a || false) || c) ≡ (b || d)
    or_end true b e c d f = ap (λ x. x || d) e
    or_end false b e c d f = f ∙ ap (λ x. x || d) e

apart_still : (t : List ℕ) (us : List (List ℕ)) → are_distinct is_same_text us ≡ true → list_any (is_same_text t) us ≡ false
    → are_distinct is_same_text (us ++ t ∷ []) ≡ true
apart_still t us apart new =
    distinct-append is_same_text (are_distinct is_same_text) refl (λ x xs. refl) us (t ∷ [])
    ∙ ap (λ b. b && not (list_any (λ u. list_any (is_same_text u) (t ∷ [])) us) && true) apart
    ∙ ap (λ b. not b && true) (has_the_text t us ∙ new)

utf8_still : (t : List ℕ) (us : List (List ℕ)) → AllByRecursion IsUtf8 us → IsUtf8 t → AllByRecursion IsUtf8 (us ++ t ∷ [])
utf8_still t [] all text = (text, tt)
utf8_still t (u ∷ us) all text = (all.0, utf8_still t us all.1 text)

-- what holds of the texts when one more is put behind them where it is not there yet
abbrev pub AreTexts : List (List ℕ) → Type 0
AreTexts us = AllByRecursion IsUtf8 us × (are_distinct is_same_text us ≡ true)

module _ {X : Type 0} (bytes : X → List ℕ) (x : X) (xs : List X) where
  by_test : (found : Bool) → list_any (λ y. bytes_eq (bytes x) (bytes y)) xs ≡ found → AreTexts (map bytes xs) → IsUtf8 (bytes x)
      → AreTexts (map bytes (if found then xs else xs ++ x ∷ []))
  by_test true e texts text = texts
  by_test false e texts text =
      subst AreTexts (sym (map-append bytes xs (x ∷ []))) (
        utf8_still (bytes x) (map bytes xs) texts.0 text,
        apart_still (bytes x) (map bytes xs) texts.1 (list_any-map (bytes_eq (bytes x)) bytes xs ∙ e),
      )

  pub texts_still : AreTexts (map bytes xs) → IsUtf8 (bytes x) → AreTexts (map bytes (if list_any (λ y. bytes_eq (bytes x) (bytes y)) xs then xs else xs ++ x ∷ []))
  texts_still texts text = by_test (list_any (λ y. bytes_eq (bytes x) (bytes y)) xs) refl texts text
