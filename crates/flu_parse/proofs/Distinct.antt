-- Lists whose elements all differ.
use Rattle.std.proofs.Common.{◌≡◌, Bool, true, false, List, [], ◌∷◌, ◌++◌, refl, sym, ap, ◌∙◌}
use Rattle.std.specs.Prelude.{◌&&◌, ◌||◌, not}
use Rattle.std.specs.List.{list_any}
use Rattle.std.proofs.lemmas.Bool.{or_from}
use Rattle.std.proofs.lemmas.List.Folds.{list_any-append}
use Rattle.flu_lemmas.proofs.Booleans.{or_false_left, or_false_right}
use Rattle.flu_lemmas.proofs.Tests.{and_left, and_right, both, not_true}
use Rattle.flu_model.specs.Rules.{are_distinct}

-- the parts of a list whose elements all differ
pub distinct_front : {X : Type 0} (same : X → X → Bool) (xs ys : List X) → are_distinct same (xs ++ ys) ≡ true → are_distinct same xs ≡ true
distinct_front same [] ys h = refl
distinct_front same (x ∷ xs) ys h =
    let later = list_any (same x) (xs ++ ys) in
    let none = not_true later (and_left (not later) (are_distinct same (xs ++ ys)) h) in
    let front = or_false_left (list_any (same x) xs) (list_any (same x) ys) (sym (list_any-append (same x) xs ys) ∙ none) in
    both (not (list_any (same x) xs)) (are_distinct same xs) (ap not front)
    (distinct_front same xs ys (and_right (not later) (are_distinct same (xs ++ ys)) h))

pub distinct_back : {X : Type 0} (same : X → X → Bool) (xs ys : List X) → are_distinct same (xs ++ ys) ≡ true → are_distinct same ys ≡ true
distinct_back same [] ys h = h
distinct_back same (x ∷ xs) ys h = distinct_back same xs ys (and_right (not (list_any (same x) (xs ++ ys))) (are_distinct same (xs ++ ys)) h)

module _ {X : Type 0} (same : X → X → Bool) (symm : (x y : X) → same x y ≡ same y x) where
  -- an element that is like none of a list may be put at any place of it
  pub distinct_with : (xs ys : List X) (x : X) → are_distinct same (xs ++ ys) ≡ true → list_any (same x) (xs ++ ys) ≡ false
      → are_distinct same (xs ++ x ∷ ys) ≡ true
  distinct_with [] ys x apart other = ap (λ b. not b && are_distinct same ys) other ∙ apart
  distinct_with (a ∷ xs) ys x apart other =
      let not_again = not_true (list_any (same a) (xs ++ ys)) (and_left (not (list_any (same a) (xs ++ ys))) (are_distinct same (xs ++ ys)) apart) in
      let rest = and_right (not (list_any (same a) (xs ++ ys))) (are_distinct same (xs ++ ys)) apart in
      let parts = list_any-append (same a) xs ys in
      let before = or_false_left (list_any (same a) xs) (list_any (same a) ys) (sym parts ∙ not_again) in
      let behind = or_false_right (list_any (same a) xs) (list_any (same a) ys) (sym parts ∙ not_again) in
      let here = symm a x ∙ or_false_left (same x a) (list_any (same x) (xs ++ ys)) other in
      let still = list_any-append (same a) xs (x ∷ ys)
      ∙ or_from (list_any (same a) xs) (same a x || list_any (same a) ys) before (or_from (same a x) (list_any (same a) ys) here behind) in
      both (not (list_any (same a) (xs ++ x ∷ ys))) (are_distinct same (xs ++ x ∷ ys)) (ap not still)
      (distinct_with xs ys x rest (or_false_right (same x a) (list_any (same x) (xs ++ ys)) other))
