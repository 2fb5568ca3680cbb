-- Lists whose elements all differ by a test, one behind another. The test of a list is any that is made so.
use Rattle.std.proofs.Common.{◌≡◌, Bool, true, false, List, [], ◌∷◌, ◌++◌, refl, sym, ap, ◌∙◌}
use Rattle.std.specs.Prelude.{◌&&◌, ◌||◌, not}
use Rattle.std.specs.List.{list_any}
use Rattle.std.proofs.lemmas.List.Folds.{list_any-append}

regrouped : (a b c d e : Bool) → (not (a || b) && (d && not c && e)) ≡ ((not a && d) && not (b || c) && e)
regrouped true b c d e = refl
regrouped false true c true e = refl
regrouped false true c false e = refl
regrouped false false c d e = refl

module _ {X : Type 0} (same : X → X → Bool) (distinct : List X → Bool) (none : distinct [] ≡ true)
    (more : (x : X) (xs : List X) → distinct (x ∷ xs) ≡ (not (list_any (same x) xs) && distinct xs)) where
  pub distinct-append : (xs ys : List X) → distinct (xs ++ ys) ≡ (distinct xs && not (list_any (λ x. list_any (same x) ys) xs) && distinct ys)
  distinct-append [] ys = ap (λ b. b && true && distinct ys) (sym none)
  distinct-append (x ∷ xs) ys =
      more x (xs ++ ys)
      ∙ ap (λ b. not b && distinct (xs ++ ys)) (list_any-append (same x) xs ys)
      ∙ ap (λ b. not (list_any (same x) xs || list_any (same x) ys) && b) (distinct-append xs ys)
      ∙ regrouped (list_any (same x) xs) (list_any (same x) ys) (list_any (λ x. list_any (same x) ys) xs) (distinct xs) (distinct ys)
      ∙ ap (λ b. b && not (list_any (λ x. list_any (same x) ys) (x ∷ xs)) && distinct ys) (sym (more x xs))
