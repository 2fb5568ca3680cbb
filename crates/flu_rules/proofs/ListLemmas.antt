-- The texts of a list, one behind another.
use Rattle.std.proofs.Common.{◌≡◌, ◌<◌, ◌+◌, ℕ, Bool, true, false, List, ◌∷◌, length, drop, Option, sym, ap, ◌∙◌, subst}
use Rattle.std.specs.Prelude.{◌&&◌, slice_get, IfSome}
use Rattle.std.specs.List.{list_all}
use Rattle.std.proofs.lemmas.List.{drop_more}
use Rattle.std.proofs.lemmas.Option.{get_or_from_slice_get}
use Rattle.flu_lemmas.proofs.Places.{slice_get-there}

module _ {X : Type 0} (p : X → Bool) (xs : List X) (i : ℕ) (lt : i < length xs) where
  -- the rest from a place on passes where what stands there passes, and the rest behind it
  pub rest_step : (b : Bool) → IfSome (slice_get xs i) (λ x. b ≡ p x) → list_all p (drop i xs) ≡ (b && list_all p (drop (i + 1) xs))
  rest_step b is =
      let there = slice_get-there xs i lt in
      let here = subst (λ (o : Option X). IfSome o (λ x. b ≡ p x)) there.1 is in
      ap (list_all p) (drop_more xs i there.0 lt ∙ ap (λ x. x ∷ drop (i + 1) xs) (get_or_from_slice_get xs i there.0 there.0 there.1))
      ∙ ap (λ c. c && list_all p (drop (i + 1) xs)) (sym here)

  pub stops : IfSome (slice_get xs i) (λ x. false ≡ p x) → list_all p (drop i xs) ≡ list_all p xs → false ≡ list_all p xs
  stops is kept = sym (rest_step false is) ∙ kept

  pub goes_on : IfSome (slice_get xs i) (λ x. true ≡ p x) → list_all p (drop i xs) ≡ list_all p xs → list_all p (drop (i + 1) xs) ≡ list_all p xs
  goes_on is kept = sym (rest_step true is) ∙ kept
