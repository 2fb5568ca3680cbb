-- Families and kinds that are given their lists one by one, and items that are printed one by one.
use Rattle.std.proofs.Common.{◌≡◌, ℕ, zero, suc, ◌+◌, ◌<◌, ◌≤◌, List, [], ◌∷◌, ◌++◌, length, drop, take, get_or, append_assoc, Option, Some}
use Rattle.std.proofs.Common.{refl, sym, ap, ◌∙◌, arith}
use Rattle.std.specs.Prelude.{slice_get, unwrap_or, option_map}
use Rattle.std.specs.List.{flat_map}
use Rattle.std.proofs.lemmas.List.{drop_all, take_more, append-nil}
use Rattle.std.proofs.lemmas.Grind.{flat_map-append}
use Rattle.flu_model.specs.declared.jobs.Family.{Family}
use Rattle.flu_model.specs.Erasure.{PlainKind}
use Rattle.flu_layout.specs.Lists.{separated}
use Rattle.flu_parse.specs.Lists.{listed_families, listed_kinds}

-- ---- lists that are set
-- where no list is left, the families stay
pub families_stay : (fs : List Family) → listed_families fs [] ≡ fs
families_stay [] = refl
families_stay (f ∷ fs) = refl

pub kinds_stay : (ks : List PlainKind) → listed_kinds ks [] ≡ ks
kinds_stay [] = refl
kinds_stay (k ∷ ks) = refl

-- the first family has the next list, where one is left
pub next_family : (f : Family) (fs : List Family) (ls : List (Option ℕ)) (i : ℕ)
    → record f { list = unwrap_or (slice_get ls i) f.list } ∷ listed_families fs (drop (i + 1) ls) ≡ listed_families (f ∷ fs) (drop i ls)
next_family f fs [] i =
    ap (λ ls. f ∷ listed_families fs ls) (drop_all (i + 1) [] (omega arith)) ∙ ap (λ fs. f ∷ fs) (families_stay fs)
    ∙ sym (ap (listed_families (f ∷ fs)) (drop_all i [] (omega arith)))
next_family f fs (l ∷ ls) zero = refl
next_family f fs (l ∷ ls) (suc i) =
    let next : suc i + 1 ≡ suc (i + 1) = omega arith in
    ap (λ n. record f { list = unwrap_or (slice_get ls i) f.list } ∷ listed_families fs (drop n (l ∷ ls))) next ∙ next_family f fs ls i

pub next_kind : (k : PlainKind) (ks : List PlainKind) (ls : List (Option ℕ)) (i : ℕ)
    → record k { list = unwrap_or (slice_get ls i) k.list } ∷ listed_kinds ks (drop (i + 1) ls) ≡ listed_kinds (k ∷ ks) (drop i ls)
next_kind k ks [] i =
    ap (λ ls. k ∷ listed_kinds ks ls) (drop_all (i + 1) [] (omega arith)) ∙ ap (λ ks. k ∷ ks) (kinds_stay ks)
    ∙ sym (ap (listed_kinds (k ∷ ks)) (drop_all i [] (omega arith)))
next_kind k ks (l ∷ ls) zero = refl
next_kind k ks (l ∷ ls) (suc i) =
    let next : suc i + 1 ≡ suc (i + 1) = omega arith in
    ap (λ n. record k { list = unwrap_or (slice_get ls i) k.list } ∷ listed_kinds ks (drop n (l ∷ ls))) next ∙ next_kind k ks ls i

-- ---- items that are printed
module _ {X : Type 0} (mark : List ℕ) (text : X → List ℕ) where
  -- the first item, if there is one
  pub separated_one : (xs : List X) → separated mark text (take 1 xs) ≡ unwrap_or (option_map text (slice_get xs 0)) []
  separated_one [] = refl
  separated_one (x ∷ xs) = append-nil (text x)

  separated_push : (x : X) (xs : List X) (y : X) → separated mark text (x ∷ (xs ++ y ∷ [])) ≡ separated mark text (x ∷ xs) ++ (mark ++ text y)
  separated_push x xs y =
      ap (λ l. text x ++ l) (flat_map-append (λ z. mark ++ text z) xs (y ∷ []))
      ∙ ap (λ l. text x ++ (flat_map (λ z. mark ++ text z) xs ++ l)) (append-nil (mark ++ text y))
      ∙ sym (append_assoc (text x) (flat_map (λ z. mark ++ text z) xs) (mark ++ text y))

  got : (xs : List X) (k : ℕ) (d : X) → k < length xs → slice_get xs k ≡ Some (get_or xs k d)
  got [] k d lt = absurd (omega arith)
  got (x ∷ xs) zero d lt = refl
  got (x ∷ xs) (suc k) d lt = got xs k d (omega arith)

  -- one item more, behind a mark
  pub separated_more : (xs : List X) (n : ℕ) → 1 ≤ n → n < length xs
      → separated mark text (take (n + 1) xs) ≡ separated mark text (take n xs) ++ (mark ++ unwrap_or (option_map text (slice_get xs n)) [])
  separated_more [] n one lt = absurd (omega arith)
  separated_more (x ∷ xs) zero one lt = absurd (omega arith)
  separated_more (x ∷ xs) (suc k) one lt =
      let next : suc k + 1 ≡ suc (k + 1) = omega arith in
      ap (λ n. separated mark text (take n (x ∷ xs))) next
      ∙ ap (λ l. separated mark text (x ∷ l)) (take_more xs k x (omega arith)) ∙ separated_push x (take k xs) (get_or xs k x)
      ∙ ap (λ o. separated mark text (x ∷ take k xs) ++ (mark ++ unwrap_or (option_map text o) [])) (sym (got xs k x (omega arith)))
