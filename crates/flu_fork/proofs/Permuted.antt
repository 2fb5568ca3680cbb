-- Lists in another order: parts that are put together, and what filters by three tests give.
use Rattle.std.proofs.Common.{◌≡◌, Bool, true, false, cond, List, [], ◌∷◌, ◌++◌, append_assoc, sym, ap, subst, ◌∙◌}
use Rattle.std.specs.List.{filter, flat_map, AllByRecursion}
use Rattle.std.specs.List.Sorted.{IsPermutation}
use Rattle.std.proofs.lemmas.List.Sorted.{IsPermutation-refl, IsPermutation-trans, IsPermutation-append_left}
use Rattle.std.proofs.lemmas.List.Sorted.{IsPermutation-append_right, IsPermutation-append_comm}
use Rattle.flu_fork.specs.Texts.{InOneOf, InNone, InFirst, InSecond, InThird}

pub permuted_is : {X : Type 0} (xs ys zs : List X) → xs ≡ ys → IsPermutation ys zs → IsPermutation xs zs
permuted_is xs ys zs e h = subst (λ l. IsPermutation l zs) (sym e) h

pub is_permuted : {X : Type 0} (xs ys zs : List X) → IsPermutation xs ys → ys ≡ zs → IsPermutation xs zs
is_permuted xs ys zs h e = subst (IsPermutation xs) e h

-- a part in the middle goes to the end
pub to_end : {X : Type 0} (xs ys zs : List X) → IsPermutation (xs ++ (ys ++ zs)) ((xs ++ zs) ++ ys)
to_end xs ys zs =
    is_permuted _ _ _ (IsPermutation-append_right xs (ys ++ zs) (zs ++ ys) (IsPermutation-append_comm ys zs)) (sym (append_assoc xs zs ys))

-- a front goes behind the first part
pub behind_first : {X : Type 0} (g xs ys : List X) → IsPermutation (g ++ (xs ++ ys)) (xs ++ (g ++ ys))
behind_first g xs ys =
    permuted_is _ _ _ (sym (append_assoc g xs ys))
    (is_permuted _ _ _ (IsPermutation-append_left ys (g ++ xs) (xs ++ g) (IsPermutation-append_comm g xs)) (append_assoc xs g ys))

module _ {X Y : Type 0} (g : X → List Y) (t a b c : X → Bool) where
  keeps : (p : X → Bool) (x : X) (xs : List X) → p x ≡ true → flat_map g (filter p (x ∷ xs)) ≡ g x ++ flat_map g (filter p xs)
  keeps p x xs e = ap (λ q. flat_map g (cond q (x ∷ filter p xs) (filter p xs))) e

  skips : (p : X → Bool) (x : X) (xs : List X) → p x ≡ false → flat_map g (filter p (x ∷ xs)) ≡ flat_map g (filter p xs)
  skips p x xs e = ap (λ q. flat_map g (cond q (x ∷ filter p xs) (filter p xs))) e

  -- what passes is what passes the three tests, one after the other
  pub three_parts : (xs : List X) → AllByRecursion (λ x. InOneOf (t x) (a x) (b x) (c x)) xs
      → IsPermutation (flat_map g (filter t xs)) ((flat_map g (filter a xs) ++ flat_map g (filter b xs)) ++ flat_map g (filter c xs))
  three_parts [] all = IsPermutation-refl []
  three_parts (x ∷ xs) all =
      let A = flat_map g (filter a xs) in
      let B = flat_map g (filter b xs) in
      let C = flat_map g (filter c xs) in
      let rest = three_parts xs all.1 in
      elim all.0 [
        | InFirst p q r s ↦
            permuted_is _ _ _ (keeps t x xs p)
            (is_permuted _ _ _ (IsPermutation-append_right (g x) _ _ rest)
            (sym (append_assoc (g x) (A ++ B) C) ∙ ap (λ l. l ++ C) (sym (append_assoc (g x) A B))
            ∙ (λ i. (sym (keeps a x xs q) i ++ sym (skips b x xs r) i) ++ sym (skips c x xs s) i)))
        | InSecond p q r s ↦
            permuted_is _ _ _ (keeps t x xs p)
            (IsPermutation-trans _ _ _ (IsPermutation-append_right (g x) _ _ rest)
            (permuted_is _ _ _ (sym (append_assoc (g x) (A ++ B) C))
            (is_permuted _ _ _ (IsPermutation-append_left C _ _ (behind_first (g x) A B))
            (λ i. (sym (skips a x xs q) i ++ sym (keeps b x xs r) i) ++ sym (skips c x xs s) i))))
        | InThird p q r s ↦
            permuted_is _ _ _ (keeps t x xs p)
            (IsPermutation-trans _ _ _ (IsPermutation-append_right (g x) _ _ rest)
            (is_permuted _ _ _ (behind_first (g x) (A ++ B) C)
            (λ i. (sym (skips a x xs q) i ++ sym (skips b x xs r) i) ++ sym (keeps c x xs s) i)))
        | InNone p q r s ↦
            permuted_is _ _ _ (skips t x xs p)
            (is_permuted _ _ _ rest (λ i. (sym (skips a x xs q) i ++ sym (skips b x xs r) i) ++ sym (skips c x xs s) i))
      ]
