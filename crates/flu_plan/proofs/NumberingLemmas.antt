-- Planned nodes, one by one.
use Rattle.std.proofs.Common.{◌≡◌, ℕ, suc, ◌+◌, ◌<◌, ◌≤◌, List, ◌∷◌, ◌++◌, length, drop, get_or, sym, ap, ◌∙◌, add-one, append_assoc}
use Rattle.std.specs.List.{flat_map}
use Rattle.std.proofs.Math.Seq.{drop-cons}
use Rattle.std.proofs.lemmas.List.{drop_all, append-nil, get_or_default}

module _ {X Y : Type 0} (list : X → List Y) where
  -- the lists of one element more
  pub lists-next : (done : List Y) (xs : List X) (i : ℕ) (d : X) → i < length xs
      → (done ++ list (get_or xs i d)) ++ flat_map list (drop (i + 1) xs) ≡ done ++ flat_map list (drop i xs)
  lists-next done xs i d lt =
      let x = get_or xs i d in
      append_assoc done (list x) (flat_map list (drop (i + 1) xs))
      ∙ ap (λ j. done ++ (list x ++ flat_map list (drop j xs))) (add-one i)
      ∙ ap (λ l. done ++ flat_map list l) (sym (drop-cons xs i x lt ∙ ap (λ y. y ∷ drop (suc i) xs) (sym (get_or_default xs i d x lt))))

  pub lists-end : (done : List Y) (xs : List X) (i : ℕ) → length xs ≤ i → done ++ flat_map list (drop i xs) ≡ done
  lists-end done xs i past = ap (λ l. done ++ flat_map list l) (drop_all i xs past) ∙ append-nil done
