-- The lists that name the items of kinds, one after another.
use Rattle.std.proofs.Common.{◌≡◌, inl, inr, ℕ, zero, suc, ◌+◌, ◌<◌, Bool, true, false, List, [], ◌∷◌, ◌++◌, length, take, get_or, Option}
use Rattle.std.proofs.Common.{Some, None, map, refl, ap, ◌∙◌, arith}
use Rattle.std.proofs.lemmas.Bool.{cases_Bool}
use Rattle.std.proofs.lemmas.List.{take_more, append-nil, map-append}
use Rattle.std.proofs.lemmas.List.Elements.{filter_map-append}
use Rattle.std.specs.Prelude.{option_map}
use Rattle.std.specs.List.{find, filter_map, cons_option}
use Rattle.flu_model.specs.declared.jobs.Kind.{Kind}
use Rattle.flu_model.specs.Erasure.{PlainKind, plain_kind}
use Rattle.flu_model.specs.Numberings.{Numbering, list_at}
use Rattle.flu_rows.specs.ItemNames.{item_lists}

-- the first that passes
module _ {X : Type 0} (test : X → Bool) where
  pub found_at : (xs : List X) (i : ℕ) (d : X) → i < length xs → find test (take i xs) ≡ None → test (get_or xs i d) ≡ true
      → find test xs ≡ Some (get_or xs i d)
  found_at [] i d lt none is = absurd (omega arith)
  found_at (x ∷ xs) zero d lt none is = rw is refl
  found_at (x ∷ xs) (suc i) d lt none is =
      elim (cases_Bool (test x)) [
        | inl hit ↦ let other : Some x ≡ None = rw hit at none in cc
        | inr miss ↦ rw miss (found_at xs i d (omega arith) (rw miss at none) is)
      ]

  pub none_more : (xs : List X) (i : ℕ) (d : X) → i < length xs → find test (take i xs) ≡ None → test (get_or xs i d) ≡ false
      → find test (take (i + 1) xs) ≡ None
  none_more [] i d lt none is = absurd (omega arith)
  none_more (x ∷ xs) zero d lt none is = rw is refl
  none_more (x ∷ xs) (suc i) d lt none is =
      elim (cases_Bool (test x)) [
        | inl hit ↦ let other : Some x ≡ None = rw hit at none in cc
        | inr miss ↦
            let n : suc i + 1 ≡ suc (i + 1) = omega arith in
            rw (n, miss) (none_more xs i d (omega arith) (rw miss at none) is)
      ]

-- the lists of one kind more
module _ (lists : List Numbering) (kinds : List Kind) (i : ℕ) (d : Kind) where
  abbrev list_of : PlainKind → Option (List ℕ × Numbering)
  list_of k = option_map (λ l. (k.name, l)) (list_at lists k.list)

  one_more : i < length kinds → item_lists lists (map plain_kind (take (i + 1) kinds))
      ≡ item_lists lists (map plain_kind (take i kinds)) ++ cons_option (list_of (plain_kind (get_or kinds i d))) []
  one_more lt =
      ap (λ (ks : List Kind). filter_map list_of (map plain_kind ks)) (take_more kinds i d lt)
      ∙ ap (filter_map list_of) (map-append plain_kind (take i kinds) (get_or kinds i d ∷ []))
      ∙ filter_map-append list_of (map plain_kind (take i kinds)) (plain_kind (get_or kinds i d) ∷ [])

  pub with_list : (list : Numbering) → i < length kinds → list_at lists (get_or kinds i d).list ≡ Some list
      → item_lists lists (map plain_kind (take (i + 1) kinds))
      ≡ item_lists lists (map plain_kind (take i kinds)) ++ ((get_or kinds i d).name, list) ∷ []
  with_list list lt is = rw is at (one_more lt)

  pub without_list : i < length kinds → list_at lists (get_or kinds i d).list ≡ None
      → item_lists lists (map plain_kind (take (i + 1) kinds)) ≡ item_lists lists (map plain_kind (take i kinds))
  without_list lt is = (rw is at (one_more lt)) ∙ append-nil (item_lists lists (map plain_kind (take i kinds)))
