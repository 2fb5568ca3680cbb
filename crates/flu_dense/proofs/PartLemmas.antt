-- What tables of parts hold, as one of them changes.
use Rattle.std.proofs.Common.{◌≡◌, ◌<◌, ◌≤◌, ◌+◌, ◌*◌, ◌/◌, ◌%◌, ℕ, true, false, cond, Option, Some, None, List, [], ◌∷◌, refl, sym, ap, subst, ◌∙◌, arith}
use Rattle.std.specs.Prelude.{◌==◌, slice_get, IsSome, IfSome}
use Rattle.std.specs.Ordering.{nat_cmp, is_gt}
use Rattle.std.specs.BTreeMap.{BTreeMap, get, Updates, IsUnchanged, is_at}
use Rattle.std.specs.BTreeMap.Range.{IsInRange, IsRangeOf, IsLeBy, IsEntryInRange}
use Rattle.std.specs.Map.{lookup}
use Rattle.std.specs.List.{AllZip}
use Rattle.std.specs.declared.ops.Bound.TheVariants.{Included}
use Rattle.std.proofs.lemmas.Bool.{eqb-false, ne_eqb}
use Rattle.std.proofs.lemmas.Grind.{common_steps}
use Rattle.flu_lemmas.proofs.Searches.{eq_true}
use Rattle.flu_lemmas.proofs.Tests.{true_eq, not_both}
use Rattle.flu_dense.specs.declared.table.Dense.{Dense}
use Rattle.flu_dense.specs.Holding.{value_at}
use Rattle.flu_dense.specs.Parts.{value_in_table, value_among}
use Rattle.flu_dense.specs.Values.{with_value}

-- ---- numbers of parts
is_part : (p q : ℕ) → is_at (nat_cmp p) q ≡ (q == p)
is_part p q = grind (arith, common_steps)

same_number : (n k : ℕ) → n / 4096 ≡ k / 4096 → (n % 4096 == k % 4096) ≡ (n == k)
same_number n k part =
    elim (n % 4096 == k % 4096) as (λ b. (n % 4096 == k % 4096) ≡ b → b ≡ (n == k)) [
      | true ↦ λ e. let place : n % 4096 ≡ k % 4096 = true_eq (n % 4096) (k % 4096) e in sym (eq_true n k (omega arith))
      | false ↦ λ e. sym (ne_eqb n k (λ same. eqb-false (n % 4096) (k % 4096) e (ap (λ i. i % 4096) same)))
    ] refl

between : (p q k : ℕ) → p ≤ k → k ≤ q → IsInRange nat_cmp (Included p) (Included q) k
between p q k low high = (grind (arith, common_steps), grind (arith, common_steps))

above : (a b : ℕ) → b < a → is_gt (nat_cmp a b) ≡ true
above a b lt = grind (arith, common_steps)

at_most : (a b : ℕ) → IsLeBy nat_cmp a b → a ≤ b
at_most a b le = grind (arith, common_steps)

module _ {V : Type 0} where
  -- ---- the table of a number
  pub among : (parts : BTreeMap ℕ (Dense V)) (n : ℕ) → value_among parts n ≡ value_in_table (get nat_cmp parts (n / 4096)) (n % 4096)
  unfolding value_among
  among parts n = refl

  pub with_table : (parts : BTreeMap ℕ (Dense V)) (n : ℕ) (d : Dense V) → Some d ≡ get nat_cmp parts (n / 4096) → value_among parts n ≡ value_at d (n % 4096)
  with_table parts n d is = among parts n ∙ ap (λ o. value_in_table o (n % 4096)) (sym is)

  pub without_table : (parts : BTreeMap ℕ (Dense V)) (n : ℕ) → None ≡ get nat_cmp parts (n / 4096) → value_among parts n ≡ None
  without_table parts n is = among parts n ∙ ap (λ o. value_in_table o (n % 4096)) (sym is)

  -- ---- a table that changes

  changed_at : (parts then : BTreeMap ℕ (Dense V)) (p : ℕ) (d : Dense V) → Updates nat_cmp parts then p (Some d)
      → (n : ℕ) → value_among then n ≡ value_in_table (cond (n / 4096 == p) (Some d) (get nat_cmp parts (n / 4096))) (n % 4096)
  changed_at parts then p d u n =
      among then n
      ∙ ap (λ o. value_in_table o (n % 4096)) (u.0 (n / 4096) ∙ ap (λ b. cond b (Some d) (get nat_cmp parts (n / 4096))) (is_part p (n / 4096)))

  -- a table that has another value in the slot of a number
  pub part_changed : (parts then : BTreeMap ℕ (Dense V)) (k : ℕ) (d : Dense V) (v : Option V) → Updates nat_cmp parts then (k / 4096) (Some d)
      → value_at d ≡ with_value (λ s. value_in_table (get nat_cmp parts (k / 4096)) s) (k % 4096) v → value_among then ≡ with_value (value_among parts) k v
  part_changed parts then k d v u changed = λ i n. at n i
    where
      at : (n : ℕ) → value_among then n ≡ with_value (value_among parts) k v n
      at n =
          changed_at parts then (k / 4096) d u n
          ∙ elim (n / 4096 == k / 4096) as (λ b. (n / 4096 == k / 4096) ≡ b
          → value_in_table (cond b (Some d) (get nat_cmp parts (n / 4096))) (n % 4096) ≡ cond (n == k) v (value_among parts n)) [
            | true ↦ λ e. let same : n / 4096 ≡ k / 4096 = true_eq (n / 4096) (k / 4096) e in
                ap (λ m. m (n % 4096)) changed
                ∙ ap (λ b. cond b v (value_in_table (get nat_cmp parts (k / 4096)) (n % 4096))) (same_number n k same)
                ∙ ap (cond (n == k) v) (ap (λ p. value_in_table (get nat_cmp parts p) (n % 4096)) (sym same) ∙ sym (among parts n))
            | false ↦ λ e.
                sym (among parts n)
                ∙ ap (λ b. cond b v (value_among parts n)) (sym (ne_eqb n k (λ same. eqb-false (n / 4096) (k / 4096) e (ap (λ i. i / 4096) same))))
          ] refl

  -- a table in whose place another one comes that holds the same
  pub part_same : (parts then : BTreeMap ℕ (Dense V)) (p : ℕ) (d : Dense V) → Updates nat_cmp parts then p (Some d)
      → value_at d ≡ (λ s. value_in_table (get nat_cmp parts p) s) → value_among then ≡ value_among parts
  part_same parts then p d u same = λ i n. at n i
    where
      at : (n : ℕ) → value_among then n ≡ value_among parts n
      at n =
          changed_at parts then p d u n
          ∙ elim (n / 4096 == p) as (λ b. (n / 4096 == p) ≡ b
          → value_in_table (cond b (Some d) (get nat_cmp parts (n / 4096))) (n % 4096) ≡ value_among parts n) [
            | true ↦ λ e.
                ap (λ m. m (n % 4096)) same ∙ ap (λ q. value_in_table (get nat_cmp parts q) (n % 4096)) (sym (true_eq (n / 4096) p e)) ∙ sym (among parts n)
            | false ↦ λ e. sym (among parts n)
          ] refl

  pub parts_unchanged : (parts then : BTreeMap ℕ (Dense V)) → IsUnchanged parts then → value_among then ≡ value_among parts
  unfolding value_among
  parts_unchanged parts then e = λ i n. value_in_table (lookup (is_at (nat_cmp (n / 4096))) (e i)) (n % 4096)

  -- ---- the numbers of a part, in order
  pub none_in_part : (parts : BTreeMap ℕ (Dense V)) (at top n : ℕ) (d : Dense V) → Some d ≡ get nat_cmp parts (at / 4096)
      → ((s : ℕ) → at % 4096 ≤ s → s < top → value_at d s ≡ None) → at ≤ n → n / 4096 ≡ at / 4096 → n % 4096 < top → value_among parts n ≡ None
  none_in_part parts at top n d is none le same lt =
      with_table parts n d (is ∙ ap (get nat_cmp parts) (sym same)) ∙ none (n % 4096) (omega (arith, same, le)) lt

  pub found_in_part : (parts : BTreeMap ℕ (Dense V)) (at slot : ℕ) (d : Dense V) → Some d ≡ get nat_cmp parts (at / 4096) → slot < 4096
      → IsSome (value_at d slot) → IsSome (value_among parts (at / 4096 * 4096 + slot))
  found_in_part parts at slot d is lt some =
      let part : (at / 4096 * 4096 + slot) / 4096 ≡ at / 4096 = omega arith in
      let place : (at / 4096 * 4096 + slot) % 4096 ≡ slot = omega arith in
      subst IsSome (sym (with_table parts (at / 4096 * 4096 + slot) d (is ∙ ap (get nat_cmp parts) (sym part)) ∙ ap (value_at d) place)) some

  -- ---- the next part that has a table
  none_of : (o : Option (Dense V)) → (IsSome o → ⊥) → None ≡ o
  none_of None never = refl
  none_of (Some d) never = absurd (never refl)

  pub none_behind : (parts : BTreeMap ℕ (Dense V)) (next last : ℕ) (es : List (ℕ × Dense V))
      → IsRangeOf nat_cmp (Included next) (Included last) parts es → es ≡ [] → (n : ℕ) → next ≤ n / 4096 → n / 4096 ≤ last → value_among parts n ≡ None
  none_behind parts next last es r none n low high = without_table parts n (sym (r.5 none (n / 4096) (between next last (n / 4096) low high)))

  pub none_before_part : (parts : BTreeMap ℕ (Dense V)) (next last : ℕ) (es rest : List (ℕ × Dense V)) (e : ℕ × Dense V)
      → IsRangeOf nat_cmp (Included next) (Included last) parts es → es ≡ e ∷ rest → (n : ℕ) → next ≤ n / 4096 → n / 4096 < e.0 → value_among parts n ≡ None
  none_before_part parts next last es rest e r there n low before =
      let at : IsEntryInRange nat_cmp (Included next) (Included last) parts e =
      subst (λ xs. IfSome (slice_get xs 0) (IsEntryInRange nat_cmp (Included next) (Included last) parts)) there r.1 in
      let high : e.0 ≤ last = at_most e.0 last at.0.1 in
      without_table parts n (none_of (get nat_cmp parts (n / 4096)) (λ some.
      not_both (is_gt (nat_cmp e.0 (n / 4096))) (above e.0 (n / 4096) before)
      (subst (λ xs. IfSome (slice_get xs 0) (λ d. IsLeBy nat_cmp d.0 (n / 4096))) there
      (r.2 (n / 4096) (between next last (n / 4096) low (omega (arith, before, high))) some))))

  -- ---- tables that are copied
  copied_tables : (p : ℕ) (s : ℕ) (es fs : List (ℕ × Dense V)) → AllZip (λ e f. (f.0 ≡ e.0) × (value_at f.1 ≡ value_at e.1)) es fs
      → value_in_table (lookup (is_at (nat_cmp p)) fs) s ≡ value_in_table (lookup (is_at (nat_cmp p)) es) s
  copied_tables p s [] [] same = refl
  copied_tables p s [] (f ∷ fs) same = absurd same
  copied_tables p s (e ∷ es) [] same = absurd same
  copied_tables p s (e ∷ es) (f ∷ fs) same =
      ap (λ q. value_in_table (cond (is_at (nat_cmp p) q) (Some f.1) (lookup (is_at (nat_cmp p)) fs)) s) same.0.0
      ∙ elim (is_at (nat_cmp p) e.0) as (λ b. value_in_table (cond b (Some f.1) (lookup (is_at (nat_cmp p)) fs)) s
      ≡ value_in_table (cond b (Some e.1) (lookup (is_at (nat_cmp p)) es)) s) [
        | true ↦ ap (λ m. m s) same.0.1
        | false ↦ copied_tables p s es fs same.1
      ]

  pub parts_copied : (parts copies : BTreeMap ℕ (Dense V)) → AllZip (λ e f. (f.0 ≡ e.0) × (value_at f.1 ≡ value_at e.1)) parts.entries copies.entries
      → value_among copies ≡ value_among parts
  unfolding value_among
  parts_copied parts copies same = λ i n. copied_tables (n / 4096) (n % 4096) parts.entries copies.entries same i
