-- The cells that a node keeps, as a set that grows.
use Rattle.std.proofs.Common.{◌≡◌, ◌<◌, ◌≤◌, ◌+◌, ℕ, zero, suc, Bool, true, false, cond, List, [], ◌∷◌}
use Rattle.std.proofs.Common.{length, get_or, inl, inr, refl, sym, ap, subst, ◌∙◌, None, Some, arith}
use Rattle.std.specs.Prelude.{Option, is_some, ◌&&◌, ◌||◌, ◌==◌}
use Rattle.std.specs.List.{filter, range_with_len}
use Rattle.std.proofs.lemmas.Bool.{cases_lt, or_left, or_right, or_cases}
use Rattle.std.proofs.lemmas.List.{get_or_default}
use Rattle.flu_lemmas.proofs.Searches.{eq_true}
use Rattle.flu_lemmas.proofs.Ranges.{range_has}
use Rattle.flu_lemmas.proofs.Tests.{both, and_left, and_right, not_both, true_eq}
use Rattle.flu_model.specs.declared.events.Cell.{Cell}
use Rattle.flu_model.specs.declared.events.Worth.{Worth}
use Rattle.flu_model.specs.Contents.{Contents, cell, is_same_cell, held_keys, all_keys, key_count}
use Rattle.flu_cells.specs.declared.sets.CellSet.{CellSet}
use Rattle.flu_cells.specs.Entries.{HasKeysInRange}
use Rattle.flu_cells.specs.Sets.{is_in}
use Rattle.flu_apart.specs.declared.classes.Subtree.{Subtree}
use Rattle.flu_contribution.specs.Parts.{keeps_of, HasKept}

-- ---- tests
eq_itself : (n : ℕ) → (n == n) ≡ true
eq_itself n = eq_true n n refl

same_cell : (c d : Cell) → is_same_cell c d ≡ true → c ≡ d
same_cell c d e =
    let family : c.family ≡ d.family = true_eq c.family d.family (and_left _ _ e) in
    let key : c.key ≡ d.key = true_eq c.key d.key (and_right (c.family == d.family) _ e) in
    λ i. record { family = family i; key = key i }

-- ---- the places of keys
pub record Place (xs : List ℕ) (k : ℕ) : Type 0 where
  pub index : ℕ
  pub lt : index < length xs
  pub is : get_or xs index 0 ≡ k

place : (p : ℕ → Bool) (xs : List ℕ) (k i : ℕ) → i < length xs → get_or xs i 0 ≡ k → p k ≡ true → Place (filter p xs) k
place p [] k i lt e h = absurd (omega arith)
place p (x ∷ xs) k zero lt e h =
    let here : p x ≡ true = ap p e ∙ h in
    subst (λ l. Place l k) (ap (λ b. cond b (x ∷ filter p xs) (filter p xs)) (sym here)) (record { index = 0; lt = omega arith; is = e })
place p (x ∷ xs) k (suc i) lt e h =
    let more = place p xs k i (omega arith) e h in
    by (p x) more
  where
    by : (b : Bool) → Place (filter p xs) k → Place (cond b (x ∷ filter p xs) (filter p xs)) k
    by true m = let below = m.lt in record { index = suc m.index; lt = omega arith; is = m.is }
    by false m = m

held_place : (s : Contents) (f k : ℕ) → is_some (s (cell f k)) ≡ true → k < key_count → Place (held_keys s f) k
unfolding all_keys
held_place s f k there lt =
    let found = range_has 0 key_count k (omega arith) (omega arith) in
    place (λ j. is_some (s (cell f j))) (range_with_len 0 key_count) k found.0 found.1
    (get_or_default (range_with_len 0 key_count) found.0 0 k found.1 ∙ found.2) there

some_is : (o : Option Worth) → is_some o ≡ true → (w : Worth) × (o ≡ Some w)
some_is None e = cc
some_is (Some w) e = (w, refl)

-- ---- a set that grows
pub record Grown (s : Subtree) (state : Contents) (set : CellSet) (family : ℕ) (keys : List ℕ) (n : ℕ) : Type 0 where
  pub so_far : HasKept s state set family
  pub here : (j : ℕ) → j < n → keeps_of s (cell family (get_or keys j 0)) ≡ true → is_in set (cell family (get_or keys j 0)) ≡ true

pub grown_none : (s : Subtree) (state : Contents) (set : CellSet) (family : ℕ) (keys : List ℕ) → HasKept s state set family → Grown s state set family keys 0
grown_none s state set family keys h = record { so_far = h; here = λ j lt. absurd (omega arith) }

pub grown_more : (s : Subtree) (state : Contents) (old new : CellSet) (family : ℕ) (keys : List ℕ) (n key : ℕ) → key ≡ get_or keys n 0
    → ((d : Cell) → is_in new d ≡ (is_in old d || (is_same_cell (cell family key) d && keeps_of s (cell family key))))
    → Grown s state old family keys n → Grown s state new family keys (n + 1)
grown_more s state old new family keys n key is step g = record {
  so_far = record {
    only = λ c e. elim (or_cases (is_in old c) _ (sym (step c) ∙ e)) [
      | inl there ↦ g.so_far.only c there
      | inr added ↦ ap (keeps_of s) (sym (same_cell (cell family key) c (and_left _ _ added))) ∙ and_right (is_same_cell (cell family key) c) _ added
    ];
    all = λ c lt there kept. step c ∙ or_left (is_in old c) _ (g.so_far.all c lt there kept);
  };
  here = λ j lt kept. elim (cases_lt j n) [
    | inl before ↦ step (cell family (get_or keys j 0)) ∙ or_left (is_in old (cell family (get_or keys j 0))) _ (g.here j before kept)
    | inr past ↦
        let last : j ≡ n = omega arith in
        let same : key ≡ get_or keys j 0 = is ∙ ap (λ i. get_or keys i 0) (sym last) in
        step (cell family (get_or keys j 0))
        ∙ or_right (is_in old (cell family (get_or keys j 0))) _
        (both (is_same_cell (cell family key) (cell family (get_or keys j 0))) _
        (both (family == family) _ (eq_itself family) (eq_true key (get_or keys j 0) same))
        (ap (λ k. keeps_of s (cell family k)) same ∙ kept))
  ];
}

pub grown_all : (s : Subtree) (state : Contents) (set : CellSet) (family : ℕ) (keys : List ℕ) (n : ℕ) → keys ≡ held_keys state family → length keys ≤ n
    → HasKeysInRange state → Grown s state set family keys n → HasKept s state set (family + 1)
grown_all s state set family keys n are le bounded g = record {
  only = g.so_far.only;
  all = λ c lt there kept. elim (cases_lt c.family family) [
    | inl before ↦ g.so_far.all c before there kept
    | inr past ↦
        let last : c.family ≡ family = omega arith in
        let is : c ≡ cell family c.key = λ i. record { family = last i; key = c.key } in
        let holds = some_is (state c) there in
        let found = held_place state family c.key (ap (λ d. is_some (state d)) (sym is) ∙ there) (bounded c holds.0 holds.1) in
        let place_lt = found.lt in
        let same : get_or keys found.index 0 ≡ c.key = ap (λ l. get_or l found.index 0) are ∙ found.is in
        let there_is : cell family (get_or keys found.index 0) ≡ c = ap (cell family) same ∙ sym is in
        let long : length (held_keys state family) ≡ length keys = ap length (sym are) in
        ap (is_in set) (sym there_is) ∙ g.here found.index (omega arith) (ap (keeps_of s) there_is ∙ kept)
  ];
}

pub none_yet : (s : Subtree) (state : Contents) (set : CellSet) → ((c : Cell) → is_in set c ≡ false) → HasKept s state set 0
none_yet s state set none = record { only = λ c e. absurd (not_both _ e (none c)); all = λ c lt there kept. absurd (omega arith) }
