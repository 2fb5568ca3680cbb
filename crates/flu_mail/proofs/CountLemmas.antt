-- Counts that are set one after another.
use Rattle.std.proofs.Common.{◌≡◌, ◌<◌, ◌≤◌, ◌+◌, ℕ, Bool, true, false, List, length, take, get_or, refl, sym, ap, ◌∙◌, inl, inr, arith}
use Rattle.std.specs.Prelude.{◌==◌, ◌&&◌, ◌||◌, slice_index, if◌then◌else◌}
use Rattle.std.specs.List.{list_any, range_with_len}
use Rattle.std.proofs.Math.ListN.{set}
use Rattle.std.proofs.lemmas.Bool.{cases_eq, cases_lt, ne_eqb}
use Rattle.std.proofs.lemmas.List.{get_or-set_same, get_or-set_other, get_or_past}
use Rattle.std.proofs.lemmas.List.Folds.{list_any_more}
use Rattle.flu_lemmas.proofs.Booleans.{or_true, or_false}
use Rattle.flu_lemmas.proofs.Ranges.{any_in_range, found_in_range}
use Rattle.flu_lemmas.proofs.Searches.{eq_true}
use Rattle.flu_lemmas.proofs.Tests.{and_left, and_right, both, false_if_not, not_both, true_eq}
use Rattle.flu_model.specs.declared.events.Itag.{Itag}
use Rattle.flu_model.specs.declared.jobs.Program.{Program}
use Rattle.flu_model.specs.Itags.{count_of_itags}
use Rattle.flu_tables.specs.Lists.{itag, itags_where}
use Rattle.flu_mail.proofs.ListLemmas.{any_listed}

-- itag i is among the listed ones
abbrev pub is_among : List Itag → ℕ → Bool
is_among xs i = list_any (λ (j : Itag). j.0 == i) xs

-- the counts of the listed itags are the given ones, and the others the old ones
abbrev pub IsSetTo : List Itag → List ℕ → List ℕ → List ℕ → Type 0
IsSetTo xs given old new = (i : ℕ) → slice_index new i ≡ (if is_among xs i then slice_index given i else slice_index old i)

-- one more
pub set_turn : (xs : List Itag) (k : ℕ) (j d : Itag) (given old now new : List ℕ) → k < length xs → j ≡ get_or xs k d → j.0 < length now
    → new ≡ set now j.0 (slice_index given j.0) → IsSetTo (take k xs) given old now → IsSetTo (take (k + 1) xs) given old new
set_turn xs k j d given old now new lt is there grown kept i =
    let more : is_among (take (k + 1) xs) i ≡ (is_among (take k xs) i || (j.0 == i)) =
    list_any_more (λ (q : Itag). q.0 == i) xs k d lt ∙ ap (λ (q : Itag). is_among (take k xs) i || (q.0 == i)) (sym is) in
    elim (cases_eq j.0 i) [
      | inl same ↦
          (let listed : is_among (take (k + 1) xs) i ≡ true = more ∙ ap (λ b. is_among (take k xs) i || b) (eq_true j.0 i same)
          ∙ or_true (is_among (take k xs) i) in
          ap (λ ns. slice_index ns i) grown ∙ ap (λ n. slice_index (set now j.0 (slice_index given j.0)) n) (sym same)
          ∙ get_or-set_same now j.0 (slice_index given j.0) 0 there
          ∙ ap (slice_index given) same ∙ ap (λ b. if b then slice_index given i else slice_index old i) (sym listed))
      | inr other ↦
          (let listed : is_among (take (k + 1) xs) i ≡ is_among (take k xs) i =
          more ∙ ap (λ b. is_among (take k xs) i || b) (ne_eqb j.0 i other) ∙ or_false (is_among (take k xs) i) in
          ap (λ ns. slice_index ns i) grown ∙ get_or-set_other now j.0 i (slice_index given j.0) 0 (λ e. other (sym e)) ∙ kept i
          ∙ ap (λ b. if b then slice_index given i else slice_index old i) (sym listed))
    ]

-- ---- all of them

among_told : (p : Program) (test : Itag → Bool) (i : ℕ) → i < count_of_itags p → is_among (itags_where p test) i ≡ test (itag i)
among_told p test i lt = any_listed p (λ j. j.0 == i) test ∙ by_test (test (itag i)) refl
  where
    here : ℕ → Bool
    here j = test (itag j) && (j == i)

    by_test : (b : Bool) → test (itag i) ≡ b → list_any here (range_with_len 0 (count_of_itags p)) ≡ b
    by_test true e = any_in_range here 0 (count_of_itags p) i (omega arith) (omega arith) (both (test (itag i)) (i == i) e (eq_true i i refl))
    by_test false e =
        false_if_not _ (λ h.
        let found = found_in_range here 0 (count_of_itags p) h in
        not_both (test (itag i)) (ap (λ j. test (itag j)) (sym (true_eq found.number i (and_right (test (itag found.number)) _ found.passes)))
        ∙ and_left _ (found.number == i) found.passes) e)

either_way : (b : Bool) (x y : ℕ) → x ≡ 0 → y ≡ 0 → 0 ≡ (if b then x else y)
either_way true x y ex ey = sym ex
either_way false x y ex ey = sym ey

pub set_all : (p : Program) (test : Itag → Bool) (given old new : List ℕ) → length given ≡ count_of_itags p → length old ≡ count_of_itags p
    → length new ≡ count_of_itags p → IsSetTo (itags_where p test) given old new → (i : ℕ)
    → slice_index new i ≡ (if test (itag i) then slice_index given i else slice_index old i)
set_all p test given old new lg lo ln all i =
    elim (cases_lt i (count_of_itags p)) [
      | inl lt ↦ all i ∙ ap (λ b. if b then slice_index given i else slice_index old i) (among_told p test i lt)
      | inr le ↦
          get_or_past new i 0 (omega arith)
          ∙ either_way (test (itag i)) (slice_index given i) (slice_index old i) (get_or_past given i 0 (omega arith)) (get_or_past old i 0 (omega arith))
    ]

-- what is set already stays as it is
pub no_less : (b : Bool) (given old now : ℕ) → now ≡ (if b then given else old) → old ≤ given → now ≤ given
no_less true given old now is le = omega arith
no_less false given old now is le = omega arith
