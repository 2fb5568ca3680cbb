-- Cells that are held in their places.
use Rattle.std.proofs.Common.{◌≡◌, ◌<◌, ◌≤◌, ◌/◌, ◌%◌, ℕ, Bool, true, false, cond, Option, None, refl, sym, ap, ◌∙◌, arith}
use Rattle.std.specs.Prelude.{◌==◌, nat_lt}
use Rattle.std.proofs.lemmas.Bool.{ne_eqb, ltb-false}
use Rattle.flu_lemmas.proofs.Numbers.{same_number}
use Rattle.flu_lemmas.proofs.Searches.{eq_true}
use Rattle.flu_lemmas.proofs.Tests.{and_left, and_right, both, true_lt, lt_true, not_both}
use Rattle.flu_lemmas.proofs.TwoNumbers.{made_alike}
use Rattle.flu_model.specs.declared.events.Cell.{Cell}
use Rattle.flu_model.specs.declared.events.Worth.{Worth}
use Rattle.flu_model.specs.Contents.{cell, is_same_cell, nothing_held, with_worth}
use Rattle.flu_dense.specs.declared.sparse.Sparse.{Sparse}
use Rattle.flu_dense.specs.Holding.{value_for}
use Rattle.flu_dense.specs.Values.{with_value}
use Rattle.flu_cells.specs.Entries.{has_place, place_of, far_held, HasKeysInRange}
use Rattle.flu_cells.proofs.NearLemmas.{in_range_or_none}
use Rattle.flu_cells.proofs.Numbered.{numbered-with}

-- ---- places
pub place_family : (c : Cell) → has_place c ≡ true → c.family < 4294967296
place_family c has = true_lt c.family 4294967296 (and_left _ _ has)

pub place_key : (c : Cell) → has_place c ≡ true → c.key < 4294967296
place_key c has = true_lt c.key 4294967296 (and_right _ _ has)

pub place_from : (c : Cell) → c.family < 4294967296 → c.key < 4294967296 → has_place c ≡ true
place_from c family key = both _ _ (lt_true c.family 4294967296 family) (lt_true c.key 4294967296 key)

-- cells that have places have one each
one_place : (c d : Cell) → has_place c ≡ true → has_place d ≡ true → (place_of d == place_of c) ≡ is_same_cell d c
one_place c d has_c has_d =
    elim (is_same_cell d c) as (λ b. is_same_cell d c ≡ b → (place_of d == place_of c) ≡ b) [
      | true ↦ λ same. ap (λ e. place_of e == place_of c) (made_alike cell d.family d.key c.family c.key same) ∙ same_number (place_of c)
      | false ↦ λ other. ne_eqb (place_of d) (place_of c) (λ e. not_both (is_same_cell d c) (alike (place_key c has_c) (place_key d has_d) e) other)
    ] refl
  where
    alike : c.key < 4294967296 → d.key < 4294967296 → place_of d ≡ place_of c → is_same_cell d c ≡ true
    alike lt_c lt_d e = both _ _ (eq_true d.family c.family (omega arith)) (eq_true d.key c.key (omega arith))

-- ---- what is read
pub far_held-at : (far : Sparse Worth) (c : Cell) → has_place c ≡ true → far_held far c ≡ value_for far (place_of c)
unfolding far_held
far_held-at far c has = ap (λ b. cond b (value_for far (place_of c)) None) has

pub far_held-out : (far : Sparse Worth) (c : Cell) → has_place c ≡ false → far_held far c ≡ None
unfolding far_held
far_held-out far c out = ap (λ b. cond b (value_for far (place_of c)) None) out

pub far_held-with : (far then : Sparse Worth) (c : Cell) (w : Option Worth) → has_place c ≡ true
    → value_for then ≡ with_value (value_for far) (place_of c) w → far_held then ≡ with_worth (far_held far) c w
unfolding far_held
far_held-with far then c w has changed = numbered-with has_place place_of one_place (value_for far) (value_for then) c w has changed

pub far_held-same : (far then : Sparse Worth) → value_for then ≡ value_for far → far_held then ≡ far_held far
unfolding far_held
far_held-same far then same = λ i c. cond (has_place c) (same i (place_of c)) None

pub far_held-none : (far : Sparse Worth) → ((n : ℕ) → value_for far n ≡ None) → far_held far ≡ nothing_held
unfolding far_held
far_held-none far none = λ i c. by_test (has_place c) c i
  where
    by_test : (b : Bool) (c : Cell) → cond b (value_for far (place_of c)) None ≡ None
    by_test true c = none (place_of c)
    by_test false c = refl

-- ---- the cell of a place
abbrev pub cell_at : ℕ → Cell
cell_at place = cell (place / 4294967296) (place % 4294967296)

pub cell_at-place : (place : ℕ) → place < 18446744073709551616 → has_place (cell_at place) ≡ true
cell_at-place place lt = place_from (cell_at place) (omega arith) (omega arith)

pub place_again : (place : ℕ) → place_of (cell_at place) ≡ place
place_again place = omega arith

pub place_held : (far : Sparse Worth) (place : ℕ) → place < 18446744073709551616 → far_held far (cell_at place) ≡ value_for far place
place_held far place lt = far_held-at far (cell_at place) (cell_at-place place lt) ∙ ap (value_for far) (place_again place)

pub place_unset : (far then : Sparse Worth) (place : ℕ) (w : Option Worth) → place < 18446744073709551616
    → value_for then ≡ with_value (value_for far) place w → far_held then ≡ with_worth (far_held far) (cell_at place) w
place_unset far then place w lt changed =
    far_held-with far then (cell_at place) w (cell_at-place place lt)
    (changed ∙ ap (λ n. with_value (value_for far) n w) (sym (place_again place)))

-- tables that hold nothing in any place but the last, which is that of no key
pub far_emptied : (far : Sparse Worth) (from : ℕ) → HasKeysInRange (far_held far) → ((n : ℕ) → n < from → value_for far n ≡ None)
    → ((n : ℕ) → from ≤ n → n < 18446744073709551615 → value_for far n ≡ None) → far_held far ≡ nothing_held
far_emptied far from bounded before behind = λ i c. at c i
  where
    below : (n : ℕ) → n < 18446744073709551615 → value_for far n ≡ None
    below n lt =
        elim (nat_lt n from) as (λ b. nat_lt n from ≡ b → value_for far n ≡ None) [
          | true ↦ λ e. before n (true_lt n from e)
          | false ↦ λ e. behind n (omega (arith, ltb-false n from e)) lt
        ] refl

    at : (c : Cell) → far_held far c ≡ None
    at c =
        elim (has_place c) as (λ b. has_place c ≡ b → far_held far c ≡ None) [
          | true ↦ λ has. in_range_or_none (far_held far) c bounded
              (λ lt. far_held-at far c has ∙ below (place_of c) (omega (arith, lt, place_family c has)))
          | false ↦ λ out. far_held-out far c out
        ] refl
