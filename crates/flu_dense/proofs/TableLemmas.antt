-- What a table holds, as its rows change.
use Rattle.std.proofs.Common.{◌≡◌, ◌<◌, ◌≤◌, ◌≢◌, ◌++◌, ◌+◌, ◌*◌, ◌/◌, ◌%◌, ℕ, Bool, true, false, cond, Option, Some, None, List, [], ◌∷◌, length, set, refl, sym, ap}
use Rattle.std.proofs.Common.{subst, ◌∙◌, arith}
use Rattle.std.specs.Prelude.{◌==◌, ◌&&◌, ◌||◌, not, nat_lt, slice_get, is_some, IsSome, IfNone}
use Rattle.std.proofs.Math.ListN.{length-append}
use Rattle.std.proofs.lemmas.Bool.{eqb-false, ne_eqb, ltb-false}
use Rattle.std.proofs.lemmas.Option.{slice_get_past}
use Rattle.flu_lemmas.proofs.Places.{slice_get-behind}
use Rattle.flu_lemmas.proofs.Searches.{eq_true}
use Rattle.flu_lemmas.proofs.Tests.{true_eq, true_lt, and_left, and_right}
use Rattle.flu_dense.specs.declared.mask.Mask.{Mask}
use Rattle.flu_dense.specs.declared.row.Row.{Row}
use Rattle.flu_dense.specs.Masks.{has}
use Rattle.flu_dense.specs.Tables.{value_in, value_in_row, value_of, HasSlotsInRange, IsEmptyBeside}
use Rattle.flu_dense.specs.Values.{with_value}
use Rattle.flu_lemmas.proofs.Replaced.{slice_get-set_same, slice_get-set_other}
use Rattle.flu_dense.proofs.ListLemmas.{slice_get-append}

-- ---- numbers of slots
same_slot : (s t : ℕ) → s / 64 ≡ t / 64 → (s % 64 == t % 64) ≡ (s == t)
same_slot s t row =
    elim (s % 64 == t % 64) as (λ b. (s % 64 == t % 64) ≡ b → b ≡ (s == t)) [
      | true ↦ λ e. let place : s % 64 ≡ t % 64 = true_eq (s % 64) (t % 64) e in sym (eq_true s t (omega arith))
      | false ↦ λ e. sym (ne_eqb s t (λ same. eqb-false (s % 64) (t % 64) e (ap (λ n. n % 64) same)))
    ] refl

pub row_of : (r k : ℕ) → k < 64 → (r * 64 + k) / 64 ≡ r
row_of r k lt = omega arith

pub place_of : (r k : ℕ) → k < 64 → (r * 64 + k) % 64 ≡ k
place_of r k lt = omega arith

-- ---- the row of a slot
pub with_row : {V : Type 0} (rows : List (Row V)) (s : ℕ) (row : Row V) → slice_get rows (s / 64) ≡ Some row → value_of rows s ≡ value_in row (s % 64)
unfolding value_of
with_row rows s row e = ap (λ o. value_in_row o (s % 64)) e

pub without_row : {V : Type 0} (rows : List (Row V)) (s : ℕ) → slice_get rows (s / 64) ≡ None → value_of rows s ≡ None
unfolding value_of
without_row rows s e = ap (λ o. value_in_row o (s % 64)) e

pub past_rows : {V : Type 0} (rows : List (Row V)) (s : ℕ) → length rows ≤ s / 64 → value_of rows s ≡ None
past_rows rows s le = without_row rows s (slice_get_past rows (s / 64) le)

pub slots_in_range : {V : Type 0} (rows : List (Row V)) → length rows ≤ 64 → HasSlotsInRange (value_of rows)
slots_in_range rows le s from = ap is_some (past_rows rows s (omega arith))

-- ---- a row that changes at one place
other_row : {V : Type 0} (rows : List (Row V)) (slot s : ℕ) (then : Row V) → s / 64 ≢ slot / 64 → value_of (set rows (slot / 64) then) s ≡ value_of rows s
unfolding value_of
other_row rows slot s then other = ap (λ o. value_in_row o (s % 64)) (slice_get-set_other rows (slot / 64) (s / 64) then other)

pub row_changed : {V : Type 0} (rows : List (Row V)) (slot : ℕ) (row then : Row V) (v : Option V) → slice_get rows (slot / 64) ≡ Some row
    → slot / 64 < length rows
    → ((j : ℕ) → j < 64 → value_in then j ≡ with_value (value_in row) (slot % 64) v j)
    → value_of (set rows (slot / 64) then) ≡ with_value (value_of rows) slot v
row_changed {V} rows slot row then v is lt changed = λ i s. at s i
  where
    at : (s : ℕ) → value_of (set rows (slot / 64) then) s ≡ with_value (value_of rows) slot v s
    at s =
        elim (s / 64 == slot / 64) as (λ b. (s / 64 == slot / 64) ≡ b → value_of (set rows (slot / 64) then) s ≡ with_value (value_of rows) slot v s) [
          | true ↦ λ e. let same : s / 64 ≡ slot / 64 = true_eq (s / 64) (slot / 64) e in
              with_row (set rows (slot / 64) then) s then (ap (slice_get (set rows (slot / 64) then)) same ∙ slice_get-set_same rows (slot / 64) then lt)
              ∙ changed (s % 64) (omega arith)
              ∙ ap (λ b. cond b v (value_in row (s % 64))) (same_slot s slot same)
              ∙ ap (cond (s == slot) v) (sym (with_row rows s row (ap (slice_get rows) same ∙ is)))
          | false ↦ λ e. let other : s / 64 ≢ slot / 64 = eqb-false (s / 64) (slot / 64) e in
              other_row rows slot s then other
              ∙ ap (λ b. cond b v (value_of rows s)) (sym (ne_eqb s slot (λ same. other (ap (λ n. n / 64) same))))
        ] refl

-- a row in whose place another one comes that holds the same
pub row_same : {V : Type 0} (rows : List (Row V)) (slot : ℕ) (row then : Row V) → slice_get rows (slot / 64) ≡ Some row → slot / 64 < length rows
    → ((j : ℕ) → j < 64 → value_in then j ≡ value_in row j) → value_of (set rows (slot / 64) then) ≡ value_of rows
row_same {V} rows slot row then is lt same_values = λ i s. at s i
  where
    at : (s : ℕ) → value_of (set rows (slot / 64) then) s ≡ value_of rows s
    at s =
        elim (s / 64 == slot / 64) as (λ b. (s / 64 == slot / 64) ≡ b → value_of (set rows (slot / 64) then) s ≡ value_of rows s) [
          | true ↦ λ e. let same : s / 64 ≡ slot / 64 = true_eq (s / 64) (slot / 64) e in
              with_row (set rows (slot / 64) then) s then (ap (slice_get (set rows (slot / 64) then)) same ∙ slice_get-set_same rows (slot / 64) then lt)
              ∙ same_values (s % 64) (omega arith)
              ∙ sym (with_row rows s row (ap (slice_get rows) same ∙ is))
          | false ↦ λ e. other_row rows slot s then (eqb-false (s / 64) (slot / 64) e)
        ] refl

-- ---- the rows that hold something
pub empty_beside-same : {V : Type 0} (m : Mask) (f h : ℕ → Option V) → h ≡ f → IsEmptyBeside m f → IsEmptyBeside m h
empty_beside-same m f h same beside s lt out = ap (λ v. v s) same ∙ beside s lt out

-- a value that is set in a row, which is among them then
pub empty_beside-set : {V : Type 0} (m n : Mask) (f : ℕ → Option V) (slot : ℕ) (v : Option V) → ((j : ℕ) → has n j ≡ ((j == slot / 64) || has m j))
    → IsEmptyBeside m f → IsEmptyBeside n (with_value f slot v)
empty_beside-set {V} m n f slot v more beside s lt out =
    elim (s / 64 == slot / 64) as (λ b. (s / 64 == slot / 64) ≡ b → (b || has m (s / 64)) ≡ false → with_value f slot v s ≡ None) [
      | true ↦ λ e never. cc
      | false ↦ λ e rest.
          ap (λ b. cond b v (f s)) (ne_eqb s slot (λ same. eqb-false (s / 64) (slot / 64) e (ap (λ n. n / 64) same))) ∙ beside s lt rest
    ] refl (sym (more (s / 64)) ∙ out)

-- a value that is unset in a row, which is not among them then if it holds nothing
pub empty_beside-unset : {V : Type 0} (m n : Mask) (f h : ℕ → Option V) (slot : ℕ) (gone : Bool)
    → ((j : ℕ) → j < 64 → has n j ≡ (not ((j == slot / 64) && gone) && has m j)) → h ≡ with_value f slot None
    → (gone ≡ true → (s : ℕ) → s / 64 ≡ slot / 64 → h s ≡ None)
    → IsEmptyBeside m f → IsEmptyBeside n h
empty_beside-unset {V} m n f h slot gone less changed none beside s lt out =
    elim ((s / 64 == slot / 64) && gone) as (λ b. ((s / 64 == slot / 64) && gone) ≡ b → (not b && has m (s / 64)) ≡ false → h s ≡ None) [
      | true ↦ λ e any. none (and_right _ _ e) s (true_eq (s / 64) (slot / 64) (and_left _ _ e))
      | false ↦ λ e rest. ap (λ v. v s) changed ∙ still (s == slot) (beside s lt rest)
    ] refl (sym (less (s / 64) (omega arith)) ∙ out)
  where
    still : (b : Bool) → f s ≡ None → cond b None (f s) ≡ None
    still true e = refl
    still false e = e

-- a slot whose row is not there holds nothing, so nothing is to be changed where it is to hold nothing
pub none_changed : {V : Type 0} (m : ℕ → Option V) (slot : ℕ) → m slot ≡ None → m ≡ with_value m slot None
none_changed m slot none = λ i s. at s i
  where
    at : (s : ℕ) → m s ≡ with_value m slot None s
    at s =
        elim (s == slot) as (λ b. (s == slot) ≡ b → m s ≡ cond b None (m s)) [
          | true ↦ λ e. ap m (true_eq s slot e) ∙ none
          | false ↦ λ e. refl
        ] refl

-- ---- rows that are added behind
pub row_before : {V : Type 0} (rows : List (Row V)) (row : Row V) (s : ℕ) → s / 64 < length rows → value_of (rows ++ row ∷ []) s ≡ value_of rows s
unfolding value_of
row_before rows row s lt = ap (λ o. value_in_row o (s % 64)) (slice_get-append rows (row ∷ []) (s / 64) lt)

pub row_behind : {V : Type 0} (rows : List (Row V)) (row : Row V) (s : ℕ) → s / 64 ≡ length rows → value_of (rows ++ row ∷ []) s ≡ value_in row (s % 64)
row_behind rows row s e = with_row (rows ++ row ∷ []) s row (ap (slice_get (rows ++ row ∷ [])) e ∙ slice_get-behind rows row [])

pub empty_row_behind : {V : Type 0} (rows : List (Row V)) (row : Row V) → ((k : ℕ) → value_in row k ≡ None) → value_of (rows ++ row ∷ []) ≡ value_of rows
empty_row_behind rows row empty = λ i s. at s i
  where
    at : (s : ℕ) → value_of (rows ++ row ∷ []) s ≡ value_of rows s
    at s =
        elim (nat_lt (s / 64) (length rows)) as (λ b. nat_lt (s / 64) (length rows) ≡ b → value_of (rows ++ row ∷ []) s ≡ value_of rows s) [
          | true ↦ λ e. row_before rows row s (true_lt (s / 64) (length rows) e)
          | false ↦ λ e. not_before s (ltb-false (s / 64) (length rows) e)
        ] refl
      where
        not_before : (s : ℕ) → length rows ≤ s / 64 → value_of (rows ++ row ∷ []) s ≡ value_of rows s
        not_before s le =
            elim (s / 64 == length rows) as (λ b. (s / 64 == length rows) ≡ b → value_of (rows ++ row ∷ []) s ≡ value_of rows s) [
              | true ↦ λ e. row_behind rows row s (true_eq (s / 64) (length rows) e) ∙ empty (s % 64) ∙ sym (past_rows rows s le)
              | false ↦ λ e.
                  let other : s / 64 ≢ length rows = eqb-false (s / 64) (length rows) e in
                  past_rows (rows ++ row ∷ []) s (omega (arith, length-append rows (row ∷ []), le, other)) ∙ sym (past_rows rows s le)
            ] refl

-- ---- the row of a slot that is held
is_past : {V : Type 0} (rows : List (Row V)) (s : ℕ) → IsSome (value_of rows s) → length rows ≤ s / 64 → ⊥
is_past rows s some le = let none : is_some (value_of rows s) ≡ false = ap is_some (past_rows rows s le) in cc

pub row_there : {V : Type 0} (rows : List (Row V)) (s : ℕ) → IsSome (value_of rows s) → s / 64 < length rows
row_there rows s some = let h : length rows ≤ s / 64 → ⊥ = is_past rows s some in grind (arith, h)

pub none_anyway : {T P : Type 0} (o : Option T) → P → IfNone o P
none_anyway None p = p
none_anyway (Some x) p = tt

-- ---- the slots of a row, in order
in_row_from : (at s : ℕ) → at ≤ s → s < at / 64 * 64 + 64 → (s / 64 ≡ at / 64) × (at % 64 ≤ s % 64)
in_row_from at s le lt = (omega arith, omega arith)

pub none_in_row : {V : Type 0} (rows : List (Row V)) (at top s : ℕ) (row : Row V) → slice_get rows (at / 64) ≡ Some row → top ≤ 64
    → ((j : ℕ) → at % 64 ≤ j → j < top → value_in row j ≡ None) → at ≤ s → s < at / 64 * 64 + top → value_of rows s ≡ None
none_in_row rows at top s row is small none le lt =
    let here = in_row_from at s le (omega arith) in
    with_row rows s row (ap (slice_get rows) here.0 ∙ is) ∙ none (s % 64) here.1 (omega (arith, here.0))

pub none_before : (P : ℕ → Type 0) (from at top : ℕ) → ((k : ℕ) → from ≤ k → k < at → P k) → ((k : ℕ) → at ≤ k → k < top → P k) → (k : ℕ) → from ≤ k → k < top
    → P k
none_before P from at top before here k le lt =
    elim (nat_lt k at) as (λ b. nat_lt k at ≡ b → P k) [
      | true ↦ λ e. before k le (true_lt k at e)
      | false ↦ λ e. here k (ltb-false k at e) lt
    ] refl

-- ---- rows that are copied, one after another
pub row_copied : {V : Type 0} (rows copies more : List (Row V)) (i : ℕ) (row copy : Row V) → more ≡ copies ++ copy ∷ [] → slice_get rows i ≡ Some row
    → ((k : ℕ) → value_in copy k ≡ value_in row k) → length copies ≡ i → ((s : ℕ) → s / 64 < i → value_of copies s ≡ value_of rows s)
    → (s : ℕ) → s / 64 < i + 1 → value_of more s ≡ value_of rows s
row_copied rows copies more i row copy is here same count before s lt =
    ap (λ rs. value_of rs s) is
    ∙ elim (s / 64 == i) as (λ b. (s / 64 == i) ≡ b → value_of (copies ++ copy ∷ []) s ≡ value_of rows s) [
      | true ↦ λ e. let at : s / 64 ≡ i = true_eq (s / 64) i e in
          row_behind copies copy s (at ∙ sym count) ∙ same (s % 64) ∙ sym (with_row rows s row (ap (slice_get rows) at ∙ here))
      | false ↦ λ e. let below : s / 64 < i = omega (arith, eqb-false (s / 64) i e) in
          row_before copies copy s (omega (arith, below, count)) ∙ before s below
    ] refl

pub rows_copied : {V : Type 0} (rows copies : List (Row V)) (i : ℕ) → length rows ≤ i → length copies ≡ i
    → ((s : ℕ) → s / 64 < i → value_of copies s ≡ value_of rows s)
    → value_of copies ≡ value_of rows
rows_copied rows copies i le count same = λ j s. at s j
  where
    at : (s : ℕ) → value_of copies s ≡ value_of rows s
    at s =
        elim (nat_lt (s / 64) i) as (λ b. nat_lt (s / 64) i ≡ b → value_of copies s ≡ value_of rows s) [
          | true ↦ λ e. same s (true_lt (s / 64) i e)
          | false ↦ λ e. let past : i ≤ s / 64 = ltb-false (s / 64) i e in
              past_rows copies s (omega (arith, count, past)) ∙ sym (past_rows rows s (omega (arith, le, past)))
        ] refl

pub found_in_row : {V : Type 0} (rows : List (Row V)) (at place : ℕ) (row : Row V) → slice_get rows (at / 64) ≡ Some row → place < 64
    → IsSome (value_in row place)
    → IsSome (value_of rows (at / 64 * 64 + place))
found_in_row {V} rows at place row is lt some =
    subst IsSome
    (sym (with_row rows (at / 64 * 64 + place) row (ap (slice_get rows) (row_of (at / 64) place lt) ∙ is) ∙ ap (value_in row) (place_of (at / 64) place lt)))
    some
