-- Cells that have a slot in a table, and cells that have none.
use Rattle.std.proofs.Common.{◌≡◌, ◌<◌, ◌≤◌, ◌+◌, ◌/◌, ◌%◌, ℕ, Bool, true, false, cond, Option, Some, None, refl, sym, ap, ◌∙◌, arith}
use Rattle.std.specs.Prelude.{◌==◌, ◌&&◌, ◌||◌, nat_lt, is_some, IsSome, IfNone}
use Rattle.std.proofs.lemmas.Bool.{ne_eqb, eqb-false, ltb-false}
use Rattle.flu_lemmas.proofs.Numbers.{same_number}
use Rattle.flu_lemmas.proofs.Searches.{eq_true}
use Rattle.flu_lemmas.proofs.Tests.{and_right, both, true_lt, lt_true, not_both}
use Rattle.flu_lemmas.proofs.TwoNumbers.{made_alike}
use Rattle.flu_model.specs.declared.events.Cell.{Cell}
use Rattle.flu_model.specs.declared.events.Worth.{Worth}
use Rattle.flu_model.specs.Contents.{Contents, cell, is_same_cell, nothing_held, with_worth, join, joined_worth, key_count}
use Rattle.flu_dense.specs.declared.table.Dense.{Dense}
use Rattle.flu_dense.specs.declared.sparse.Sparse.{Sparse}
use Rattle.flu_dense.specs.Holding.{value_at}
use Rattle.flu_dense.specs.Values.{with_value}
use Rattle.flu_cells.specs.Entries.{is_near, slot_of, near_held, far_held, contents_of, HasFarAlone, HasKeysInRange}
use Rattle.flu_cells.proofs.Moves.{joined-none}
use Rattle.flu_cells.proofs.Numbered.{apart, numbered-with}

-- ---- slots
pub near_key : (c : Cell) → is_near c ≡ true → c.key < 64
near_key c near = true_lt c.key 64 (and_right _ _ near)

pub near_from : (c : Cell) → c.family < 64 → c.key < 64 → is_near c ≡ true
near_from c family key = both _ _ (lt_true c.family 64 family) (lt_true c.key 64 key)

-- cells that have slots have one each
one_slot : (c d : Cell) → is_near c ≡ true → is_near d ≡ true → (slot_of d == slot_of c) ≡ is_same_cell d c
one_slot c d near_c near_d =
    elim (is_same_cell d c) as (λ b. is_same_cell d c ≡ b → (slot_of d == slot_of c) ≡ b) [
      | true ↦ λ same. ap (λ e. slot_of e == slot_of c) (made_alike cell d.family d.key c.family c.key same) ∙ same_number (slot_of c)
      | false ↦ λ other. ne_eqb (slot_of d) (slot_of c) (λ e. not_both (is_same_cell d c) (alike (near_key c near_c) (near_key d near_d) e) other)
    ] refl
  where
    alike : c.key < 64 → d.key < 64 → slot_of d ≡ slot_of c → is_same_cell d c ≡ true
    alike lt_c lt_d e = both _ _ (eq_true d.family c.family (omega arith)) (eq_true d.key c.key (omega arith))

pub apart_far : (c d : Cell) → is_near c ≡ false → is_near d ≡ true → is_same_cell d c ≡ false
apart_far c d far_c near_d =
    elim (is_same_cell d c) as (λ b. is_same_cell d c ≡ b → b ≡ false) [
      | true ↦ λ same. absurd (not_both (is_near d) near_d (ap is_near (made_alike cell d.family d.key c.family c.key same) ∙ far_c))
      | false ↦ λ other. refl
    ] refl

-- ---- what is read
pub near_held-at : (near : Dense Worth) (c : Cell) → is_near c ≡ true → near_held near c ≡ value_at near (slot_of c)
unfolding near_held
near_held-at near c is = ap (λ b. cond b (value_at near (slot_of c)) None) is

pub near_held-far : (near : Dense Worth) (c : Cell) → is_near c ≡ false → near_held near c ≡ None
unfolding near_held
near_held-far near c is = ap (λ b. cond b (value_at near (slot_of c)) None) is

pub contents-near : (near : Dense Worth) (far : Sparse Worth) (c : Cell) → is_near c ≡ true → contents_of near far c ≡ near_held near c
unfolding contents_of
contents-near near far c is = ap (λ b. cond b (near_held near c) (far_held far c)) is

pub contents-far : (near : Dense Worth) (far : Sparse Worth) (c : Cell) → is_near c ≡ false → contents_of near far c ≡ far_held far c
unfolding contents_of
contents-far near far c is = ap (λ b. cond b (near_held near c) (far_held far c)) is

pub in_slot : (near : Dense Worth) (far : Sparse Worth) (c : Cell) → is_near c ≡ true → contents_of near far c ≡ value_at near (slot_of c)
in_slot near far c is = contents-near near far c is ∙ near_held-at near c is

-- ---- one cell that changes
pub near_held-with : (near then : Dense Worth) (c : Cell) (w : Option Worth) → is_near c ≡ true → value_at then ≡ with_value (value_at near) (slot_of c) w
    → near_held then ≡ with_worth (near_held near) c w
unfolding near_held
near_held-with near then c w is changed = numbered-with is_near slot_of one_slot (value_at near) (value_at then) c w is changed

pub contents-near_with : (near then : Dense Worth) (far : Sparse Worth) (c : Cell) (w : Option Worth) → is_near c ≡ true
    → value_at then ≡ with_value (value_at near) (slot_of c) w → contents_of then far ≡ with_worth (contents_of near far) c w
contents-near_with near then far c w is changed = λ i d. at d i
  where
    at : (d : Cell) → contents_of then far d ≡ with_worth (contents_of near far) c w d
    at d =
        elim (is_near d) as (λ b. is_near d ≡ b → contents_of then far d ≡ with_worth (contents_of near far) c w d) [
          | true ↦ λ near_d.
              contents-near then far d near_d ∙ ap (λ s. s d) (near_held-with near then c w is changed)
              ∙ ap (cond (is_same_cell d c) w) (sym (contents-near near far d near_d))
          | false ↦ λ far_d.
              contents-far then far d far_d ∙ sym (contents-far near far d far_d) ∙ ap (λ b. cond b w (contents_of near far d)) (sym (apart is_near c d is far_d))
        ] refl

pub contents-far_with : (near : Dense Worth) (far then : Sparse Worth) (c : Cell) (w : Option Worth) → is_near c ≡ false
    → far_held then ≡ with_worth (far_held far) c w → contents_of near then ≡ with_worth (contents_of near far) c w
contents-far_with near far then c w is changed = λ i d. at d i
  where
    at : (d : Cell) → contents_of near then d ≡ with_worth (contents_of near far) c w d
    at d =
        elim (is_near d) as (λ b. is_near d ≡ b → contents_of near then d ≡ with_worth (contents_of near far) c w d) [
          | true ↦ λ near_d.
              contents-near near then d near_d ∙ sym (contents-near near far d near_d)
              ∙ ap (λ b. cond b w (contents_of near far d)) (sym (apart_far c d is near_d))
          | false ↦ λ far_d.
              contents-far near then d far_d ∙ ap (λ s. s d) changed ∙ ap (cond (is_same_cell d c) w) (sym (contents-far near far d far_d))
        ] refl

pub far_alone-with : (far then : Sparse Worth) (c : Cell) (w : Option Worth) → is_near c ≡ false → far_held then ≡ with_worth (far_held far) c w
    → HasFarAlone far → HasFarAlone then
far_alone-with far then c w is changed alone d v e =
    elim (is_same_cell d c) as (λ b. is_same_cell d c ≡ b → cond b w (far_held far d) ≡ Some v → is_near d ≡ false) [
      | true ↦ λ same held. ap is_near (made_alike cell d.family d.key c.family c.key same) ∙ is
      | false ↦ λ other held. alone d v held
    ] refl (sym (ap (λ s. s d) changed) ∙ e)

-- ---- where nothing changes
pub contents-same : (near then : Dense Worth) (far far_then : Sparse Worth) → value_at then ≡ value_at near → far_held far_then ≡ far_held far
    → contents_of then far_then ≡ contents_of near far
unfolding contents_of near_held
contents-same near then far far_then e f = λ i c. cond (is_near c) (cond (is_near c) (e i (slot_of c)) None) (f i c)

pub far_alone-same : (far then : Sparse Worth) → far_held then ≡ far_held far → HasFarAlone far → HasFarAlone then
far_alone-same far then same alone c w e = alone c w (sym (ap (λ s. s c) same) ∙ e)

pub contents-none : (near : Dense Worth) (far : Sparse Worth) → ((s : ℕ) → value_at near s ≡ None) → far_held far ≡ nothing_held
    → contents_of near far ≡ nothing_held
contents-none near far e f = λ i c. at c i
  where
    at : (c : Cell) → contents_of near far c ≡ None
    at c =
        elim (is_near c) as (λ b. is_near c ≡ b → contents_of near far c ≡ None) [
          | true ↦ λ is. in_slot near far c is ∙ e (slot_of c)
          | false ↦ λ is. contents-far near far c is ∙ ap (λ s. s c) f
        ] refl

-- ---- the two parts of a state
pub near_part : (near : Dense Worth) (far : Sparse Worth) (c : Cell) (w : Worth) → near_held near c ≡ Some w → contents_of near far c ≡ Some w
near_part near far c w e =
    elim (is_near c) as (λ b. is_near c ≡ b → contents_of near far c ≡ Some w) [
      | true ↦ λ is. contents-near near far c is ∙ e
      | false ↦ λ is. let none : near_held near c ≡ None = near_held-far near c is in cc
    ] refl

pub far_part : (near : Dense Worth) (far : Sparse Worth) → HasFarAlone far → (c : Cell) (w : Worth) → far_held far c ≡ Some w
    → contents_of near far c ≡ Some w
far_part near far alone c w e = contents-far near far c (alone c w e) ∙ e

pub none_of : (o : Option Worth) → ((w : Worth) → o ≡ Some w → ⊥) → o ≡ None
none_of None never = refl
none_of (Some w) never = absurd (never w refl)

-- a cell with a slot is not held in its place
pub far_none : (far : Sparse Worth) (c : Cell) → HasFarAlone far → is_near c ≡ true → far_held far c ≡ None
far_none far c alone is = none_of (far_held far c) (λ w e. not_both (is_near c) is (alone c w e))

pub near_nothing : (near : Dense Worth) (far : Sparse Worth) → contents_of near far ≡ nothing_held → near_held near ≡ nothing_held
near_nothing near far none = λ i c. none_of (near_held near c)
    (λ w e. let is : contents_of near far c ≡ Some w = near_part near far c w e in let never : contents_of near far c ≡ None = ap (λ s. s c) none in cc) i

pub far_nothing : (near : Dense Worth) (far : Sparse Worth) → HasFarAlone far → contents_of near far ≡ nothing_held → far_held far ≡ nothing_held
far_nothing near far alone none =
    λ i c. none_of (far_held far c) (λ w e. let is : contents_of near far c ≡ Some w = far_part near far alone c w e in
    let never : contents_of near far c ≡ None = ap (λ s. s c) none in cc) i

-- a join with both parts, one after the other, is the join with the whole
pub join-parts : (s : Contents) (near : Dense Worth) (far : Sparse Worth) → HasFarAlone far
    → join (join s (near_held near)) (far_held far) ≡ join s (contents_of near far)
join-parts s near far alone = λ i c. at c i
  where
    at : (c : Cell) → join (join s (near_held near)) (far_held far) c ≡ join s (contents_of near far) c
    at c =
        elim (is_near c) as (λ b. is_near c ≡ b → join (join s (near_held near)) (far_held far) c ≡ join s (contents_of near far) c) [
          | true ↦ λ is.
              ap (joined_worth (joined_worth (s c) (near_held near c))) (far_none far c alone is) ∙ joined-none (joined_worth (s c) (near_held near c))
              ∙ ap (joined_worth (s c)) (sym (contents-near near far c is))
          | false ↦ λ is.
              ap (λ w. joined_worth (joined_worth (s c) w) (far_held far c)) (near_held-far near c is)
              ∙ ap (λ w. joined_worth w (far_held far c)) (joined-none (s c))
              ∙ ap (joined_worth (s c)) (sym (contents-far near far c is))
        ] refl

-- ---- the cell of a slot
abbrev pub cell_of : ℕ → Cell
cell_of slot = cell (slot / 64) (slot % 64)

pub near_cell : (slot : ℕ) → slot < 4096 → is_near (cell_of slot) ≡ true
near_cell slot lt = near_from (cell_of slot) (omega arith) (omega arith)

pub slot_again : (slot : ℕ) → slot_of (cell_of slot) ≡ slot
slot_again slot = omega arith

pub slot_held : (near : Dense Worth) (slot : ℕ) → slot < 4096 → near_held near (cell_of slot) ≡ value_at near slot
slot_held near slot lt = near_held-at near (cell_of slot) (near_cell slot lt) ∙ ap (value_at near) (slot_again slot)

pub slot_unset : (near then : Dense Worth) (slot : ℕ) (w : Option Worth) → slot < 4096 → value_at then ≡ with_value (value_at near) slot w
    → near_held then ≡ with_worth (near_held near) (cell_of slot) w
slot_unset near then slot w lt changed =
    near_held-with near then (cell_of slot) w (near_cell slot lt) (changed ∙ ap (λ s. with_value (value_at near) s w) (sym (slot_again slot)))

pub with_none : (s : Contents) (c : Cell) → s c ≡ None → with_worth s c None ≡ s
with_none s c none = λ i d. at d i
  where
    at : (d : Cell) → with_worth s c None d ≡ s d
    at d =
        elim (is_same_cell d c) as (λ b. is_same_cell d c ≡ b → cond b None (s d) ≡ s d) [
          | true ↦ λ same. sym (ap s (made_alike cell d.family d.key c.family c.key same) ∙ none)
          | false ↦ λ other. refl
        ] refl

-- tables that have lost a value hold no more than before
pub near_before : (s : Contents) (c d : Cell) (w : Worth) → with_worth s c None d ≡ Some w → s d ≡ Some w
near_before s c d w e = by_test (is_same_cell d c) e
  where
    by_test : (b : Bool) → cond b None (s d) ≡ Some w → s d ≡ Some w
    by_test true e = cc
    by_test false e = e

pub near_emptied : (near : Dense Worth) → ((s : ℕ) → value_at near s ≡ None) → near_held near ≡ nothing_held
unfolding near_held
near_emptied near none = λ i c. by_test (is_near c) c i
  where
    by_test : (b : Bool) (c : Cell) → cond b (value_at near (slot_of c)) None ≡ None
    by_test true c = none (slot_of c)
    by_test false c = refl

pub none_anyway : {T P : Type 0} (o : Option T) → P → IfNone o P
none_anyway None p = p
none_anyway (Some x) p = tt

pub none_weaker : {T P Q : Type 0} (o : Option T) → (P → Q) → IfNone o P → IfNone o Q
none_weaker None f p = f p
none_weaker (Some x) f p = tt

-- ---- the keys of a family, one after another
pub by_part : (near : Dense Worth) (far : Sparse Worth) (c : Cell) → (is_near c ≡ true → contents_of near far c ≡ None)
    → (is_near c ≡ false → far_held far c ≡ None)
    → contents_of near far c ≡ None
by_part near far c in_table in_map =
    elim (is_near c) as (λ b. is_near c ≡ b → contents_of near far c ≡ None) [
      | true ↦ in_table
      | false ↦ λ is. contents-far near far c is ∙ in_map is
    ] refl

pub in_range_or_none : (far : Contents) (c : Cell) → HasKeysInRange far → (c.key < key_count → far c ≡ None) → far c ≡ None
in_range_or_none far c bounded none = none_of (far c) (λ w e. let is : far c ≡ None = none (bounded c w e) in cc)

pub some_value : (o : Option Worth) → IsSome o → (w : Worth) × (o ≡ Some w)
some_value None e = cc
some_value (Some w) e = (w, refl)

pub value_some : (o : Option Worth) (w : Worth) → o ≡ Some w → IsSome o
value_some o w e = ap is_some e

-- the cells of a family below a key hold nothing
abbrev pub IsClearBelow : Contents → ℕ → ℕ → Type 0
IsClearBelow s family from = (c : Cell) → c.family ≡ family → c.key < from → s c ≡ None

pub clear_below-more : (s then : Contents) (family from key : ℕ) → then ≡ with_worth s (cell family key) None → IsClearBelow s family from
    → ((j : ℕ) → from ≤ j → j < key → s (cell family j) ≡ None) → IsClearBelow then family (key + 1)
clear_below-more s then family from key changed before between c same lt =
    ap (λ u. u c) changed
    ∙ elim (is_same_cell c (cell family key)) as (λ b. is_same_cell c (cell family key) ≡ b → cond b None (s c) ≡ None) [
      | true ↦ λ is. refl
      | false ↦ λ other.
          elim (nat_lt c.key from) as (λ b. nat_lt c.key from ≡ b → s c ≡ None) [
            | true ↦ λ below. before c same (true_lt c.key from below)
            | false ↦ λ above. ap (λ f. s (cell f c.key)) same ∙ between c.key (ltb-false c.key from above) (not_key other)
          ] refl
    ] refl
  where
    not_key : is_same_cell c (cell family key) ≡ false → c.key < key
    not_key other = elim (c.key == key) as (λ b. (c.key == key) ≡ b → c.key < key) [
      | true ↦ λ e. absurd (not_both (is_same_cell c (cell family key)) (both _ _ (eq_true c.family family same) e) other)
      | false ↦ λ e. omega (arith, eqb-false c.key key e, lt)
    ] refl

pub all_clear : (s : Contents) (family from : ℕ) → IsClearBelow s family from → ((j : ℕ) → from ≤ j → s (cell family j) ≡ None) → (c : Cell) → c.family ≡ family
    → s c ≡ None
all_clear s family from before behind c same =
    elim (nat_lt c.key from) as (λ b. nat_lt c.key from ≡ b → s c ≡ None) [
      | true ↦ λ below. before c same (true_lt c.key from below)
      | false ↦ λ above. ap (λ f. s (cell f c.key)) same ∙ behind c.key (ltb-false c.key from above)
    ] refl

-- a cell of a family is no further cell beside that family
pub same_or_family : (family key : ℕ) → ◌≡◌ {A = Cell → Bool} (λ c. is_same_cell c (cell family key) || (c.family == family)) (λ c. c.family == family)
same_or_family family key = λ i c. at c i
  where
    at : (c : Cell) → (is_same_cell c (cell family key) || (c.family == family)) ≡ (c.family == family)
    at c = by_family (c.family == family) (c.key == key)
      where
        by_family : (a b : Bool) → ((a && b) || a) ≡ a
        by_family true true = refl
        by_family true false = refl
        by_family false b = refl
