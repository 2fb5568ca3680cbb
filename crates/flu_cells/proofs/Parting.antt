-- A state that is parted by tests on its cells, one after another.
use Rattle.std.proofs.Common.{◌≡◌, ◌<◌, ℕ, Bool, true, false, cond, Option, Some, None, List, [], ◌∷◌, refl, sym, ap, subst, ◌∙◌, arith}
use Rattle.std.specs.Prelude.{◌==◌, ◌&&◌, ◌||◌, not, is_some}
use Rattle.std.specs.List.{list_any, filter, range_with_len}
use Rattle.std.specs.Ordering.{nat_cmp}
use Rattle.std.specs.BTreeMap.{is_at}
use Rattle.std.proofs.lemmas.Grind.{common_steps}
use Rattle.flu_lemmas.proofs.Numbers.{same_number}
use Rattle.flu_lemmas.proofs.Ranges.{any_in_range}
use Rattle.flu_lemmas.proofs.Tests.{true_eq, not_both}
use Rattle.flu_lemmas.proofs.TwoNumbers.{made_alike}
use Rattle.flu_model.specs.declared.events.Cell.{Cell}
use Rattle.flu_model.specs.declared.events.Worth.{Worth}
use Rattle.flu_model.specs.Contents.{Contents, cell, is_same_cell, with_worth, key_count, all_keys, held_keys, without_family}
use Rattle.flu_model.specs.Order.{cell_cmp}
use Rattle.flu_cells.specs.Entries.{overlay, HasKeysInRange}
use Rattle.flu_cells.specs.Sets.{only, Moves}

-- ---- the tests of a set
abbrev pub in_families : List ℕ → Cell → Bool
in_families fs c = list_any (is_at (nat_cmp c.family)) fs

abbrev pub in_cells : List Cell → Cell → Bool
in_cells cs c = list_any (is_at (cell_cmp c)) cs

at_family : (f g : ℕ) → is_at (nat_cmp f) g ≡ (f == g)
at_family f g = grind (arith, common_steps)

at_cell : (c d : Cell) → is_at (cell_cmp c) d ≡ is_same_cell c d
at_cell c d = grind (arith, common_steps)

pub first_family : (f : ℕ) (fs : List ℕ) → in_families (f ∷ fs) ≡ (λ c. (c.family == f) || in_families fs c)
first_family f fs = λ i c. at_family c.family f i || in_families fs c

pub first_cell : (d : Cell) (cs : List Cell) → in_cells (d ∷ cs) ≡ (λ c. is_same_cell c d || in_cells cs c)
first_cell d cs = λ i c. at_cell c d i || in_cells cs c

-- a family but the cells of a test, before other families but these
distributed : (a b q : Bool) → ((a || b) && q) ≡ ((a && q) || (b && q))
distributed true true true = refl
distributed true true false = refl
distributed true false true = refl
distributed true false false = refl
distributed false b q = refl

pub first_family_but : (q : Cell → Bool) (f : ℕ) (fs : List ℕ)
    → ◌≡◌ {A = Cell → Bool} (λ c. in_families (f ∷ fs) c && q c) (λ c. ((c.family == f) && q c) || (in_families fs c && q c))
first_family_but q f fs = λ i c. ((λ j. first_family f fs j c && q c) ∙ distributed (c.family == f) (in_families fs c) (q c)) i

-- ---- one test after another
only_then : (a b : Bool) (o : Option Worth) → cond (not b) (cond (not a) o None) None ≡ cond (not (a || b)) o None
only_then true true o = refl
only_then true false o = refl
only_then false b o = refl

pub left_then : (p q : Cell → Bool) (s : Contents) → only (λ c. not (q c)) (only (λ c. not (p c)) s) ≡ only (λ c. not (p c || q c)) s
left_then p q s = λ i c. only_then (p c) (q c) (s c) i

abbrev over : Option Worth → Option Worth → Option Worth
over o u = cond (is_some u) u o

moved_one : (a b : Bool) (o u : Option Worth) → over (over o (cond a u None)) (cond b (cond (not a) u None) None) ≡ over o (cond (a || b) u None)
moved_one true true o u = refl
moved_one true false o u = refl
moved_one false b o u = refl

moved_then : (p q : Cell → Bool) (s t : Contents) → overlay (overlay t (only p s)) (only q (only (λ c. not (p c)) s)) ≡ overlay t (only (λ c. p c || q c) s)
moved_then p q s t = λ i c. moved_one (p c) (q c) (t c) (s c) i

-- what is left to move once the cells of the first test have moved
pub moves_rest : (p q : Cell → Bool) (s s' e t t' u : Contents) → Moves (λ c. p c || q c) s e t u → Moves p s s' t t' → Moves q s' e t' u
moves_rest p q s s' e t t' u whole first = (
  whole.0 ∙ sym (left_then p q s) ∙ ap (only (λ c. not (q c))) (sym first.0),
  whole.1 ∙ sym (moved_then p q s t) ∙ (λ i. overlay (sym first.1 i) (only q (sym first.0 i))),
)

copied_one : (a b : Bool) (o u : Option Worth) → over (over o (cond a u None)) (cond b u None) ≡ over o (cond (a || b) u None)
copied_one true true o None = refl
copied_one true true o (Some w) = refl
copied_one true false o u = refl
copied_one false b o u = refl

pub copied_then : (p q : Cell → Bool) (s t : Contents) → overlay (overlay t (only p s)) (only q s) ≡ overlay t (only (λ c. p c || q c) s)
copied_then p q s t = λ i c. copied_one (p c) (q c) (t c) (s c) i

-- ---- one cell
one_left : (b : Bool) (o : Option Worth) → cond b None o ≡ cond (not b) o None
one_left true o = refl
one_left false o = refl

pub left_one : (s : Contents) (k : Cell) → with_worth s k None ≡ only (λ c. not (is_same_cell c k)) s
left_one s k = λ i c. one_left (is_same_cell c k) (s c) i

pub left_family : (s : Contents) (f : ℕ) → without_family s f ≡ only (λ c. not (c.family == f)) s
left_family s f = λ i c. one_left (c.family == f) (s c) i

pub moved_some : (s t : Contents) (k : Cell) (w : Worth) → s k ≡ Some w → with_worth t k (Some w) ≡ overlay t (only (λ c. is_same_cell c k) s)
moved_some s t k w e = λ i c. at c i
  where
    at : (c : Cell) → with_worth t k (Some w) c ≡ overlay t (only (λ d. is_same_cell d k) s) c
    at c =
        elim (is_same_cell c k) as (λ b. is_same_cell c k ≡ b → cond b (Some w) (t c) ≡ over (t c) (cond b (s c) None)) [
          | true ↦ λ same. ap (over (t c)) (sym (ap s (made_alike cell c.family c.key k.family k.key same) ∙ e))
          | false ↦ λ other. refl
        ] refl

pub moved_none : (s t : Contents) (k : Cell) → s k ≡ None → t ≡ overlay t (only (λ c. is_same_cell c k) s)
moved_none s t k e = λ i c. at c i
  where
    at : (c : Cell) → t c ≡ overlay t (only (λ d. is_same_cell d k) s) c
    at c =
        elim (is_same_cell c k) as (λ b. is_same_cell c k ≡ b → t c ≡ over (t c) (cond b (s c) None)) [
          | true ↦ λ same. ap (over (t c)) (sym (ap s (made_alike cell c.family c.key k.family k.key same) ∙ e))
          | false ↦ λ other. refl
        ] refl

-- ---- a family, one cell after another
-- where a state has none of the cells of a test, nothing is left to move
pub moves_none : (p : Cell → Bool) (s e t u : Contents) → ((c : Cell) → p c ≡ true → s c ≡ None) → Moves p s e t u → (e ≡ s) × (u ≡ t)
moves_none p s e t u none whole = (
  whole.0 ∙ (λ i c. out (p c) refl c i),
  whole.1 ∙ (λ i c. moved c i),
)
  where
    out : (b : Bool) → b ≡ b → (c : Cell) → only (λ d. not (p d)) s c ≡ s c
    out b same c =
        elim (p c) as (λ a. p c ≡ a → cond (not a) (s c) None ≡ s c) [
          | true ↦ λ here. sym (none c here)
          | false ↦ λ here. refl
        ] refl

    moved : (c : Cell) → overlay t (only p s) c ≡ t c
    moved c =
        elim (p c) as (λ a. p c ≡ a → over (t c) (cond a (s c) None) ≡ t c) [
          | true ↦ λ here. ap (over (t c)) (none c here)
          | false ↦ λ here. refl
        ] refl

-- ---- a family by its keys
abbrev pub has_key : List ℕ → ℕ → Bool
has_key ks k = list_any (λ j. k == j) ks

kept_key : (p : ℕ → Bool) (k : ℕ) (ks : List ℕ) → p k ≡ true → has_key (filter p ks) k ≡ has_key ks k
kept_key p k [] e = refl
kept_key p k (j ∷ ks) e =
    elim (p j) as (λ b. p j ≡ b → has_key (cond b (j ∷ filter p ks) (filter p ks)) k ≡ ((k == j) || has_key ks k)) [
      | true ↦ λ here. ap (λ b. (k == j) || b) (kept_key p k ks e)
      | false ↦ λ here. kept_key p k ks e ∙ ap (λ b. b || has_key ks k) (sym (apart here))
    ] refl
  where
    apart : p j ≡ false → (k == j) ≡ false
    apart here =
        elim (k == j) as (λ b. (k == j) ≡ b → b ≡ false) [
          | true ↦ λ same. absurd (not_both (p j) (ap p (sym (true_eq k j same)) ∙ e) here)
          | false ↦ λ other. refl
        ] refl

has_held_key : (s : Contents) (f k : ℕ) → is_some (s (cell f k)) ≡ true → k < key_count → has_key (held_keys s f) k ≡ true
unfolding all_keys
has_held_key s f k there lt =
    kept_key (λ j. is_some (s (cell f j))) k (range_with_len 0 key_count) there
    ∙ any_in_range (λ j. k == j) 0 key_count k (omega arith) (omega arith) (same_number k)

some_there : (o : Option Worth) (w : Worth) → o ≡ Some w → is_some o ≡ true
some_there o w e = ap is_some e

-- the cells of a family with held keys are all of it that hold something
by_keys : (s : Contents) (f : ℕ) → HasKeysInRange s → only (λ c. (c.family == f) && has_key (held_keys s f) c.key) s ≡ only (λ c. c.family == f) s
by_keys s f bounded = λ i c. at c (s c) refl i
  where
    at : (c : Cell) (o : Option Worth) → s c ≡ o → only (λ d. (d.family == f) && has_key (held_keys s f) d.key) s c ≡ only (λ d. d.family == f) s c
    at c None e =
        ap (λ u. cond ((c.family == f) && has_key (held_keys s f) c.key) u None) e
        ∙ none ((c.family == f) && has_key (held_keys s f) c.key) (c.family == f)
        ∙ ap (λ u. cond (c.family == f) u None) (sym e)
      where
        none : (a b : Bool) → cond {A = Option Worth} a None None ≡ cond b None None
        none true true = refl
        none true false = refl
        none false true = refl
        none false false = refl
    at c (Some w) e =
        elim (c.family == f) as (λ b. (c.family == f) ≡ b → cond (b && has_key (held_keys s f) c.key) (s c) None ≡ cond b (s c) None) [
          | true ↦ λ same.
              let is : c.family ≡ f = true_eq c.family f same in
              ap (λ b. cond b (s c) None) (has_held_key s f c.key (some_there (s (cell f c.key)) w (ap (λ g. s (cell g c.key)) (sym is) ∙ e)) (bounded c w e))
          | false ↦ λ other. refl
        ] refl

-- one test within another
and_within : (a b : Bool) (o : Option Worth) → cond (a && b) o None ≡ cond b (cond a o None) None
and_within true true o = refl
and_within true false o = refl
and_within false true o = refl
and_within false false o = refl

only_and : (p q : Cell → Bool) (s : Contents) → only (λ c. p c && q c) s ≡ only q (only p s)
only_and p q s = λ i c. and_within (p c) (q c) (s c) i

-- the same for the cells of a family that pass a further test
pub by_keys_but : (q : Cell → Bool) (s : Contents) (f : ℕ) → HasKeysInRange s
    → only (λ c. (c.family == f) && has_key (held_keys s f) c.key && q c) s ≡ only (λ c. (c.family == f) && q c) s
by_keys_but q s f bounded =
    only_and (λ c. (c.family == f) && has_key (held_keys s f) c.key) q s
    ∙ ap (only q) (by_keys s f bounded)
    ∙ sym (only_and (λ c. c.family == f) q s)

-- ---- a family that is cleared, one cell after another
pub cleared_more : (p : Cell → Bool) (s s' : Contents) (k : Cell) → p k ≡ true → s' ≡ with_worth s k None → only (λ c. not (p c)) s' ≡ only (λ c. not (p c)) s
cleared_more p s s' k in_p cleared = ap (only (λ c. not (p c))) cleared ∙ (λ i c. at c i)
  where
    at : (c : Cell) → only (λ d. not (p d)) (with_worth s k None) c ≡ only (λ d. not (p d)) s c
    at c =
        elim (is_same_cell c k) as (λ b. is_same_cell c k ≡ b → cond (not (p c)) (cond b None (s c)) None ≡ cond (not (p c)) (s c) None) [
          | true ↦ λ same. let here : p c ≡ true = ap p (made_alike cell c.family c.key k.family k.key same) ∙ in_p in
              ap (λ b. cond {A = Option Worth} (not b) None None) here ∙ ap (λ b. cond (not b) (s c) None) (sym here)
          | false ↦ λ other. refl
        ] refl

pub cleared_none : (p : Cell → Bool) (s : Contents) → ((c : Cell) → p c ≡ true → s c ≡ None) → s ≡ only (λ c. not (p c)) s
cleared_none p s none = λ i c. at c i
  where
    at : (c : Cell) → s c ≡ only (λ d. not (p d)) s c
    at c =
        elim (p c) as (λ a. p c ≡ a → s c ≡ cond (not a) (s c) None) [
          | true ↦ λ here. none c here
          | false ↦ λ here. refl
        ] refl

-- ---- a family that is cleared but for some cells
-- what is behind more cells is the same where only these were left out before
pub left_more : (p here : Cell → Bool) (s : Contents) → ((c : Cell) → here c ≡ true → p c ≡ true)
    → only (λ c. not (p c)) (only (λ c. not (here c)) s) ≡ only (λ c. not (p c)) s
left_more p here s within_p = λ i c. at c i
  where
    at : (c : Cell) → only (λ d. not (p d)) (only (λ d. not (here d)) s) c ≡ only (λ d. not (p d)) s c
    at c =
        elim (here c) as (λ b. here c ≡ b → cond (not (p c)) (cond (not b) (s c) None) None ≡ cond (not (p c)) (s c) None) [
          | true ↦ λ e. ap (λ b. cond {A = Option Worth} (not b) None None) (within_p c e) ∙ ap (λ b. cond (not b) (s c) None) (sym (within_p c e))
          | false ↦ λ other. refl
        ] refl

same_and_more : (same q : Bool) (o : Option Worth) → cond q (cond (not (same && q)) o None) None ≡ cond same None (cond q o None)
same_and_more true true o = refl
same_and_more true false o = refl
same_and_more false true o = refl
same_and_more false false o = refl

-- a cell of the test is cleared, and one that is not of it is none of those that count
pub cleared_one : (q : Cell → Bool) (s : Contents) (k : Cell) → only q (only (λ c. not (is_same_cell c k && q c)) s) ≡ with_worth (only q s) k None
cleared_one q s k = λ i c. same_and_more (is_same_cell c k) (q c) (s c) i

-- what a cell holds within a test
pub none_within : (q : Cell → Bool) (s : Contents) (c : Cell) → s c ≡ None → only q s c ≡ None
none_within q s c e = ap (λ o. cond (q c) o None) e ∙ both_none (q c)
  where
    both_none : (b : Bool) → cond {A = Option Worth} b None None ≡ None
    both_none true = refl
    both_none false = refl

pub shown_within : (q : Cell → Bool) (s : Contents) (c : Cell) → q c ≡ true → only q s c ≡ None → s c ≡ None
shown_within q s c here none = sym (ap (λ b. cond b (s c) None) here) ∙ none

-- ---- a family that is copied, one cell after another
-- of a family the cells that pass a test, with one key before others
grouped : (f a b q : Bool) → ((f && a && q) || (f && b && q)) ≡ (f && (a || b) && q)
grouped true true b true = refl
grouped true true true false = refl
grouped true true false false = refl
grouped true false b q = refl
grouped false a b q = refl

pub copied_key : (q : Cell → Bool) (s t t' : Contents) (f k : ℕ) (ks : List ℕ) → t' ≡ overlay t (only (λ c. is_same_cell c (cell f k) && q c) s)
    → overlay t' (only (λ c. (c.family == f) && has_key ks c.key && q c) s) ≡ overlay t (only (λ c. (c.family == f) && has_key (k ∷ ks) c.key && q c) s)
copied_key q s t t' f k ks copied =
    ap (λ u. overlay u (only (λ c. (c.family == f) && has_key ks c.key && q c) s)) copied
    ∙ copied_then (λ c. is_same_cell c (cell f k) && q c) (λ c. (c.family == f) && has_key ks c.key && q c) s t
    ∙ (λ i. overlay t (only (λ c. grouped (c.family == f) (c.key == k) (has_key ks c.key) (q c) i) s))

pub copied_none : (q : Cell → Bool) (s t : Contents) (f : ℕ) → overlay t (only (λ c. (c.family == f) && has_key [] c.key && q c) s) ≡ t
copied_none q s t f = λ i c. at (c.family == f) (q c) (s c) (t c) i
  where
    at : (b a : Bool) (u o : Option Worth) → over o (cond (b && false && a) u None) ≡ o
    at true a u o = refl
    at false a u o = refl

-- ---- one step of a walk over a set, where `rest` is what is left before it, and `then` what is left behind it
pub clear_step : (here then rest : Cell → Bool) (s s' e : Contents) → rest ≡ (λ c. here c || then c) → only (λ c. not (rest c)) s ≡ e
    → s' ≡ only (λ c. not (here c)) s → only (λ c. not (then c)) s' ≡ e
clear_step here then rest s s' e split whole first =
    ap (only (λ c. not (then c))) first ∙ left_then here then s ∙ (λ i. only (λ c. not (sym split i c)) s) ∙ whole

pub move_step : (here then rest : Cell → Bool) (s s' e t t' u : Contents) → rest ≡ (λ c. here c || then c) → Moves rest s e t u → Moves here s s' t t'
    → Moves then s' e t' u
move_step here then rest s s' e t t' u split whole first =
    moves_rest here then s s' e t t' u (subst (λ p. Moves p s e t u) split whole) first

pub copy_step : (here then rest : Cell → Bool) (s t t' u : Contents) → rest ≡ (λ c. here c || then c) → overlay t (only rest s) ≡ u
    → t' ≡ overlay t (only here s) → overlay t' (only then s) ≡ u
copy_step here then rest s t t' u split whole first =
    ap (λ o. overlay o (only then s)) first ∙ copied_then here then s t ∙ (λ i. overlay t (only (sym split i) s)) ∙ whole
