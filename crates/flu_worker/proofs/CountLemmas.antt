-- Lists of counts.
use Rattle.std.proofs.Common.{◌≡◌, ◌≢◌, ◌<◌, ◌≤◌, ◌+◌, ℕ, zero, suc, true, false, cond}
use Rattle.std.proofs.Common.{List, [], ◌∷◌, length, inl, inr, refl, sym, ap, ◌∙◌, arith}
use Rattle.std.specs.Prelude.{◌==◌, is_none, slice_get, slice_index, slice_set}
use Rattle.std.proofs.lemmas.Bool.{cases_eq, ne_eqb}
use Rattle.std.proofs.lemmas.Grind.{common_steps}
use Rattle.std.proofs.lemmas.List.{get_or-set_same, get_or-set_other, get_or_past}
use Rattle.flu_lemmas.proofs.Searches.{eq_true}
use Rattle.flu_model.specs.declared.events.Event.{Event}
use Rattle.flu_laws.specs.Lots.{CountsOneMore}
use Rattle.flu_fork.specs.Serving.{LotCounts}

-- two lists of so many counts are alike beyond these
pub alike_beyond : (n : ℕ) (xs ys : List ℕ) (i : ℕ) → length xs ≡ n → length ys ≡ n → n ≤ i → slice_index xs i ≡ slice_index ys i
alike_beyond n xs ys i ex ey le = get_or_past xs i 0 (omega arith) ∙ sym (get_or_past ys i 0 (omega arith))

-- ---- one more event is counted
pub set_here : (xs : List ℕ) (i v : ℕ) → i < length xs → slice_index (slice_set xs i v) i ≡ v
set_here xs i v lt = get_or-set_same xs i v _ lt

pub set_there : (xs : List ℕ) (i v j : ℕ) → j ≢ i → slice_index (slice_set xs i v) j ≡ slice_index xs j
set_there xs i v j other = get_or-set_other xs i j v _ other

pub set_one : (xs : List ℕ) (i n : ℕ) → i < length xs → n ≡ slice_index xs i + 1 → CountsOneMore i xs (slice_set xs i n)
set_one xs i n lt more j =
    elim (cases_eq j i) [
      | inl same ↦
          ap (slice_index (slice_set xs i n)) same ∙ set_here xs i n lt ∙ more ∙ ap (λ (u : ℕ). slice_index xs u + 1) (sym same)
          ∙ sym (ap (λ b. cond b (slice_index xs j + 1) (slice_index xs j)) (eq_true j i same))
      | inr other ↦ set_there xs i n j other ∙ sym (ap (λ b. cond b (slice_index xs j + 1) (slice_index xs j)) (ne_eqb j i other))
    ]

module _ (i : ℕ) (old new : List ℕ) (one : CountsOneMore i old new) where
  pub more_other : (j : ℕ) → j ≢ i → slice_index new j ≡ slice_index old j
  more_other j other = one j ∙ ap (λ b. cond b (slice_index old j + 1) (slice_index old j)) (ne_eqb j i other)

  pub more_here : slice_index new i ≡ slice_index old i + 1
  more_here = one i ∙ ap (λ b. cond b (slice_index old i + 1) (slice_index old i)) (eq_true i i refl)

  pub more_least : (j : ℕ) → slice_index old j ≤ slice_index new j
  more_least j = elim (cases_eq j i) [
    | inl same ↦ (let h = more_here in let a = ap (slice_index old) same in let b = ap (slice_index new) same in omega arith)
    | inr other ↦ (let h = more_other j other in omega arith)
  ]

pub one_more_each : (i j a b : ℕ) → a ≤ b → cond (j == i) (a + 1) a ≤ cond (j == i) (b + 1) b
one_more_each i j a b le = elim (j == i) as (λ t. cond t (a + 1) a ≤ cond t (b + 1) b) [ true ↦ omega arith | false ↦ le ]

-- ---- the counts of a lot
pub upto_of : (a b : LotCounts) → a ≡ b → a.upto ≡ b.upto
upto_of a b e = ap (λ (m : LotCounts). m.upto) e

-- ---- events
pub few_events : (xs : List Event) (n : ℕ) → n ≤ length xs → is_none (slice_get xs n) ≡ (n == length xs)
few_events [] n le = let e : n ≡ 0 = omega arith in sym (eq_true n 0 e)
few_events (x ∷ xs) zero le = sym (ne_eqb 0 (suc (length xs)) (λ e. omega arith))
few_events (x ∷ xs) (suc n) le = few_events xs n (omega arith) ∙ same_suc n (length xs)
  where
    same_suc : (a b : ℕ) → (a == b) ≡ (suc a == suc b)
    same_suc a b = grind (arith, common_steps)
