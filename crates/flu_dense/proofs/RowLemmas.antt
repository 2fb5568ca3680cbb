-- What a row holds, as its places come to hold values or lose them.
use Rattle.std.proofs.Common.{◌≡◌, ◌<◌, ◌≤◌, ◌++◌, ℕ, Bool, true, false, cond, Option, Some, None, List, length, take, set, get_or, refl, sym, ap, ◌∙◌, arith}
use Rattle.std.specs.Prelude.{◌==◌, ◌&&◌, ◌||◌, not, slice_get, IsSome, IfSome, IfNone}
use Rattle.std.proofs.lemmas.List.{take_all}
use Rattle.std.proofs.lemmas.Bool.{eqb-false}
use Rattle.std.proofs.lemmas.Option.{slice_get_read, IfSome_then}
use Rattle.flu_lemmas.proofs.Places.{slice_get-there}
use Rattle.flu_lemmas.proofs.Tests.{true_eq}
use Rattle.flu_dense.specs.declared.mask.Mask.{Mask}
use Rattle.flu_dense.specs.Masks.{has}
use Rattle.flu_dense.specs.Rows.{held_at, HasValues}
use Rattle.flu_dense.specs.Values.{with_value}
use Rattle.flu_lemmas.proofs.Replaced.{slice_get-set_same, slice_get-set_other}
use Rattle.flu_dense.proofs.ListLemmas.{slice_get-append}

pub not_held : {V : Type 0} (m : Mask) (vs : List V) (k : ℕ) → has m k ≡ false → held_at m vs k ≡ None
not_held m vs k e = ap (λ b. cond b (slice_get vs k) None) e

pub held_here : {V : Type 0} (m : Mask) (vs : List V) (k : ℕ) (v : V) → has m k ≡ true → k < length vs → v ≡ get_or vs k v → Some v ≡ held_at m vs k
held_here m vs k v e lt is = sym (ap (λ b. cond b (slice_get vs k) None) e ∙ slice_get_read vs (length vs) k v refl lt is)

is_there : {X : Type 0} (o : Option X) (x : X) → o ≡ Some x → IsSome o
is_there None x e = cc
is_there (Some y) x e = refl

pub some_held : {V : Type 0} (m : Mask) (vs : List V) (k : ℕ) → HasValues m vs → k < 64 → has m k ≡ true → IsSome (held_at m vs k)
some_held m vs k values lt e =
    let there = slice_get-there vs k (values k lt e) in
    is_there (held_at m vs k) there.0 (ap (λ b. cond b (slice_get vs k) None) e ∙ there.1)

-- ---- the next place
pub next_found : {V : Type 0} (m : Mask) (vs : List V) (f : ℕ) (o : Option ℕ) → HasValues m vs → IfSome o (λ k. (f ≤ k) × (k < 64) × (has m k ≡ true))
    → IfSome o (λ k. (f ≤ k) × (k < 64) × IsSome (held_at m vs k))
next_found m vs f o values found = IfSome_then o found (λ k at. (at.0, at.1, some_held m vs k values at.1 at.2))

pub next_least : {V : Type 0} (m : Mask) (vs : List V) (f : ℕ) (o : Option ℕ) → IfSome o (λ k. (j : ℕ) → f ≤ j → j < k → has m j ≡ false)
    → IfSome o (λ k. (j : ℕ) → f ≤ j → j < k → held_at m vs j ≡ None)
next_least m vs f o least = IfSome_then o least (λ k before j le lt. not_held m vs j (before j le lt))

pub next_none : {V : Type 0} (m : Mask) (vs : List V) (f : ℕ) (o : Option ℕ) → IfNone o ((j : ℕ) → f ≤ j → j < 64 → has m j ≡ false)
    → IfNone o ((j : ℕ) → f ≤ j → j < 64 → held_at m vs j ≡ None)
next_none m vs f None none = λ j le lt. not_held m vs j (none j le lt)
next_none m vs f (Some k) none = tt

-- ---- a list that is made longer
by_held : {V : Type 0} (m : Mask) (vs ws : List V) (k : ℕ) → (has m k ≡ true → slice_get ws k ≡ slice_get vs k) → held_at m ws k ≡ held_at m vs k
by_held m vs ws k same =
    elim (has m k) as (λ b. has m k ≡ b → cond b (slice_get ws k) None ≡ cond b (slice_get vs k) None) [
      | true ↦ same
      | false ↦ λ e. refl
    ] refl

pub longer : {V : Type 0} (m : Mask) (vs ws : List V) (more : List V) (n k : ℕ) → HasValues m vs → length vs ≤ n → ws ≡ take n vs ++ more → k < 64
    → held_at m ws k ≡ held_at m vs k
longer m vs ws more n k values le is lt =
    by_held m vs ws k (λ e.
    ap (λ us. slice_get us k) (is ∙ ap (λ us. us ++ more) (take_all n vs le))
    ∙ slice_get-append vs more k (values k lt e))

pub not_past : {V : Type 0} (m : Mask) (vs : List V) (k : ℕ) → HasValues m vs → k < 64 → length vs ≤ k → IsSome (held_at m vs k) → ⊥
not_past m vs k values lt le some = by_test (has m k) refl some
  where
    by_test : (b : Bool) → has m k ≡ b → IsSome (cond b (slice_get vs k) None) → ⊥
    by_test true e h = omega (arith, values k lt e)
    by_test false e h = cc

-- ---- one place that changes
pub value_set : {V : Type 0} (m n : Mask) (vs : List V) (k j : ℕ) (v : V) → has n j ≡ ((j == k) || has m j) → k < length vs
    → held_at n (set vs k v) j ≡ with_value (held_at m vs) k (Some v) j
value_set m n vs k j v is lt =
    ap (λ b. cond b (slice_get (set vs k v) j) None) is
    ∙ elim (j == k) as (λ b. (j == k) ≡ b → cond (b || has m j) (slice_get (set vs k v) j) None ≡ cond b (Some v) (held_at m vs j)) [
      | true ↦ λ e. ap (slice_get (set vs k v)) (true_eq j k e) ∙ slice_get-set_same vs k v lt
      | false ↦ λ e. ap (λ o. cond (has m j) o None) (slice_get-set_other vs k j v (eqb-false j k e))
    ] refl

pub value_unset : {V : Type 0} (m n : Mask) (vs : List V) (k j : ℕ) → has n j ≡ (not (j == k) && has m j) → held_at n vs j ≡ with_value (held_at m vs) k None j
value_unset m n vs k j is =
    ap (λ b. cond b (slice_get vs j) None) is
    ∙ elim (j == k) as (λ b. cond (not b && has m j) (slice_get vs j) None ≡ cond b None (held_at m vs j)) [ true ↦ refl | false ↦ refl ]

-- a change of what is the same elsewhere
pub same_then : {V : Type 0} (m m' : ℕ → Option V) (k j : ℕ) (v : Option V) → m' j ≡ m j → with_value m' k v j ≡ with_value m k v j
same_then m m' k j v same = ap (cond (j == k) v) same
