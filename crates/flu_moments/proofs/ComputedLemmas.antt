-- The ticks among rows, computed from the first and the last row.
use Rattle.std.proofs.Common.{◌≡◌, ◌↔◌, ℕ, suc, ◌+◌, ◌-◌, ◌/◌, ◌<◌, ◌≤◌, Bool, true, false, List, [], ◌∷◌, inl, inr, refl, ap, subst, arith}
use Rattle.std.specs.Prelude.{Contains, All, min, max, nat_lt, if◌then◌else◌}
use Rattle.std.proofs.lemmas.Bool.{cases_lt}
use Rattle.std.proofs.lemmas.Bool.Decides.{nat_tests}
use Rattle.std.proofs.lemmas.List.Elements.{All-nil, All-cons, All-weaker}
use Rattle.flu_lemmas.proofs.Containing.{contains_here, contains_later}
use Rattle.flu_moments.specs.Clocks.{tick_moment, IsNextTick, IsTicks, IsSpan, steps, first_time, next_tick, first_of, last_of, ticks_among}
use Rattle.flu_moments.specs.Moments.{time_of}
use Rattle.flu_moments.specs.TickLaws.{TicksAreComputed}
use Rattle.flu_moments.proofs.FollowLemmas.{no_ticks}
use Rattle.flu_moments.proofs.NextLemmas.{from_its_time, from_next_time, next_tick_is}
use Rattle.flu_moments.proofs.TickLemmas.{steps_are_ticks, steps_between, count_is}

-- ---- the first and the last
first_there : (m : ℕ) (ms : List ℕ) → Contains (m ∷ ms) (first_of m ms)
first_there m [] = contains_here m []
first_there m (x ∷ xs) =
    elim (cases_lt (first_of x xs) m) [
      | inl less ↦ (let e : first_of x xs ≡ min m (first_of x xs) = omega arith in
          subst (Contains (m ∷ x ∷ xs)) e (contains_later m (first_of x xs) (x ∷ xs) (first_there x xs)))
      | inr le ↦ (let e : m ≡ min m (first_of x xs) = omega arith in subst (Contains (m ∷ x ∷ xs)) e (contains_here m (x ∷ xs)))
    ]

first_below : (m : ℕ) (ms : List ℕ) → All (λ x. first_of m ms ≤ x) (m ∷ ms)
first_below m [] = All-cons (λ x. m ≤ x) m [] (omega arith) (All-nil (λ x. m ≤ x))
first_below m (x ∷ xs) =
    All-cons (λ y. min m (first_of x xs) ≤ y) m (x ∷ xs) (omega arith)
    (All-weaker (λ y. first_of x xs ≤ y) (λ y. min m (first_of x xs) ≤ y) (λ y le. omega arith) (x ∷ xs) (first_below x xs))

last_there : (m : ℕ) (ms : List ℕ) → Contains (m ∷ ms) (last_of m ms)
last_there m [] = contains_here m []
last_there m (x ∷ xs) =
    elim (cases_lt m (last_of x xs)) [
      | inl less ↦ (let e : last_of x xs ≡ max m (last_of x xs) = omega arith in
          subst (Contains (m ∷ x ∷ xs)) e (contains_later m (last_of x xs) (x ∷ xs) (last_there x xs)))
      | inr le ↦ (let e : m ≡ max m (last_of x xs) = omega arith in subst (Contains (m ∷ x ∷ xs)) e (contains_here m (x ∷ xs)))
    ]

last_above : (m : ℕ) (ms : List ℕ) → All (λ x. x ≤ last_of m ms) (m ∷ ms)
last_above m [] = All-cons (λ x. x ≤ m) m [] (omega arith) (All-nil (λ x. x ≤ m))
last_above m (x ∷ xs) =
    All-cons (λ y. y ≤ max m (last_of x xs)) m (x ∷ xs) (omega arith)
    (All-weaker (λ y. y ≤ last_of x xs) (λ y. y ≤ max m (last_of x xs)) (λ y le. omega arith) (x ∷ xs) (last_above x xs))

span_of : (m : ℕ) (ms : List ℕ) → IsSpan (first_of m ms) (last_of m ms) (m ∷ ms)
span_of m ms =
    let low = first_below m ms in
    let high = last_above m ms in
    record { has_first = first_there m ms; has_last = last_there m ms; between = λ k d lt. (low k d lt, high k d lt) }

-- ---- the ticks
module _ (sources ties every clock : ℕ) (any : 0 < ties) (at : clock < sources) (some : 0 < every) where
  first_time_is : (m time : ℕ) → (m < tick_moment sources ties clock time) ↔ (first_time sources ties clock m ≤ time)
  first_time_is m = by_test (nat_lt m (tick_moment sources ties clock (time_of sources ties m))) refl
    where
      by_test : (b : Bool) → nat_lt m (tick_moment sources ties clock (time_of sources ties m)) ≡ b → (time : ℕ)
          → (m < tick_moment sources ties clock time) ↔ ((if b then time_of sources ties m else time_of sources ties m + 1) ≤ time)
      by_test true e = from_its_time sources ties clock m any at (grind (arith, nat_tests))
      by_test false e = from_next_time sources ties clock m any at (grind (arith, nat_tests))

  next_is : (m : ℕ) → IsNextTick sources ties every clock m (next_tick sources ties every clock m)
  next_is m = next_tick_is sources ties every clock m (first_time sources ties clock m) some (first_time_is m)

  computed : (rows : List ℕ) → IsTicks sources ties every clock rows (ticks_among sources ties every clock rows)
  computed [] = no_ticks sources ties every clock
  computed (m ∷ ms) =
      let first = first_of m ms in
      let last = last_of m ms in
      let from = next_tick sources ties every clock first in
      let to = next_tick sources ties every clock last in
      let span = span_of m ms in
      let count = steps_between sources ties every clock first last (m ∷ ms) some span from to (next_is first) (next_is last) in
      let number : suc count.0 ≡ (to - from) / every + 1 = (let e = count_is from to every count.0 some count.1 in omega arith) in
      subst (IsTicks sources ties every clock (m ∷ ms)) (ap (steps from every) number)
      (steps_are_ticks sources ties every clock first last (m ∷ ms) some span from to (next_is first) (next_is last) count.0 count.1)

pub ticks_are_computed : TicksAreComputed
ticks_are_computed sources ties every clock rows any at some = computed sources ties every clock any at some rows
