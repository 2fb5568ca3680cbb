-- How the next tick after a moment is found.
use Rattle.std.proofs.Common.{◌≡◌, ◌⊎◌, ◌↔◌, ℕ, ◌+◌, ◌-◌, ◌*◌, ◌/◌, ◌%◌, ◌^◌, ◌<◌, ◌≤◌, Option, None, Some, inl, inr, ap, ◌∙◌, arith}
use Rattle.std.specs.Prelude.{IfNone}
use Rattle.std.specs.Int.{next_multiple_of}
use Rattle.std.proofs.Math.Nat.{div-mul-le_self, mod_self, mod-eq_of_lt}
use Rattle.std.proofs.lemmas.Bool.{cases_lt}
use Rattle.std.proofs.lemmas.Nat.{div-add-mod', mod_below}
use Rattle.flu_moments.specs.Clocks.{tick_moment, IsNextTick}
use Rattle.flu_moments.specs.Moments.{time_of}
use Rattle.flu_moments.proofs.MomentLemmas.{product_le, some_product, moment_in_time}
use Rattle.flu_moments.proofs.StepLemmas.{multiple_of, multiple_is}
use Rattle.flu_moments.proofs.TickLemmas.{tick_moment-rises, tick_from}

-- ---- rounding up to a multiple
rounded : (x y : ℕ) → 0 < y → ((x % y ≡ 0) × (next_multiple_of x y ≡ x)) ⊎ ((0 < x % y) × (next_multiple_of x y ≡ (x / y + 1) * y))
rounded x y some =
    elim (cases_lt 0 (x % y)) [
      | inl rest ↦ (let parts = div-add-mod' x y in
          let below = mod_below x y some in
          let over : (y - x % y) % y ≡ y - x % y = mod-eq_of_lt (omega arith) in
          inr (rest, omega arith))
      | inr none ↦ (let whole : x % y ≡ 0 = omega arith in
          let over : (y - x % y) % y ≡ 0 = ap (λ r. (y - r) % y) whole ∙ (let e : y - 0 ≡ y = omega arith in ap (λ r. r % y) e) ∙ mod_self y in
          inl (whole, omega arith))
    ]

pub rounded_multiple : (x y : ℕ) → 0 < y → next_multiple_of x y % y ≡ 0
rounded_multiple x y some =
    elim (rounded x y some) [
      | inl whole ↦ ap (λ r. r % y) whole.1 ∙ whole.0
      | inr more ↦ ap (λ r. r % y) more.1 ∙ multiple_of (x / y + 1) y some
    ]

pub rounded_up : (x y : ℕ) → x ≤ next_multiple_of x y
rounded_up x y = omega arith

pub rounded_least : (x y other : ℕ) → 0 < y → other % y ≡ 0 → x ≤ other → next_multiple_of x y ≤ other
rounded_least x y other some multiple le =
    elim (rounded x y some) [
      | inl whole ↦ (let is = whole.1 in omega arith)
      | inr more ↦ (let is = more.1 in
          let rest = more.0 in
          let parts = div-add-mod' x y in
          let whole = multiple_is other y multiple in
          elim (cases_lt (x / y) (other / y)) [
            | inl less ↦ (let steps = product_le (x / y + 1) (other / y) y (omega arith) in omega arith)
            | inr le' ↦ (let steps = product_le (other / y) (x / y) y le' in absurd (omega arith))
          ])
    ]

-- ---- the first time at which a tick is above a moment
module _ (sources ties clock m : ℕ) (any : 0 < ties) (at : clock < sources) where
  some_moments : 0 < sources * ties
  some_moments = some_product sources ties (omega arith) any

  below_its_time : (time : ℕ) → time < time_of sources ties m → tick_moment sources ties clock time ≤ m
  below_its_time time less =
      let inside = moment_in_time sources ties time clock 0 (record { source_in_range = at; place_in_range = any }) in
      let steps = product_le (time + 1) (time_of sources ties m) (sources * ties) (omega arith) in
      let whole = div-mul-le_self m (sources * ties) in
      omega arith

  above_its_time : (time : ℕ) → time_of sources ties m < time → m < tick_moment sources ties clock time
  above_its_time time more =
      let parts = div-add-mod' m (sources * ties) in
      let rest = mod_below m (sources * ties) some_moments in
      let steps = product_le (time_of sources ties m + 1) time (sources * ties) (omega arith) in
      let places = product_le 0 clock ties (omega arith) in
      omega arith

  pub from_its_time : m < tick_moment sources ties clock (time_of sources ties m)
      → (time : ℕ) → (m < tick_moment sources ties clock time) ↔ (time_of sources ties m ≤ time)
  from_its_time above = tick_from sources ties clock m (time_of sources ties m) above below_its_time

  pub from_next_time : tick_moment sources ties clock (time_of sources ties m) ≤ m
      → (time : ℕ) → (m < tick_moment sources ties clock time) ↔ (time_of sources ties m + 1 ≤ time)
  from_next_time under =
      tick_from sources ties clock m (time_of sources ties m + 1) (above_its_time (time_of sources ties m + 1) (omega arith))
      (λ time less. (let up = tick_moment-rises sources ties clock time (time_of sources ties m) (omega arith) in omega arith))

  -- that time's tick and its moment fit the machine's numbers
  pub tick_moment_fits : sources * ties ≤ 2 ^ 63 → m < 2 ^ 63 → tick_moment sources ties clock (time_of sources ties m) < 2 ^ 64
  tick_moment_fits fits small =
      let whole = div-mul-le_self m (sources * ties) in
      let places = product_le (clock + 1) sources ties (omega arith) in
      omega arith

-- rounded up it is the next tick
pub next_tick_is : (sources ties every clock m from : ℕ) → 0 < every → ((time : ℕ) → (m < tick_moment sources ties clock time) ↔ (from ≤ time))
    → IsNextTick sources ties every clock m (next_multiple_of from every)
next_tick_is sources ties every clock m from some first = record {
  multiple = rounded_multiple from every some;
  above = (first (next_multiple_of from every)).1 (rounded_up from every);
  least = λ other multiple above. rounded_least from every other some multiple ((first other).0 above);
}

pub next_tick_exists : (sources ties every clock m : ℕ) → 0 < ties → clock < sources → 0 < every → (time : ℕ) × IsNextTick sources ties every clock m time
next_tick_exists sources ties every clock m any at some =
    elim (cases_lt m (tick_moment sources ties clock (time_of sources ties m))) [
      | inl above ↦ (
        next_multiple_of (time_of sources ties m) every,
        next_tick_is sources ties every clock m (time_of sources ties m) some (from_its_time sources ties clock m any at above),
      )
      | inr under ↦ (
        next_multiple_of (time_of sources ties m + 1) every,
        next_tick_is sources ties every clock m (time_of sources ties m + 1) some (from_next_time sources ties clock m any at under),
      )
    ]

-- what holds anyway holds of an option that is none
pub none_anyway : {T P : Type 0} (o : Option T) → P → IfNone o P
none_anyway None p = p
none_anyway (Some x) p = tt
