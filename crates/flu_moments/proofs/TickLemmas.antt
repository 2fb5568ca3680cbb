-- The next tick after a moment, and the ticks among rows.
use Rattle.std.proofs.Common.{◌≡◌, ◌↔◌, ℕ, suc, ◌+◌, ◌-◌, ◌*◌, ◌/◌, ◌%◌, ◌<◌, ◌≤◌, List, inl, inr, sym, ap, subst, ◌∙◌, arith}
use Rattle.std.specs.Prelude.{Contains, Any}
use Rattle.std.proofs.lemmas.Bool.{cases_lt}
use Rattle.std.proofs.lemmas.List.Elements.{All-contains}
use Rattle.std.proofs.lemmas.Nat.{div-mul-add}
use Rattle.flu_moments.specs.Clocks.{tick_moment, IsNextTick, IsTick, IsTicks, IsSpan, steps}
use Rattle.flu_moments.proofs.MomentLemmas.{product_le}
use Rattle.flu_moments.proofs.StepLemmas.{multiple_more, steps_apart, step_is, is_step, steps-rising, only_rising}

-- ---- a later tick is at a later moment
pub tick_moment-rises : (sources ties clock a b : ℕ) → a ≤ b → tick_moment sources ties clock a ≤ tick_moment sources ties clock b
tick_moment-rises sources ties clock a b le =
    let lines = product_le a b sources le in
    let steps = product_le (a * sources + clock) (b * sources + clock) ties (omega arith) in
    omega arith

-- ---- next ticks
pub only_next_tick : (sources ties every clock m a b : ℕ) → IsNextTick sources ties every clock m a → IsNextTick sources ties every clock m b → a ≡ b
only_next_tick sources ties every clock m a b next next' =
    let le = next.least b next'.multiple next'.above in
    let le' = next'.least a next.multiple next.above in
    omega arith

pub next_tick-rises : (sources ties every clock m m' a b : ℕ) → m ≤ m' → IsNextTick sources ties every clock m a → IsNextTick sources ties every clock m' b
    → a ≤ b
next_tick-rises sources ties every clock m m' a b le next next' = let above = next'.above in next.least b next'.multiple (omega arith)

-- ---- the ticks between two rows
pub any_from_contains : (P : ℕ → Type 0) (m : ℕ) (rows : List ℕ) → Contains rows m → P m → Any P rows
any_from_contains P m rows there holds = (there.0, m, there.1, there.2, holds)

pub any_within : (P : ℕ → Type 0) (rows : List ℕ) → Any P rows → (m : ℕ) × Contains rows m × P m
any_within P rows some = (some.1, (some.0, some.2, some.3), some.4)

module _ (sources ties every clock first last : ℕ) (rows : List ℕ) (some : 0 < every) (span : IsSpan first last rows) (from to : ℕ)
    (begin : IsNextTick sources ties every clock first from) (end : IsNextTick sources ties every clock last to) where
  pub tick_from_range : (time : ℕ) → time % every ≡ 0 → from ≤ time → time ≤ to → IsTick sources ties every clock rows time
  tick_from_range time multiple low high = record {
    multiple = multiple;
    after_a_row = (let above = begin.above in let later = tick_moment-rises sources ties clock from time low in
        any_from_contains (λ m. m < tick_moment sources ties clock time) first rows span.has_first (omega arith));
    none_after_all = λ earlier multiple' less.
        any_from_contains (λ m. tick_moment sources ties clock earlier ≤ m) last rows span.has_last
        (elim (cases_lt last (tick_moment sources ties clock earlier)) [
          | inl above ↦ (let least = end.least earlier multiple' above in absurd (omega arith))
          | inr le ↦ le
        ]);
  }

  pub range_from_tick : (time : ℕ) → IsTick sources ties every clock rows time → (from ≤ time) × (time ≤ to)
  range_from_tick time tick = (
    (let row = any_within (λ m. m < tick_moment sources ties clock time) rows tick.after_a_row in
        let inside = All-contains (λ m. (first ≤ m) × (m ≤ last)) rows row.0 span.between row.1 in
        let above = row.2 in
        let low = inside.0 in
        begin.least time tick.multiple (omega arith)),
    elim (cases_lt to time) [
      | inl less ↦ (let row = any_within (λ m. tick_moment sources ties clock to ≤ m) rows (tick.none_after_all to end.multiple less) in
          let inside = All-contains (λ m. (first ≤ m) × (m ≤ last)) rows row.0 span.between row.1 in
          let le = row.2 in
          let high = inside.1 in
          let above = end.above in
          absurd (omega arith))
      | inr le ↦ le
    ],
  )

  pub steps_are_ticks : (count : ℕ) → to ≡ from + count * every → IsTicks sources ties every clock rows (steps from every (suc count))
  steps_are_ticks count is = record {
    rising = steps-rising from every (suc count) some;
    each = λ time. (to_tick time, from_tick time);
  }
    where
      to_tick : (time : ℕ) → Contains (steps from every (suc count)) time → IsTick sources ties every clock rows time
      to_tick time there =
          let at = step_is from every (suc count) time there in
          let number = at.1 in
          let place = at.2 in
          let inside = product_le at.0 count every (omega arith) in
          tick_from_range time (ap (λ x. x % every) place ∙ multiple_more from every at.0 some begin.multiple) (omega arith) (omega arith)

      from_tick : (time : ℕ) → IsTick sources ties every clock rows time → Contains (steps from every (suc count)) time
      from_tick time tick =
          let range = range_from_tick time tick in
          let at = steps_apart from time every some begin.multiple tick.multiple range.0 in
          let place = at.1 in
          let high = range.1 in
          let number : at.0 < suc count = elim (cases_lt count at.0) [
            | inl more ↦ (let further = product_le (count + 1) at.0 every (omega arith) in absurd (omega arith))
            | inr le ↦ omega arith
          ] in
          subst (Contains (steps from every (suc count))) (sym place) (is_step from every (suc count) at.0 number)

  -- how many steps there are from the first tick to the last
  pub steps_between : (count : ℕ) × (to ≡ from + count * every)
  steps_between = steps_apart from to every some begin.multiple end.multiple (next_tick-rises sources ties every clock first last from to ordered begin end)
    where
      ordered : first ≤ last
      ordered = (All-contains (λ m. (first ≤ m) × (m ≤ last)) rows first span.between span.has_first).1

-- ---- the list of the ticks is determined
pub only_ticks : (sources ties every clock : ℕ) (rows xs ys : List ℕ) → IsTicks sources ties every clock rows xs → IsTicks sources ties every clock rows ys
    → xs ≡ ys
only_ticks sources ties every clock rows xs ys a b =
    only_rising xs ys a.rising b.rising (λ z. (λ there. (b.each z).1 ((a.each z).0 there), λ there. (a.each z).1 ((b.each z).0 there)))

-- ---- how the functions find the next tick
-- the first time at which a tick is above a moment
pub tick_from : (sources ties clock m from : ℕ) → m < tick_moment sources ties clock from → ((time : ℕ) → time < from → tick_moment sources ties clock time ≤ m)
    → (time : ℕ) → (m < tick_moment sources ties clock time) ↔ (from ≤ time)
tick_from sources ties clock m from above below time = (
  λ less. elim (cases_lt time from) [ inl early ↦ (let under = below time early in absurd (omega arith)) | inr le ↦ le ],
  λ le. (let later = tick_moment-rises sources ties clock from time le in omega arith),
)

-- the number of steps from one time to another
pub count_is : (from to every count : ℕ) → 0 < every → to ≡ from + count * every → (to - from) / every ≡ count
count_is from to every count some is =
    let gap : to - from ≡ count * every + 0 = omega arith in
    ap (λ x. x / every) gap ∙ div-mul-add count every 0 some
