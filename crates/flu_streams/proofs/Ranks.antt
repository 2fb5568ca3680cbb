-- The moments that a source may have, counted one after another: of no source more items are held than it may have moments at the times at which
-- its rows may still come.
use Rattle.std.proofs.Common.{◌≡◌, inl, inr, ℕ, ◌+◌, ◌-◌, ◌*◌, ◌/◌, ◌%◌, ◌<◌, ◌≤◌, Bool, true, false, cond, List, [], ◌∷◌, length, Option, Some, arith}
use Rattle.std.specs.Prelude.{nat_lt, nat_le}
use Rattle.std.specs.List.{filter, list_all}
use Rattle.std.proofs.Math.Nat.{mul-le-mul_left}
use Rattle.std.proofs.lemmas.Bool.{cases_Bool, cases_lt}
use Rattle.std.proofs.lemmas.Nat.{div-add-mod', mod_below}
use Rattle.flu_lemmas.proofs.Late.{RisesFrom}
use Rattle.flu_lemmas.proofs.Tests.{and_left, and_right, true_lt, true_le}
use Rattle.flu_model.specs.declared.events.Item.{Item}
use Rattle.flu_model.specs.declared.moments.Timing.{Timing}
use Rattle.flu_model.specs.Moments.{last_moment, IsTiming}
use Rattle.flu_streams.specs.Lists.{item_time, times_in}
use Rattle.flu_streams.specs.LoopHeld.{count_to}
use Rattle.flu_streams.specs.LoopMoments.{own_times, follows, are_in_a_row}
use Rattle.flu_streams.proofs.Between.{follows_parts}
use Rattle.flu_streams.proofs.Counting.{count_step}
use Rattle.flu_streams.proofs.Moments.{from_border}

-- ---- some of a list
pub fewer : {X : Type 0} (p : X → Bool) (xs : List X) → length (filter p xs) ≤ length xs
fewer p [] = omega arith
fewer p (x ∷ xs) =
    elim (p x) as (λ b. length (cond b (x ∷ filter p xs) (filter p xs)) ≤ length (x ∷ xs)) [
      | true ↦ omega (arith, fewer p xs)
      | false ↦ omega (arith, fewer p xs)
    ]

pub product_up : (a b w : ℕ) → a ≤ b → a * w ≤ b * w
product_up a b w le = let turned : w * a ≤ w * b = mul-le-mul_left w le in omega arith

module _ (timing : Timing) (fits : IsTiming timing) where
  scale_some : 0 < timing.scale
  scale_some = let some = fits.some in let within = fits.within in omega arith

  -- ---- the rank of a moment
  -- a moment is one that the source may have
  abbrev pub IsOwn : ℕ → Type 0
  IsOwn m = (timing.offset ≤ m % timing.scale) × (m % timing.scale < timing.offset + timing.ties)

  -- how many moments before it the source may have
  abbrev pub rank : ℕ → ℕ
  rank m = m / timing.scale * timing.ties + (m % timing.scale - timing.offset)

  abbrev pub rank_of : Item → ℕ
  rank_of item = rank (item_time item)

  -- the moments up to a time
  abbrev pub ranks_to : ℕ → ℕ
  ranks_to time = (time + 1) * timing.ties

  rank_early : (m time : ℕ) → IsOwn m → m / timing.scale ≤ time → rank m < ranks_to time
  rank_early m time own le =
      let more = product_up (m / timing.scale) time timing.ties le in
      let low = own.0 in
      let high = own.1 in
      omega (arith, more, low, high)

  rank_late : (m time : ℕ) → time < m / timing.scale → ranks_to time ≤ rank m
  rank_late m time lt = let more = product_up (time + 1) (m / timing.scale) timing.ties (omega (arith, lt)) in omega (arith, more)

  rank_up : (m n : ℕ) → IsOwn m → IsOwn n → m < n → rank m < rank n
  rank_up m n own_m own_n lt =
      let whole_m = div-add-mod' m timing.scale in
      let whole_n = div-add-mod' n timing.scale in
      let below_m = mod_below m timing.scale scale_some in
      let below_n = mod_below n timing.scale scale_some in
      let low_m = own_m.0 in
      let high_m = own_m.1 in
      let low_n = own_n.0 in
      elim (cases_lt (m / timing.scale) (n / timing.scale)) [
        | inl earlier ↦
            let more = product_up (m / timing.scale + 1) (n / timing.scale) timing.ties (omega (arith, earlier)) in
            omega (arith, more, low_m, high_m)
        | inr le ↦ elim (cases_lt (n / timing.scale) (m / timing.scale)) [
          | inl later ↦
              let more = product_up (n / timing.scale + 1) (m / timing.scale) timing.scale (omega (arith, later)) in
              absurd (omega (arith, more, whole_m, whole_n, below_n, lt))
          | inr ge ↦
              let up = product_up (m / timing.scale) (n / timing.scale) timing.scale ge in
              let down = product_up (n / timing.scale) (m / timing.scale) timing.scale le in
              let same = product_up (m / timing.scale) (n / timing.scale) timing.ties ge in
              omega (arith, up, down, same, whole_m, whole_n, low_m, low_n, lt)
        ]
      ]

  -- ---- items at moments of the source
  abbrev pub AreOwn : List Item → Type 0
  AreOwn [] = Unit {0}
  AreOwn (x ∷ xs) = IsOwn (item_time x) × AreOwn xs

  pub own_in_a_row : (before : Option ℕ) (items : List Item) → are_in_a_row timing before (times_in items) ≡ true → AreOwn items
  own_in_a_row before [] row = tt
  own_in_a_row before (x ∷ xs) row =
      let parts = follows_parts timing before (item_time x) (and_left (follows timing before (item_time x)) _ row) in
      let low = parts.0 in
      let high = parts.1 in
      let some = fits.some in
      ((low, omega (arith, high, some)), own_in_a_row (Some (item_time x)) xs (and_right (follows timing before (item_time x)) _ row))

  ranks_from : (low from : ℕ) (items : List Item) → ((m : ℕ) → IsOwn m → low ≤ m → from ≤ rank m) → RisesFrom item_time low items → AreOwn items
      → RisesFrom rank_of from items
  ranks_from low from [] least up own = tt
  ranks_from low from (x ∷ xs) least up own = (
    least (item_time x) own.0 up.0,
    ranks_from (item_time x + 1) (rank_of x + 1) xs
        (λ m own_m le. let more = rank_up (item_time x) m own.0 own_m (omega (arith, le)) in omega (arith, more)) up.1 own.1,
  )

  pub ranks_rise : (items : List Item) → RisesFrom item_time 0 items → AreOwn items → RisesFrom rank_of 0 items
  ranks_rise items up own = ranks_from 0 0 items (λ m own_m le. omega arith) up own

  -- the items have no later time
  abbrev pub AreWithin : ℕ → List Item → Type 0
  AreWithin last items = list_all (λ t. nat_le t last) (own_times timing items) ≡ true

  pub rank_within : (last : ℕ) (x : Item) (xs : List Item) → AreOwn (x ∷ xs) → AreWithin last (x ∷ xs) → rank_of x < ranks_to last
  rank_within last x xs own all = rank_early (item_time x) last own.0 (true_le (item_time x / timing.scale) last (and_left (nat_le (item_time x / timing.scale) last) _ all))

  others_within : (last : ℕ) (x : Item) (xs : List Item) → AreWithin last (x ∷ xs) → AreWithin last xs
  others_within last x xs all = and_right (nat_le (item_time x / timing.scale) last) _ all

  -- no more than there are moments from the lowest rank to the last one of the last time
  pub few_from : (low last : ℕ) (items : List Item) → RisesFrom rank_of low items → AreOwn items → AreWithin last items
      → length items ≤ ranks_to last - low
  few_from low last [] up own all = omega arith
  few_from low last (x ∷ xs) up own all =
      let lt = rank_within last x xs own all in
      let rest = few_from (rank_of x + 1) last xs up.1 own.1 (others_within last x xs all) in
      let from = up.0 in
      omega (arith, rest, lt, from)

  late_item : (u : ℕ) (x : Item) → last_moment timing u < item_time x → ranks_to u ≤ rank_of x
  late_item u x later = rank_late (item_time x) u (elim (cases_lt u (item_time x / timing.scale)) [
    | inl lt ↦ lt
    | inr le ↦ let early = from_border timing fits (item_time x) u le in absurd (omega (arith, early, later))
  ])

  -- those at most that come no later than a time, and the moments of the later times
  pub few_unsettled : (u low last : ℕ) (items : List Item) → RisesFrom rank_of low items → AreOwn items → AreWithin last items
      → length items ≤ count_to (last_moment timing u) items + (ranks_to last - ranks_to u)
  few_unsettled u low last [] up own all = omega arith
  few_unsettled u low last (x ∷ xs) up own all =
      elim (cases_lt (last_moment timing u) (item_time x)) [
        | inl later ↦
            let lt = rank_within last x xs own all in
            let from = late_item u x later in
            let rest = few_from (rank_of x + 1) last xs up.1 own.1 (others_within last x xs all) in
            omega (arith, rest, lt, from)
        | inr early ↦
            let e = count_step (last_moment timing u) x xs early in
            let rest = few_unsettled u (rank_of x + 1) last xs up.1 own.1 (others_within last x xs all) in
            omega (arith, e, rest)
      ]

  pub few_later : (g low last : ℕ) (items : List Item) → RisesFrom rank_of low items → AreOwn items → AreWithin last items
      → length (filter (λ (item : Item). nat_lt (last_moment timing g) (item_time item)) items) ≤ ranks_to last - ranks_to g
  few_later g low last [] up own all = omega arith
  few_later g low last (x ∷ xs) up own all =
      elim (cases_Bool (nat_lt (last_moment timing g) (item_time x))) [
        | inl later ↦
            let lt = rank_within last x xs own all in
            let from = late_item g x (true_lt (last_moment timing g) (item_time x) later) in
            let rest = few_from (rank_of x + 1) last xs up.1 own.1 (others_within last x xs all) in
            let some = fewer (λ (item : Item). nat_lt (last_moment timing g) (item_time item)) xs in
            rw later (omega (arith, rest, some, lt, from))
        | inr early ↦ rw early (few_later g (rank_of x + 1) last xs up.1 own.1 (others_within last x xs all))
      ]
