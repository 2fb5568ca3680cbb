-- The ticks between two moments.
use Rattle.std.proofs.Common.{◌≡◌, ◌↔◌, ℕ, ◌+◌, ◌-◌, ◌*◌, ◌/◌, ◌%◌, ◌<◌, ◌≤◌, List, [], ◌∷◌, ◌++◌, inl, inr, sym, ap, subst, ◌∙◌, arith}
use Rattle.std.specs.Prelude.{Contains, All, Any}
use Rattle.std.specs.List.{AllByRecursion}
use Rattle.std.specs.List.Sorted.{IsStrictlyIncreasing, IsStrictlySortedBy}
use Rattle.std.specs.Ordering.{nat_cmp}
use Rattle.std.specs.declared.cmp.Ordering.TheVariants.{Less}
use Rattle.std.proofs.lemmas.Bool.{cases_lt}
use Rattle.std.proofs.lemmas.List.Elements.{All-weaker, All-contains, All-contains_itself, Contains-append_left, Contains-append_right, Contains-append_cases}
use Rattle.std.proofs.lemmas.Map.Keys.{sorted_from_strictly_increasing, IsStrictlyIncreasing-from_sorted}
use Rattle.std.proofs.lemmas.Nat.{div-add-mod', mod_below}
use Rattle.flu_lemmas.proofs.Containing.{contains_here, contains_later, contains_none}
use Rattle.flu_lemmas.proofs.Elements.{all_append}
use Rattle.flu_moments.specs.Clocks.{tick_moment, IsNextTick, IsTick, IsTicks, IsSpan, IsBetween, AreBetween, steps}
use Rattle.flu_moments.specs.Moments.{time_of}
use Rattle.flu_moments.specs.TickLaws.{MomentsPartTicks, RowsTellTicks}
use Rattle.flu_moments.proofs.FollowLemmas.{greatest_of}
use Rattle.flu_moments.proofs.MomentLemmas.{product_le}
use Rattle.flu_moments.proofs.NextLemmas.{from_its_time, from_next_time, next_tick_exists}
use Rattle.flu_moments.proofs.StepLemmas.{less_by_cmp, multiple_more, steps_apart, step_is, is_step, steps-rising, only_rising}
use Rattle.flu_moments.proofs.TickLemmas.{tick_moment-rises, any_within, tick_from_range, range_from_tick}

-- ---- rising lists, one after the other
rising_by_all : (x : ℕ) (ys : List ℕ) → ((y : ℕ) → Contains ys y → x < y) → AllByRecursion (λ y. nat_cmp x y ≡ Less) ys
rising_by_all x [] below = tt
rising_by_all x (y ∷ ys) below =
    (less_by_cmp x y (below y (contains_here y ys)), rising_by_all x ys (λ z there. below z (contains_later y z ys there)))

sorted-append : (xs ys : List ℕ) → IsStrictlySortedBy nat_cmp xs → IsStrictlySortedBy nat_cmp ys
    → ((x y : ℕ) → Contains xs x → Contains ys y → x < y) → IsStrictlySortedBy nat_cmp (xs ++ ys)
unfolding IsStrictlySortedBy
sorted-append [] ys up up' below = up'
sorted-append (x ∷ xs) ys up up' below = (
  all_append (λ y. nat_cmp x y ≡ Less) xs ys up.0 (rising_by_all x ys (λ y there. below x y (contains_here x xs) there)),
  sorted-append xs ys up.1 up' (λ z y there there'. below z y (contains_later x z xs there) there'),
)

rising-append : (xs ys : List ℕ) → IsStrictlyIncreasing xs → IsStrictlyIncreasing ys → ((x y : ℕ) → Contains xs x → Contains ys y → x < y)
    → IsStrictlyIncreasing (xs ++ ys)
rising-append xs ys up up' below =
    IsStrictlyIncreasing-from_sorted (xs ++ ys)
    (sorted-append xs ys (sorted_from_strictly_increasing xs up) (sorted_from_strictly_increasing ys up') below)

-- ---- the ticks between two moments are one list, and a moment between parts it
only_between : (sources ties every clock low high : ℕ) (xs ys : List ℕ) → AreBetween sources ties every clock low high xs
    → AreBetween sources ties every clock low high ys → xs ≡ ys
only_between sources ties every clock low high xs ys a b =
    only_rising xs ys a.rising b.rising (λ z. (λ there. (b.each z).1 ((a.each z).0 there), λ there. (a.each z).1 ((b.each z).0 there)))

between_joined : (sources ties every clock low between high : ℕ) (early late : List ℕ) → low ≤ between → between ≤ high
    → AreBetween sources ties every clock low between early → AreBetween sources ties every clock between high late
    → AreBetween sources ties every clock low high (early ++ late)
between_joined sources ties every clock low between high early late le le' a b = record {
  rising = rising-append early late a.rising b.rising (λ x y there there'.
      let first = (a.each x).0 there in
      let second = (b.each y).0 there' in
      let under = first.within in
      let over = second.above in
      elim (cases_lt x y) [
        | inl less ↦ less
        | inr back ↦ (let up = tick_moment-rises sources ties clock y x back in absurd (omega arith))
      ]);
  each = λ time. (
    λ there. elim (Contains-append_cases early late time there) [
      | inl first ↦ (let is = (a.each time).0 first in let under = is.within in
          record { multiple = is.multiple; above = is.above; within = omega arith })
      | inr second ↦ (let is = (b.each time).0 second in let over = is.above in
          record { multiple = is.multiple; above = omega arith; within = is.within })
    ],
    λ is. (let over = is.above in let under = is.within in elim (cases_lt between (tick_moment sources ties clock time)) [
      | inl later ↦ Contains-append_right early late time ((b.each time).1 (record { multiple = is.multiple; above = later; within = under }))
      | inr le'' ↦ Contains-append_left early late time ((a.each time).1 (record { multiple = is.multiple; above = over; within = le'' }))
    ]),
  );
}

-- ---- as steps from the first one
pub none_between : (sources ties every clock low high from end : ℕ) → IsNextTick sources ties every clock low from
    → ((time : ℕ) → (high < tick_moment sources ties clock time) ↔ (end ≤ time)) → end ≤ from → AreBetween sources ties every clock low high []
none_between sources ties every clock low high from end next ends le = record {
  rising = λ k less. absurd (omega arith);
  each = λ time. (
    λ there. absurd (contains_none time there),
    λ is. (let first = next.least time is.multiple is.above in
        let under = is.within in
        let over = (ends time).1 (omega arith) in
        absurd (omega arith)),
  );
}

pub steps_between_moments : (sources ties every clock low high from end : ℕ) → 0 < every → IsNextTick sources ties every clock low from
    → ((time : ℕ) → (high < tick_moment sources ties clock time) ↔ (end ≤ time)) → from < end
    → AreBetween sources ties every clock low high (steps from every ((end - 1 - from) / every + 1))
steps_between_moments sources ties every clock low high from end some next ends less = record {
  rising = steps-rising from every ((end - 1 - from) / every + 1) some;
  each = λ time. (to_between time, from_between time);
}
  where
    count : ℕ
    count = (end - 1 - from) / every

    parts : (count * every ≤ end - 1 - from) × (end - 1 - from < (count + 1) * every)
    parts =
        let whole = div-add-mod' (end - 1 - from) every in
        let rest = mod_below (end - 1 - from) every some in
        (omega arith, omega arith)

    to_between : (time : ℕ) → Contains (steps from every (count + 1)) time → IsBetween sources ties every clock low high time
    to_between time there =
        let at = step_is from every (count + 1) time there in
        let number = at.1 in
        let place = at.2 in
        let inside = product_le at.0 count every (omega arith) in
        let under = parts.0 in
        let over = next.above in
        let up = tick_moment-rises sources ties clock from time (omega arith) in
        record {
          multiple = ap (λ x. x % every) place ∙ multiple_more from every at.0 some next.multiple;
          above = omega arith;
          within = elim (cases_lt high (tick_moment sources ties clock time)) [
            | inl beyond ↦ (let late = (ends time).0 beyond in absurd (omega arith))
            | inr le ↦ le
          ];
        }

    from_between : (time : ℕ) → IsBetween sources ties every clock low high time → Contains (steps from every (count + 1)) time
    from_between time is =
        let low_enough = next.least time is.multiple is.above in
        let at = steps_apart from time every some next.multiple is.multiple low_enough in
        let place = at.1 in
        let under = is.within in
        let early : time < end = elim (cases_lt time end) [
          | inl before ↦ before
          | inr le ↦ (let beyond = (ends time).1 le in absurd (omega arith))
        ] in
        let most = parts.1 in
        let number : at.0 < count + 1 = elim (cases_lt at.0 (count + 1)) [
          | inl few ↦ few
          | inr many ↦ (let further = product_le (count + 1) at.0 every many in absurd (omega arith))
        ] in
        subst (Contains (steps from every (count + 1))) (sym place) (is_step from every (count + 1) at.0 number)

-- they are before the end, which is not far behind the second moment
pub last_step_before : (from end every : ℕ) → from < end → 0 < every → from + (end - 1 - from) / every * every < end
last_step_before from end every less some = let whole = div-add-mod' (end - 1 - from) every in omega arith

pub end_within : (sources ties clock high end : ℕ) → 0 < sources → 0 < ties
    → ((time : ℕ) → (high < tick_moment sources ties clock time) ↔ (end ≤ time)) → end ≤ high + 1
end_within sources ties clock high end some any ends =
    let times = product_le 1 sources (high + 1) some in
    let places = product_le 1 ties ((high + 1) * sources + clock) any in
    (ends (high + 1)).0 (omega arith)

-- ---- there is such a list
module _ (sources ties every clock : ℕ) (any : 0 < ties) (at : clock < sources) (some : 0 < every) where
  end_of : (m : ℕ) → (end : ℕ) × ((time : ℕ) → (m < tick_moment sources ties clock time) ↔ (end ≤ time))
  end_of m =
      elim (cases_lt m (tick_moment sources ties clock (time_of sources ties m))) [
        | inl above ↦ (time_of sources ties m, from_its_time sources ties clock m any at above)
        | inr under ↦ (time_of sources ties m + 1, from_next_time sources ties clock m any at under)
      ]

  some_between : (low high : ℕ) → (ticks : List ℕ) × AreBetween sources ties every clock low high ticks
  some_between low high =
      let from = next_tick_exists sources ties every clock low any at some in
      let end = end_of high in
      elim (cases_lt from.0 end.0) [
        | inl less ↦ (
          steps from.0 every ((end.0 - 1 - from.0) / every + 1),
          steps_between_moments sources ties every clock low high from.0 end.0 some from.1 end.1 less,
        )
        | inr le ↦ ([], none_between sources ties every clock low high from.0 end.0 from.1 end.1 le)
      ]

  -- ---- the ticks among rows
  pub tick_moment-strict : (a b : ℕ) → a < b → tick_moment sources ties clock a < tick_moment sources ties clock b
  tick_moment-strict a b less =
      let lines = product_le (a + 1) b sources (omega arith) in
      let places = product_le (a * sources + clock + 1) (b * sources + clock) ties (omega arith) in
      omega arith

  pub all_between : (first last to : ℕ) (rows ticks : List ℕ) → IsSpan first last rows → IsNextTick sources ties every clock last to
      → IsTicks sources ties every clock rows ticks → AreBetween sources ties every clock first (tick_moment sources ties clock to) ticks
  all_between first last to rows ticks span end is = record {
    rising = is.rising;
    each = λ time. (λ there. to_between time ((is.each time).0 there), λ between. (is.each time).1 (from_between time between));
  }
    where
      begin : (from : ℕ) × IsNextTick sources ties every clock first from
      begin = next_tick_exists sources ties every clock first any at some

      to_between : (time : ℕ) → IsTick sources ties every clock rows time → IsBetween sources ties every clock first (tick_moment sources ties clock to) time
      to_between time tick =
          let range = range_from_tick sources ties every clock first last rows some span begin.0 to begin.1 end time tick in
          let up = tick_moment-rises sources ties clock begin.0 time range.0 in
          let over = begin.1.above in
          record { multiple = tick.multiple; above = omega arith; within = tick_moment-rises sources ties clock time to range.1 }

      from_between : (time : ℕ) → IsBetween sources ties every clock first (tick_moment sources ties clock to) time → IsTick sources ties every clock rows time
      from_between time between =
          let under = between.within in
          let high : time ≤ to = elim (cases_lt to time) [
            | inl later ↦ (let up = tick_moment-strict to time later in absurd (omega arith))
            | inr le ↦ le
          ] in
          tick_from_range sources ties every clock first last rows some span begin.0 to begin.1 end time between.multiple
          (begin.1.least time between.multiple between.above) high

  front_between : (first border : ℕ) (rows ticks early : List ℕ) → Contains rows first → All (λ m. first ≤ m) rows → Any (λ m. border < m) rows
      → IsTicks sources ties every clock rows ticks → AreBetween sources ties every clock first border early
      → (late : List ℕ) × (ticks ≡ early ++ late) × All (λ time. border < tick_moment sources ties clock time) late
  front_between first border [] ticks early there least behind is front = absurd (contains_none first there)
  front_between first border (m ∷ ms) ticks early there least behind is front =
      let high = greatest_of m ms in
      let last = high.0 in
      let span : IsSpan first last (m ∷ ms) = record { has_first = there; has_last = high.1; between = λ k d lt. (least k d lt, high.2 k d lt) } in
      let to = next_tick_exists sources ties every clock last any at some in
      let whole = all_between first last to.0 (m ∷ ms) ticks span to.1 is in
      let row = any_within (λ x. border < x) (m ∷ ms) behind in
      let within = All-contains (λ x. x ≤ last) (m ∷ ms) row.0 high.2 row.1 in
      let beyond = row.2 in
      let after = to.1.above in
      let rest = some_between border (tick_moment sources ties clock to.0) in
      let above : All (λ time. border < tick_moment sources ties clock time) rest.0 =
      All-weaker (Contains rest.0) (λ time. border < tick_moment sources ties clock time) (λ time inside. ((rest.1.each time).0 inside).above) rest.0
      (All-contains_itself rest.0) in
      elim (cases_lt border first) [
        | inl before ↦ (
          ticks,
          ap (λ xs. xs ++ ticks) (sym (nothing before)),
          All-weaker (Contains ticks) (λ time. border < tick_moment sources ties clock time) (λ time inside.
              let over = ((whole.each time).0 inside).above in omega arith) ticks (All-contains_itself ticks),
        )
        | inr le ↦ (
          rest.0,
          only_between sources ties every clock first (tick_moment sources ties clock to.0) ticks (early ++ rest.0) whole
              (between_joined sources ties every clock first border (tick_moment sources ties clock to.0) early rest.0 le (omega arith) front rest.1),
          above,
        )
      ]
    where
      nothing : border < first → early ≡ []
      nothing before = no_early early (λ time inside. (let is = (front.each time).0 inside in let over = is.above in let under = is.within in omega arith))
        where
          no_early : (xs : List ℕ) → ((time : ℕ) → Contains xs time → ⊥) → xs ≡ []
          no_early [] none = λ i. []
          no_early (x ∷ xs) none = absurd (none x (contains_here x xs))

-- ---- the laws
pub moments_part_ticks : MomentsPartTicks
moments_part_ticks = record {
  determined = only_between;
  some = λ sources ties every clock low high any at some. some_between sources ties every clock any at some low high;
  joined = between_joined;
}

pub rows_tell_ticks : RowsTellTicks
rows_tell_ticks = record {
  all = λ sources ties every clock first last to rows ticks any at some. all_between sources ties every clock any at some first last to rows ticks;
  front = λ sources ties every clock first border rows ticks early any at some.
      front_between sources ties every clock any at some first border rows ticks early;
}
