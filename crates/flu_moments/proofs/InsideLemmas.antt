-- The ticks among rows that are above one time and up to another.
use Rattle.std.proofs.Common.{◌≡◌, ◌↔◌, inl, inr, ℕ, ◌+◌, ◌*◌, ◌<◌, ◌≤◌, min, max, true, Option, Some, None, List, [], refl, sym, ap, ◌∙◌, arith}
use Rattle.std.specs.Prelude.{nat_lt, nat_le, unwrap_or, Contains}
use Rattle.std.specs.List.{filter}
use Rattle.std.proofs.lemmas.Bool.{cases_lt}
use Rattle.std.proofs.lemmas.Bool.Decides.{nat_tests}
use Rattle.std.proofs.lemmas.List.Kept.{IsStrictlyIncreasing-filter}
use Rattle.flu_lemmas.proofs.Containing.{contains_none}
use Rattle.flu_lemmas.proofs.Tests.{and_left, and_right, both}
use Rattle.flu_moments.specs.Clocks.{tick_moment, IsNextTick, IsSpan, AreBetween, is_after, is_until, is_inside, ticks_among}
use Rattle.flu_moments.specs.Moments.{border}
use Rattle.flu_moments.proofs.BetweenLemmas.{all_between, tick_moment-strict}
use Rattle.flu_moments.proofs.ComputedLemmas.{ticks_are_computed}
use Rattle.flu_moments.proofs.FrontLemmas.{kept, is_kept}
use Rattle.flu_moments.proofs.MomentLemmas.{product_le}
use Rattle.flu_moments.proofs.StepLemmas.{only_rising}
use Rattle.flu_moments.proofs.TickLemmas.{tick_moment-rises}

-- a time is above another exactly where its tick is above the border of that
pub above_border : (sources ties clock t time : ℕ) → clock < sources → 0 < ties
    → (border sources ties t < tick_moment sources ties clock time) ↔ (nat_lt t time ≡ true)
above_border sources ties clock t time at any = (
  λ over. elim (cases_lt t time) [
    | inl later ↦ (grind (arith, nat_tests))
    | inr le ↦ (let lines = product_le time t sources le in
        let places = product_le (time * sources + clock + 1) ((t + 1) * sources) ties (omega arith) in absurd (omega arith))
  ],
  λ later. (let less : t < time = grind (arith, nat_tests) in
      let lines = product_le (t + 1) time sources (omega arith) in
      let places = product_le ((t + 1) * sources) (time * sources + clock) ties (omega arith) in
      let some = product_le 1 ((t + 1) * sources) ties (omega arith) in omega arith),
)

module _ (sources ties every clock first last to : ℕ) (any : 0 < ties) (at : clock < sources) (some : 0 < every) (above end : Option ℕ) where
  -- what a moment below is: the first row's, or that of the time above which the ticks are
  abbrev pub IsLow : ℕ → Type 0
  IsLow low = (time : ℕ) → (low < tick_moment sources ties clock time) ↔ ((first < tick_moment sources ties clock time) × (is_after above time ≡ true))

  abbrev pub IsHigh : ℕ → Type 0
  IsHigh high = (time : ℕ) → (tick_moment sources ties clock time ≤ high) ↔ ((time ≤ to) × (is_until end time ≡ true))

  not_after : (time : ℕ) → tick_moment sources ties clock time ≤ tick_moment sources ties clock to → time ≤ to
  not_after time le = elim (cases_lt to time) [
    | inl later ↦ (let up = tick_moment-strict sources ties every clock any at some to time later in absurd (omega arith))
    | inr le' ↦ le'
  ]

  pub inside : (low high : ℕ) (rows early : List ℕ) → IsSpan first last rows → IsNextTick sources ties every clock last to → IsLow low → IsHigh high
      → AreBetween sources ties every clock low high early → early ≡ filter (is_inside above end) (ticks_among sources ties every clock rows)
  inside low high rows early span next is_low is_high between =
      only_rising early (filter (is_inside above end) ticks) between.rising
      (IsStrictlyIncreasing-filter (is_inside above end) ticks (ticks_are_computed sources ties every clock rows any at some).rising)
      (λ time. (there time, back time))
    where
      ticks : List ℕ
      ticks = ticks_among sources ties every clock rows

      whole : AreBetween sources ties every clock first (tick_moment sources ties clock to) ticks
      whole = all_between sources ties every clock any at some first last to rows ticks span next (ticks_are_computed sources ties every clock rows any at some)

      there : (time : ℕ) → Contains early time → Contains (filter (is_inside above end) ticks) time
      there time here =
          let is = (between.each time).0 here in
          let over = (is_low time).0 is.above in
          let under = (is_high time).0 is.within in
          is_kept (is_inside above end) ticks time
          ((whole.each time).1 (record { multiple = is.multiple; above = over.0; within = tick_moment-rises sources ties clock time to under.0 }))
          (both (is_after above time) (is_until end time) over.1 under.1)

      back : (time : ℕ) → Contains (filter (is_inside above end) ticks) time → Contains early time
      back time here =
          let is = kept (is_inside above end) ticks time here in
          let one = (whole.each time).0 is.0 in
          (between.each time).1 (record {
            multiple = one.multiple;
            above = (is_low time).1 (one.above, and_left (is_after above time) (is_until end time) is.1);
            within = (is_high time).1 (not_after time one.within, and_right (is_after above time) (is_until end time) is.1);
          })

  -- ---- the moments
  pub high_is : (until : ℕ) → until ≡ min (unwrap_or end to) to → IsHigh (tick_moment sources ties clock until)
  high_is until is time = (
    λ le. elim (cases_lt until time) [
      | inl later ↦ (let up = tick_moment-strict sources ties every clock any at some until time later in absurd (omega arith))
      | inr le' ↦ (omega arith, within end refl (λ e is'. let u = ap (λ (x : Option ℕ). unwrap_or x to) is' in omega arith))
    ],
    λ h. tick_moment-rises sources ties clock time until (by_end end refl h.0 h.1),
  )
    where
      within : (o : Option ℕ) → end ≡ o → ((e : ℕ) → end ≡ Some e → time ≤ e) → is_until o time ≡ true
      within None is' le = refl
      within (Some e) is' le = let less = le e is' in grind (arith, nat_tests)

      by_end : (o : Option ℕ) → end ≡ o → time ≤ to → is_until end time ≡ true → time ≤ until
      by_end None is' le passes = let e = ap (λ (x : Option ℕ). unwrap_or x to) is' in omega arith
      by_end (Some u) is' le passes =
          let e = ap (λ (x : Option ℕ). unwrap_or x to) is' in
          let test : nat_le time u ≡ true = sym (ap (λ (x : Option ℕ). is_until x time) is') ∙ passes in
          let under : time ≤ u = grind (arith, nat_tests) in omega arith

  pub low_none : above ≡ None → IsLow first
  low_none is time = (λ over. (over, ap (λ (x : Option ℕ). is_after x time) is), λ h. h.0)

  pub low_some : (t : ℕ) → above ≡ Some t → IsLow (max first (border sources ties t))
  low_some t is time = (
    λ over. (omega arith, ap (λ (x : Option ℕ). is_after x time) is ∙ (above_border sources ties clock t time at any).0 (omega arith)),
    λ h. (let under = h.0 in
        let over = (above_border sources ties clock t time at any).1 (sym (ap (λ (x : Option ℕ). is_after x time) is) ∙ h.1) in omega arith),
  )

  -- no tick is above a time that is not before the last one
  pub none_above : (t : ℕ) → above ≡ Some t → to ≤ t → AreBetween sources ties every clock (max first (border sources ties t))
      (tick_moment sources ties clock (min (unwrap_or end to) to)) []
  none_above t is le = record {
    rising = λ k less. absurd (omega arith);
    each = λ time. (
      λ there. absurd (contains_none time there),
      λ between. (let over = between.above in
          let later = (above_border sources ties clock t time at any).0 (omega arith) in
          let less : t < time = grind (arith, nat_tests) in
          let under = not_after time (let high = between.within in let up = tick_moment-rises sources ties clock (min (unwrap_or end to) to) to (omega arith) in omega arith) in
          absurd (omega arith)),
    );
  }
