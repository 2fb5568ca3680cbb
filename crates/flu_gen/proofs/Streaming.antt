-- The lists of a demo are streams.
use Rattle.std.proofs.Common.{◌≡◌, ◌+◌, ◌%◌, ◌≤◌, ◌<◌, ℕ, zero, suc, Bool, true, false, List, [], ◌∷◌, ◌++◌, map, filter, inl, inr, refl, sym, ap, subst, ◌∙◌}
use Rattle.std.proofs.Common.{arith}
use Rattle.std.specs.Prelude.{◌==◌, ◌&&◌, nat_le}
use Rattle.std.specs.List.{range_with_len}
use Rattle.std.proofs.lemmas.Bool.{cases_Bool}
use Rattle.flu_lemmas.specs.Late.{rises_from}
use Rattle.flu_lemmas.proofs.Tests.{and_left, and_right, both, le_true, true_le}
use Rattle.flu_model.specs.declared.events.Event.{Event}
use Rattle.flu_model.specs.declared.events.Item.{Item}
use Rattle.flu_model.specs.Streaming.{is_stream_from, are_streams}
use Rattle.flu_gen.specs.DemoStreams.{clock_tick, event_at, drawn_event, draw_for, drawn_events, tick_times, ticks, ended, of_itag, demo_lists}

abbrev pub time_of : Event → ℕ
time_of x = x.time

rises_lower : (low high : ℕ) (xs : List Event) → low ≤ high → rises_from time_of high xs ≡ true → rises_from time_of low xs ≡ true
rises_lower low high [] le e = refl
rises_lower low high (x ∷ xs) le e =
    let first : high ≤ x.time = true_le high x.time (and_left (nat_le high x.time) _ e) in
    both (nat_le low x.time) _ (le_true low x.time (omega (arith, le, first))) (and_right (nat_le high x.time) _ e)

-- those of one itag among events whose times rise
stream_of : (i low : ℕ) (xs : List Event) → rises_from time_of low xs ≡ true → is_stream_from i low (ended (of_itag i xs)) ≡ true
stream_of i low [] e = refl
stream_of i low (x ∷ xs) e =
    elim (cases_Bool (x.itag.0 == i)) [
      | inl own ↦
          let first : ((x.itag.0 == i) && nat_le low x.time) ≡ true = both (x.itag.0 == i) (nat_le low x.time) own (and_left (nat_le low x.time) _ e) in
          let rest = stream_of i (x.time + 1) xs (and_right (nat_le low x.time) _ e) in
          rw own (both ((x.itag.0 == i) && nat_le low x.time) _ first rest)
      | inr other ↦
          let first : low ≤ x.time = true_le low x.time (and_left (nat_le low x.time) _ e) in
          rw other (stream_of i low xs (rises_lower low (x.time + 1) xs (omega (arith, first)) (and_right (nat_le low x.time) _ e)))
    ]

-- drawn events, one at each time
drawn_rise : (seed low a n : ℕ) → low ≤ a → rises_from time_of low (map (λ time. drawn_event time (draw_for seed time)) (range_with_len a n)) ≡ true
drawn_rise seed low a zero le = refl
drawn_rise seed low a (suc n) le = both (nat_le low a) _ (le_true low a le) (drawn_rise seed (a + 1) (a + 1) n (omega arith))

-- ticks at those of a run of times that pass a test, and one behind them
tick_stream : (test : ℕ → Bool) (low a n last : ℕ) → low ≤ a → a + n ≤ last
    → is_stream_from clock_tick low (ended (map (λ time. event_at time clock_tick 0) (filter test (range_with_len a n) ++ last ∷ []))) ≡ true
tick_stream test low a zero last le within = both (nat_le low last) true (le_true low last (omega (arith, le, within))) refl
tick_stream test low a (suc n) last le within =
    elim (cases_Bool (test a)) [
      | inl passes ↦ rw passes (both (nat_le low a) _ (le_true low a le) (tick_stream test (a + 1) (a + 1) n last (omega arith) (omega (arith, within))))
      | inr fails ↦ rw fails (tick_stream test low (a + 1) n last (omega (arith, le)) (omega (arith, within)))
    ]

lists_are_streams : (xs : List Event) (last : List Item) (a k t : ℕ) → a + k ≡ t → rises_from time_of 0 xs ≡ true → is_stream_from t 0 last ≡ true
    → are_streams a (map (λ i. ended (of_itag i xs)) (range_with_len a k) ++ last ∷ []) ≡ true
lists_are_streams xs last a zero t is rise stream =
    let same : t ≡ a = omega (arith, is) in
    both (is_stream_from a 0 last) true (subst (λ (i : ℕ). is_stream_from i 0 last ≡ true) same stream) refl
lists_are_streams xs last a (suc k) t is rise stream =
    both (is_stream_from a 0 (ended (of_itag a xs))) _ (stream_of a 0 xs rise) (lists_are_streams xs last (a + 1) k t (omega (arith, is)) rise stream)

demo_lists_are_streams : (n seed : ℕ) → are_streams 0 (demo_lists n seed) ≡ true
demo_lists_are_streams n seed =
    lists_are_streams (drawn_events n seed) (ended (ticks n)) 0 clock_tick clock_tick (omega arith) (drawn_rise seed 0 1 n (omega arith))
    (tick_stream (λ time. time % 1000 == 0) 0 1 n (n + 1) (omega arith) (omega arith))

pub good_lists : (n seed : ℕ) (lists : List (List Item)) → lists ≡ demo_lists n seed → are_streams 0 lists ≡ true
good_lists n seed lists is = ap (are_streams 0) is ∙ demo_lists_are_streams n seed
