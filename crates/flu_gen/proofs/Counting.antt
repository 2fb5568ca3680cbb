-- How many lists and events a demo has.
use Rattle.std.proofs.Common.{◌≡◌, ◌+◌, ◌/◌, ◌%◌, ◌≤◌, ◌<◌, ℕ, zero, suc, Bool, true, false, cond, List, [], ◌∷◌, ◌++◌, length, length-append, map, filter, inl}
use Rattle.std.proofs.Common.{inr, refl, sym, ap, ◌∙◌, arith}
use Rattle.std.specs.Prelude.{◌==◌, nat_le}
use Rattle.std.specs.List.{range_with_len, flat_map}
use Rattle.std.proofs.lemmas.Bool.Decides.{nat_tests}
use Rattle.std.proofs.lemmas.List.{length-map}
use Rattle.std.proofs.lemmas.List.FromFn.{length-map-range_with_len}
use Rattle.flu_lemmas.proofs.Tests.{le_true}
use Rattle.flu_model.specs.declared.events.Event.{Event}
use Rattle.flu_model.specs.declared.events.Item.{Item}
use Rattle.flu_model.specs.declared.jobs.Program.{Program}
use Rattle.flu_model.specs.Itags.{count_of_itags}
use Rattle.flu_model.specs.Listing.{itags_of_sources}
use Rattle.flu_model.specs.Merging.{events_of, all_events}
use Rattle.flu_gen.specs.DemoJob.{IsDemoJob}
use Rattle.flu_gen.specs.DemoStreams.{itag_drawn, draw_for, drawn_event, drawn_events, clock_tick, event_at, tick_times, ticks, ended, of_itag, demo_lists}
use Rattle.flu_gen.proofs.Drawing.{times_more}

events_of-ended : (xs : List Event) → events_of (ended xs) ≡ xs
events_of-ended [] = refl
events_of-ended (x ∷ xs) = ap (λ l. x ∷ l) (events_of-ended xs)

-- those with an itag from a on
abbrev pub from_itag : ℕ → List Event → List Event
from_itag a xs = filter (λ (x : Event). nat_le a x.itag.0) xs

one_more : (a i r s t : ℕ) → r ≡ s + t → cond (nat_le a i) 1 0 + r ≡ (cond (i == a) 1 0 + s) + (cond (nat_le (a + 1) i) 1 0 + t)
one_more a i r s t e = grind (arith, nat_tests)

length-cond : {X : Type 0} (b : Bool) (x : X) (xs : List X) → length (cond b (x ∷ xs) xs) ≡ cond b 1 0 + length xs
length-cond true x xs = omega arith
length-cond false x xs = omega arith

split : (a : ℕ) (xs : List Event) → length (from_itag a xs) ≡ length (of_itag a xs) + length (from_itag (a + 1) xs)
split a [] = refl
split a (x ∷ xs) =
    length-cond (nat_le a x.itag.0) x (from_itag a xs)
    ∙ one_more a x.itag.0 (length (from_itag a xs)) (length (of_itag a xs)) (length (from_itag (a + 1) xs)) (split a xs)
    ∙ sym (ap (λ n. n + length (from_itag (a + 1) (x ∷ xs))) (length-cond (x.itag.0 == a) x (of_itag a xs))
    ∙ ap (λ n. (cond (x.itag.0 == a) 1 0 + length (of_itag a xs)) + n) (length-cond (nat_le (a + 1) x.itag.0) x (from_itag (a + 1) xs)))

from_first : (xs : List Event) → length (from_itag 0 xs) ≡ length xs
from_first [] = refl
from_first (x ∷ xs) =
    ap (λ b. length (cond b (x ∷ from_itag 0 xs) (from_itag 0 xs))) (le_true 0 x.itag.0 (omega arith)) ∙ ap suc (from_first xs)

-- the events of a run of itags, and those of one more list
events_in_lists : (xs last : List Event) (a k t : ℕ) → a + k ≡ t → length (from_itag t xs) ≡ 0
    → length (all_events (map (λ i. ended (of_itag i xs)) (range_with_len a k) ++ ended last ∷ [])) ≡ length (from_itag a xs) + length last
events_in_lists xs last a zero t is none =
    let same : t ≡ a = omega (arith, is) in
    let empty : length (from_itag a xs) ≡ 0 = sym (ap (λ i. length (from_itag i xs)) same) ∙ none in
    length-append (events_of (ended last)) [] ∙ ap (λ l. length l + 0) (events_of-ended last) ∙ omega (arith, empty)
events_in_lists xs last a (suc k) t is none =
    let rest = events_in_lists xs last (a + 1) k t (omega (arith, is)) none in
    let own = split a xs in
    let later = all_events (map (λ i. ended (of_itag i xs)) (range_with_len (a + 1) k) ++ ended last ∷ []) in
    length-append (events_of (ended (of_itag a xs))) later ∙ ap (λ l. length l + length later) (events_of-ended (of_itag a xs)) ∙ omega (arith, rest, own)

drawn_below : (d : ℕ) → nat_le clock_tick (itag_drawn d) ≡ false
drawn_below d = grind (arith, nat_tests)

none_above : (seed a n : ℕ) → length (from_itag clock_tick (map (λ time. drawn_event time (draw_for seed time)) (range_with_len a n))) ≡ 0
none_above seed a zero = refl
none_above seed a (suc n) = rw (drawn_below (draw_for seed a)) (none_above seed (a + 1) n)

-- a tick for each thousand
thousand_more : (n : ℕ) → n / 1000 + cond ((n + 1) % 1000 == 0) 1 0 ≡ (n + 1) / 1000
thousand_more n = grind (arith, nat_tests)

thousands : (n : ℕ) → length (filter (λ time. time % 1000 == 0) (range_with_len 1 n)) ≡ n / 1000
thousands zero = refl
thousands (suc n) =
    let more : n + 1 ≡ suc n = omega arith in
    let front = filter (λ time. time % 1000 == 0) (range_with_len 1 n) in
    let test = (n + 1) % 1000 == 0 in
    sym (ap (λ m. length (filter (λ time. time % 1000 == 0) (range_with_len 1 m))) more)
    ∙ ap length (times_more (λ time. time % 1000 == 0) n (n + 1) refl)
    ∙ length-append front (cond test ((n + 1) ∷ []) [])
    ∙ ap (λ k. length front + k) (length-cond test (n + 1) [])
    ∙ ap (λ k. k + (cond test 1 0 + 0)) (thousands n)
    ∙ (let e = thousand_more n in omega (arith, e))
    ∙ ap (λ m. m / 1000) more

count_of_ticks : (n : ℕ) → length (ticks n) ≡ n / 1000 + 1
count_of_ticks n =
    length-map (tick_times n) (λ time. event_at time clock_tick 0)
    ∙ length-append (filter (λ time. time % 1000 == 0) (range_with_len 1 n)) ((n + 1) ∷ [])
    ∙ ap (λ k. k + 1) (thousands n)

count_of_demo : (n seed : ℕ) → length (all_events (demo_lists n seed)) ≡ n + n / 1000 + 1
count_of_demo n seed =
    let drawn = drawn_events n seed in
    let all : length (all_events (demo_lists n seed)) ≡ length (from_itag 0 drawn) + length (ticks n) =
    events_in_lists drawn (ticks n) 0 clock_tick clock_tick refl (none_above seed 1 n) in
    let first : length (from_itag 0 drawn) ≡ length drawn = from_first drawn in
    let each : length drawn ≡ n = length-map-range_with_len (λ time. drawn_event time (draw_for seed time)) 1 n in
    let ticking : length (ticks n) ≡ n / 1000 + 1 = count_of_ticks n in
    omega (arith, all, first, each, ticking)

pub count_of_events : (n seed : ℕ) (lists : List (List Item)) → lists ≡ demo_lists n seed → length (all_events lists) ≡ n + n / 1000 + 1
count_of_events n seed lists is = ap (λ l. length (all_events l)) is ∙ count_of_demo n seed

-- one list for each itag
pub lists_for_itags : (n seed : ℕ) (p : Program) (lists : List (List Item)) → IsDemoJob p → lists ≡ demo_lists n seed → length lists ≡ count_of_itags p
lists_for_itags n seed p lists job is = ap length is ∙ sym (ap (λ sources. length (itags_of_sources 0 sources)) job.sources)
