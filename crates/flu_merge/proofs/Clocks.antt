-- The ticks of a clock: they rise, and are the events of its one list.
use Rattle.std.proofs.Common.{◌≡◌, ℕ, zero, suc, ◌+◌, ◌≤◌, ◌<◌, Bool, true, false, not, Option, Some, None, List, [], ◌∷◌, map, length}
use Rattle.std.proofs.Common.{refl, sym, ap, ◌∙◌, arith}
use Rattle.std.specs.Prelude.{⊤, ◌==◌, pos, is_some, slice_get}
use Rattle.std.specs.List.{flat_map, list_all, range_with_len}
use Rattle.std.specs.Option.{option_map_or}
use Rattle.std.proofs.lemmas.List.{append-nil, length-map}
use Rattle.flu_lemmas.proofs.Tests.{and_left, and_right, true_eq, true_le}
use Rattle.flu_model.specs.declared.events.Event.{Event as EventOf}
use Rattle.flu_model.specs.declared.jobs.Keys.{Keys}
use Rattle.flu_model.specs.declared.jobs.Keys.TheVariants.{Alone, One, Range}
use Rattle.flu_model.specs.declared.jobs.Kind.{Kind}
use Rattle.flu_model.specs.declared.jobs.Source.{Source}
use Rattle.flu_model.specs.declared.jobs.TagRef.{TagRef}
use Rattle.flu_model.specs.declared.moments.Timing.{Timing}
use Rattle.flu_model.specs.Listing.{listed_keys, listed_tags, tag}
use Rattle.flu_model.specs.Merging.{events_of, all_events}
use Rattle.flu_model.specs.Moments.{moment_at}
use Rattle.flu_model.specs.Rules.{is_tick_kind, is_tick_tag, listed_kind_fits, tag_ref_fits, clock_fits, has_origin, origin_fits, source_fits, is_clock}
use Rattle.flu_moments.specs.Clocks.{steps, ticks_among}
use Rattle.flu_streams.specs.Clocks.{items_of_ticks, lists_of_ticks}
use Rattle.flu_streams.specs.Tags.{width}

-- ---- what a clock is
origin_of : (kinds : List Kind) (s : Source) → source_fits kinds s ≡ true → origin_fits kinds s ≡ true
origin_of kinds s e = and_right _ _ (and_left _ _ (and_left _ _ (and_left _ _ (and_left _ _ (and_left _ _ e)))))

clock_by : (kinds : List Kind) (s : Source) (every : ℕ) → source_fits kinds s ≡ true → s.every ≡ Some every → clock_fits kinds every s ≡ true
clock_by kinds s every fits is = ap (has_origin kinds s) (sym is) ∙ origin_of kinds s fits

period_of : (kinds : List Kind) (s : Source) (every : ℕ) → clock_fits kinds every s ≡ true → 0 < every
period_of kinds s every e = true_le 1 every (and_left _ _ (and_left _ _ (and_left _ _ (and_left _ _ (and_left _ _ e)))))

-- ---- its one itag
key_alone : (o : Option Kind) (keys : Keys) → is_tick_kind o ≡ true → listed_kind_fits o keys ≡ true → length (listed_keys keys) ≡ 1
key_alone None keys tick fits = absurd cc
key_alone (Some k) Alone tick fits = refl
key_alone (Some k) (One n) tick fits = by_keyed k.keyed _ _ (and_left (not k.keyed) _ (and_left _ _ tick)) (and_left k.keyed _ fits)
  where
    by_keyed : (b : Bool) (m n : ℕ) → not b ≡ true → b ≡ true → m ≡ n
    by_keyed true m n e f = absurd cc
    by_keyed false m n e f = absurd cc
key_alone (Some k) (Range lo hi) tick fits = by_keyed k.keyed _ _ (and_left (not k.keyed) _ (and_left _ _ tick)) (and_left k.keyed _ (and_left _ _ fits))
  where
    by_keyed : (b : Bool) (m n : ℕ) → not b ≡ true → b ≡ true → m ≡ n
    by_keyed true m n e f = absurd cc
    by_keyed false m n e f = absurd cc

one_tag : (kinds : List Kind) (tags : List TagRef) → length tags ≡ 1 → list_all (is_tick_tag kinds) tags ≡ true → list_all (tag_ref_fits kinds) tags ≡ true
    → length (flat_map listed_tags tags) ≡ 1
one_tag kinds [] one tick fits = absurd (omega (arith, one))
one_tag kinds (r ∷ []) one tick fits =
    ap length (append-nil (listed_tags r)) ∙ length-map (listed_keys r.keys) (λ k. tag r.kind k)
    ∙ key_alone (slice_get kinds r.kind) r.keys (and_left (is_tick_tag kinds r) _ tick) (and_left (tag_ref_fits kinds r) _ fits)
one_tag kinds (r ∷ q ∷ tags) one tick fits = absurd (omega (arith, one))

fitting_tags : (kinds : List Kind) (s : Source) → source_fits kinds s ≡ true → list_all (tag_ref_fits kinds) s.tags ≡ true
fitting_tags kinds s e = and_right _ _ (and_left _ _ e)

one_listed : (kinds : List Kind) (s : Source) (every : ℕ) → clock_fits kinds every s ≡ true → (length s.tags == 1) ≡ true
one_listed kinds s every e = and_right _ _ (and_left _ _ e)

tick_tags : (kinds : List Kind) (s : Source) (every : ℕ) → clock_fits kinds every s ≡ true → list_all (is_tick_tag kinds) s.tags ≡ true
tick_tags kinds s every e = and_right _ _ e

pub clock_width : (kinds : List Kind) (s : Source) → source_fits kinds s ≡ true → is_clock s ≡ true → width s ≡ 1
clock_width kinds s fits clock = by_every s.every refl clock
  where
    by_every : (o : Option ℕ) → s.every ≡ o → is_some o ≡ true → width s ≡ 1
    by_every None e some = absurd cc
    by_every (Some every) e some =
        let own = clock_by kinds s every fits e in
        one_tag kinds s.tags (true_eq (length s.tags) 1 (one_listed kinds s every own)) (tick_tags kinds s every own) (fitting_tags kinds s fits)

-- ---- its ticks
abbrev pub Rises : ℕ → List ℕ → Type 0
Rises low [] = ⊤
Rises low (t ∷ ts) = (low ≤ t) × Rises (suc t) ts

steps_rise : (low from every count : ℕ) → 0 < every → low ≤ from → Rises low (steps from every count)
steps_rise low from every zero some le = tt
steps_rise low from every (suc count) some le = (le, steps_rise (suc from) (from + every) every count some (omega (arith, some)))

among_rise : (sources every clock : ℕ) (rows : List ℕ) → 0 < every → Rises 0 (ticks_among sources 1 every clock rows)
among_rise sources every clock [] some = tt
among_rise sources every clock (m ∷ ms) some = steps_rise 0 _ every _ some (omega arith)

pub ticks_rise : (kinds : List Kind) (s : Source) (sources clock : ℕ) (rows : List ℕ) → source_fits kinds s ≡ true
    → Rises 0 (option_map_or (λ every. ticks_among sources 1 every clock rows) s.every [])
ticks_rise kinds s sources clock rows fits = by_every s.every refl
  where
    by_every : (o : Option ℕ) → s.every ≡ o → Rises 0 (option_map_or (λ every. ticks_among sources 1 every clock rows) o [])
    by_every None e = tt
    by_every (Some every) e = among_rise sources every clock rows (period_of kinds s every (clock_by kinds s every fits e))

-- ---- their events
abbrev pub tick_event : Timing → ℕ → ℕ → EventOf
tick_event timing itag time = record { time = moment_at timing time 0; itag = record { 0 = itag }; item = 0; value = pos 0 }

tick_events : (timing : Timing) (itag : ℕ) (ticks : List ℕ) → events_of (items_of_ticks timing itag ticks) ≡ map (tick_event timing itag) ticks
tick_events timing itag [] = refl
tick_events timing itag (t ∷ ticks) = ap (λ l. tick_event timing itag t ∷ l) (tick_events timing itag ticks)

pub clock_lists : (timing : Timing) (s : Source) (first : ℕ) (ticks : List ℕ) → width s ≡ 1
    → all_events (lists_of_ticks timing s first ticks) ≡ map (tick_event timing first) ticks
clock_lists timing s first ticks one =
    let same : first + 0 ≡ first = omega arith in
    ap (λ n. all_events (map (λ place. items_of_ticks timing (first + place) ticks) (range_with_len 0 n))) one
    ∙ append-nil (events_of (items_of_ticks timing (first + 0) ticks)) ∙ tick_events timing (first + 0) ticks
    ∙ ap (λ itag. map (tick_event timing itag) ticks) same
