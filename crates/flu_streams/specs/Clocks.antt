-- CLOCKS: sources without a file, whose ticks follow the rows of the files (`docs/LANGUAGE.md`, "Clocks").
use Rattle.std.specs.Prelude.{ℕ, ◌+◌, ◌-◌, ◌/◌, ◌<◌, All, pos, nat_lt, Bool, false, slice_get, Option, Some, None, List, [], ◌∷◌, ◌++◌, map, length, sum_by, if◌then◌else◌}
use Rattle.std.specs.List.{flat_map, range_with_len}
use Rattle.std.specs.Option.{option_map_or}
use Rattle.flu_model.specs.declared.events.Item.{Item}
use Rattle.flu_model.specs.declared.events.Item.TheVariants.{Event as EventItem, End as EndItem}
use Rattle.flu_model.specs.declared.jobs.Program.{Program}
use Rattle.flu_model.specs.declared.jobs.Source.{Source}
use Rattle.flu_model.specs.declared.moments.Timing.{Timing}
use Rattle.flu_model.specs.Itags.{source_of_itag}
use Rattle.flu_model.specs.Moments.{moment_at, end_of_times}
use Rattle.flu_model.specs.Rules.{is_clock}
use Rattle.flu_moments.specs.Clocks.{ticks_among}
use Rattle.flu_moments.specs.Moments.{moment}
use Rattle.flu_rows.specs.declared.row.Row.{Row}
use Rattle.flu_streams.specs.declared.faults.SourceFault.{SourceFault}
use Rattle.flu_streams.specs.declared.faults.Why.TheVariants.{TooMany}
use Rattle.flu_streams.specs.Before.{each_with_before, first_some}
use Rattle.flu_streams.specs.Tags.{width}
use Rattle.flu_streams.specs.Tests.{times_of}

-- a source, with those that are declared before it
abbrev pub Declared : Type 0
Declared = List Source × Source

-- ---- ticks
-- where the rows of a source stand among those of all sources: by time, and at one time by source, as declared
abbrev pub ranks_of : Program → ℕ → List Row → List ℕ
ranks_of p number rows = map (λ time. moment (length p.sources) 1 time number 0) (times_of rows)

-- where those of all sources stand, of each its own
abbrev pub ranks_among : Program → (Declared → List Row) → List ℕ
ranks_among p rows = flat_map (λ e. ranks_of p (length e.0) (rows e)) (each_with_before p.sources)

-- rows that stand there have times that rows may have
abbrev pub AreEarly : Program → List ℕ → Type 0
AreEarly p ranks = All (λ rank. rank / length p.sources < end_of_times p) ranks

-- THE TICKS of a source among rows that stand there; only a clock has any
abbrev pub ticks_of : Program → List ℕ → Declared → List ℕ
ticks_of p ranks e = option_map_or (λ every. ticks_among (length p.sources) 1 every (length e.0) ranks) e.1.every []

-- ---- itags
-- whether the events of the itag with this number are ticks: its source is a clock
abbrev pub has_ticks : Program → ℕ → Bool
has_ticks p i = option_map_or is_clock (slice_get p.sources (source_of_itag p (record { 0 = i }))) false

-- ---- items
-- a tick is an event without item and value, at the first moment that its clock has at its time
abbrev pub tick_at : Timing → ℕ → ℕ → Item
tick_at timing itag time = EventItem (record { time = moment_at timing time 0; itag = record { 0 = itag }; item = 0; value = pos 0 })

abbrev pub items_of_ticks : Timing → ℕ → List ℕ → List Item
items_of_ticks timing itag ticks = map (tick_at timing itag) ticks ++ EndItem ∷ []

-- a list for each itag of a clock, of which it has one
abbrev pub lists_of_ticks : Timing → Source → ℕ → List ℕ → List (List Item)
lists_of_ticks timing s first ticks = map (λ place. items_of_ticks timing (first + place) ticks) (range_with_len 0 (width s))

-- ---- too many ticks
-- how many ticks these sources have
abbrev pub count_of_ticks : (Declared → List ℕ) → List Source → ℕ
count_of_ticks ticks sources = sum_by (λ e. length (ticks e)) (each_with_before sources)

-- the fault of a clock, where this many items are held of others: the tick that is too many, counted from 1
abbrev pub fault_of_ticks : ℕ → ℕ → List ℕ → Option SourceFault
fault_of_ticks number held ticks =
    if nat_lt 16777216 (held + length ticks) then Some (record { source = number; row = 16777217 - held; why = TooMany 16777217 }) else None

-- the fault of the first clock, as declared, that has too many ticks behind this many items: ticks are counted clock by clock
abbrev pub fault_among : List Source → ℕ → (Declared → List ℕ) → Option SourceFault
fault_among sources held ticks = first_some (λ e. fault_of_ticks (length e.0) (held + count_of_ticks ticks e.0) (ticks e)) (each_with_before sources)
