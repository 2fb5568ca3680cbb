-- MOMENTS: one number for each row of the sources, by which the rows of all sources are ordered (`docs/MODEL.md`, "Moments"). Before version 3 a
-- source has one row at a time, and a moment is the time. In version 3 it may have several: rows are ordered by time; at one time by source, as
-- declared; and in one source as in its file.
use Rattle.std.specs.Prelude.{ℕ, ◌+◌, ◌-◌, ◌*◌, ◌/◌, ◌^◌, ◌<◌, ◌≤◌, max, min, ◌==◌, if◌then◌else◌, List, [], ◌∷◌, length}
use Rattle.std.specs.Option.{option_map_or}
use Rattle.flu_calendar.specs.declared.unit.Unit.{Unit}
use Rattle.flu_calendar.specs.Units.{times_end}
use Rattle.flu_model.specs.declared.events.Event.{Event}
use Rattle.flu_model.specs.declared.jobs.Program.{Program}
use Rattle.flu_model.specs.declared.jobs.Source.{Source}
use Rattle.flu_model.specs.declared.moments.Timing.{Timing}

-- how many moments a time has: one for each row that each source may have at it
abbrev pub moments_a_time : Program → ℕ
moments_a_time p = if p.version == 3 then max 1 (length p.sources) * p.ties else 1

abbrev pub time_of_moment : Program → ℕ → ℕ
time_of_moment p m = m / moments_a_time p

-- an event as its actions see it, and as a person does: at its time
abbrev pub at_its_time : Program → Event → Event
at_its_time p x = record { time = time_of_moment p x.time; itag = x.itag; item = x.item; value = x.value }

-- the times that have moments below 2^63, and a text where times are texts, are below this one
abbrev pub limit_of_times : Program → ℕ
limit_of_times p = option_map_or (λ (unit : Unit). min (2 ^ 63 / moments_a_time p) (times_end unit)) p.iso (2 ^ 63 / moments_a_time p)

-- the last multiple of a period below a limit
abbrev pub last_multiple : ℕ → ℕ → ℕ
last_multiple limit every = (limit - 1) / every * every

-- THE END OF TIMES: the times of rows are below it. It is such that a row at a time has its moments and its text, and so has the tick of each clock
-- that is behind it.
abbrev pub end_with_clocks : ℕ → List Source → ℕ
end_with_clocks limit [] = limit
end_with_clocks limit (s ∷ sources) = min (option_map_or (last_multiple limit) s.every limit) (end_with_clocks limit sources)

abbrev pub end_of_times : Program → ℕ
end_of_times p = end_with_clocks (limit_of_times p) p.sources

-- HOW THE ROWS OF A SOURCE ARE NUMBERED, of the source with this number
abbrev pub timing_of : Program → ℕ → Timing
timing_of p number = record {
  several = p.version == 3;
  scale = moments_a_time p;
  offset = if p.version == 3 then number * p.ties else 0;
  ties = p.ties;
  end = end_of_times p;
}

-- THE MOMENT of a row, by its time and by how many rows before it the source has at its time. Where these are too many, which is a defect, it is the
-- last one of the source at this time.
abbrev pub moment_at : Timing → ℕ → ℕ → ℕ
moment_at timing time before = time * timing.scale + timing.offset + min before (timing.ties - 1)

-- the last moment of a time
abbrev pub last_moment : Timing → ℕ → ℕ
last_moment timing time = (time + 1) * timing.scale - 1

-- the moments of a source at a time are among those of the time
pub record IsTiming (timing : Timing) : Type 0 where
  pub some : 0 < timing.ties
  pub within : timing.offset + timing.ties ≤ timing.scale
  pub few : timing.scale ≤ 2 ^ 37
  pub range : timing.end ≤ 2 ^ 63 / timing.scale
