-- How many events per second to expect of the itags of a job.
use Rattle.std.specs.Prelude.{ℕ, List, map, slice_get}
use Rattle.std.specs.List.{range_with_len}
use Rattle.std.specs.Option.{option_map_or}
use Rattle.flu_model.specs.declared.jobs.Program.{Program}
use Rattle.flu_model.specs.declared.jobs.Source.{Source}
use Rattle.flu_model.specs.Itags.{count_of_itags, source_of_itag}

-- the rate of the source with a number
abbrev pub rate_of_source : List Source → ℕ → ℕ
rate_of_source sources number = option_map_or (λ s. s.rate) (slice_get sources number) 0

-- the rate of each itag's source, by the itags' numbers
unfoldable pub source_rates : Program → List ℕ
source_rates p = map (λ i. rate_of_source p.sources (source_of_itag p (record { 0 = i }))) (range_with_len 0 (count_of_itags p))
