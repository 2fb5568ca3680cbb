-- Lists of itags.
use Rattle.std.specs.Prelude.{ℕ, Bool, List, map}
use Rattle.std.specs.List.{filter, range_with_len}
use Rattle.flu_model.specs.declared.events.Itag.{Itag}
use Rattle.flu_model.specs.declared.jobs.Program.{Program}
use Rattle.flu_model.specs.Itags.{count_of_itags}

abbrev pub itag : ℕ → Itag
itag i = record { 0 = i }

-- the itags of a job for which a test holds, by rising number
abbrev pub itags_where : Program → (Itag → Bool) → List Itag
itags_where p test = filter test (map itag (range_with_len 0 (count_of_itags p)))
