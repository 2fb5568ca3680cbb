-- The table of the dependent itags of a job, and the graph that is read from it.
use Rattle.std.specs.Prelude.{ℕ, Bool, false, nat_lt, nat_le, ◌&&◌, Option, Some, None, List, map, slice_get, if◌then◌else◌}
use Rattle.std.specs.List.{range_with_len}
use Rattle.flu_model.specs.declared.events.Tag.{Tag}
use Rattle.flu_model.specs.declared.jobs.Program.{Program}
use Rattle.flu_model.specs.Itags.{count_of_itags, tag_of_itag}
use Rattle.flu_planner.specs.Graphs.{Graph, dependencies}

-- two itags of a job are dependent, and the second is not the lesser
abbrev pub are_dependent : Program → ℕ → ℕ → Bool
are_dependent p i j = nat_le i j && dependencies p i j

-- the tags of the itags
abbrev pub tags_of : Program → List Tag
tags_of p = map (λ i. tag_of_itag p (record { 0 = i })) (range_with_len 0 (count_of_itags p))

-- the row of an itag, with a place for each itag below a number
abbrev pub row_of : Program → ℕ → ℕ → List Bool
row_of p i count = map (are_dependent p i) (range_with_len 0 count)

-- the rows of the itags below a number
abbrev pub rows_of : Program → ℕ → List (List Bool)
rows_of p count = map (λ i. row_of p i (count_of_itags p)) (range_with_len 0 count)

unfoldable pub table_of : Program → List (List Bool)
table_of p = rows_of p (count_of_itags p)

abbrev pub is_set : Option Bool → Bool
is_set None = false
is_set (Some set) = set

abbrev pub in_row : Option (List Bool) → ℕ → Bool
in_row None j = false
in_row (Some row) j = is_set (slice_get row j)

abbrev pub read : List (List Bool) → ℕ → ℕ → Bool
read table i j = in_row (slice_get table i) j

-- the graph that joins two itags if the row of the lesser says so
unfoldable pub graph_of : List (List Bool) → Graph
graph_of table i j = if nat_lt i j then read table i j else read table j i
