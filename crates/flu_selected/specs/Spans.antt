-- WHAT A PROCESS TELLS of the rows that it read, so that clocks tick elsewhere as if these were read there: the moments of the first and the last row.
use Rattle.std.specs.Prelude.{ℕ, ◌/◌, Bool, true, false, nat_lt, nat_le, ◌&&◌, Option, Some, None, List, [], ◌∷◌, length}
use Rattle.flu_model.specs.declared.jobs.Program.{Program}
use Rattle.flu_model.specs.Moments.{end_of_times}
use Rattle.flu_moments.specs.Clocks.{first_of, last_of}

-- the first and the last of some ranks, which tell all ticks; none where there are none
abbrev pub span_of_ranks : List ℕ → List ℕ
span_of_ranks [] = []
span_of_ranks (rank ∷ ranks) = first_of rank ranks ∷ last_of rank ranks ∷ []

-- the ranks of rows at these moments: a rank is what a moment is without its place among the rows of its source at its time
abbrev pub span_told : Program → Option ℕ → Option ℕ → List ℕ
span_told p (Some first) (Some last) = first / p.ties ∷ last / p.ties ∷ []
span_told p (Some first) None = []
span_told p None last = []

-- the moments of a first and a last row fit: both are there or none, they are in order, and their times are times that rows may have
abbrev pub moments_fit : Program → Option ℕ → Option ℕ → Bool
moments_fit p (Some first) (Some last) = nat_le first last && nat_lt (last / p.ties / length p.sources) (end_of_times p)
moments_fit p (Some first) None = false
moments_fit p None (Some last) = false
moments_fit p None None = true
