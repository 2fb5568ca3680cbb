-- PROGRAMS OF ONE JOB differ only in where the boxes of their expressions lie in memory. So the same is read of the same selected sources.
use Rattle.std.specs.Prelude.{◌≡◌, ℕ, Bool, List}
use Rattle.flu_model.specs.declared.jobs.Program.{Program}
use Rattle.flu_model.specs.Erasure.{IsSameJob}
use Rattle.flu_selected.specs.Gathering.{IsRead}
use Rattle.flu_selected.specs.Laws.{closed_files, selected, read_ranks, first_read_fault}

-- where the same sources are read, the same files are closed, the rows stand in the same places, and the same fault is the first
pub record SelectTheSame (p q : Program) : Type 0 where
  pub closed : closed_files p ≡ closed_files q
  pub files : selected p ≡ selected q
  pub ranks : read_ranks p ≡ read_ranks q
  pub faults : first_read_fault p ≡ first_read_fault q
  pub read : (is_read : ℕ → Bool) (name : List ℕ) → IsRead p is_read name → IsRead q is_read name

-- LAW OF JOBS
abbrev pub JobsSelectTheSame : Type 0
JobsSelectTheSame = (p q : Program) → IsSameJob p q → SelectTheSame p q
