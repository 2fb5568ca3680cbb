-- PROGRAMS OF ONE JOB differ only in where the boxes of their expressions lie in memory. So the same is read of the same files.
use Rattle.std.specs.Prelude.{◌≡◌, List}
use Rattle.flu_model.specs.declared.jobs.Kind.{Kind}
use Rattle.flu_model.specs.declared.jobs.Program.{Program}
use Rattle.flu_model.specs.declared.moments.Timing.{Timing}
use Rattle.flu_model.specs.Erasure.{IsSameJob}
use Rattle.flu_rows.specs.declared.row.RowForm.{RowForm}
use Rattle.flu_streams.specs.Good.{lists_of_rows, ranks_in, first_fault_beside, lists_beside}
use Rattle.flu_streams.specs.Rounds.{defect_in}
use Rattle.flu_streams.specs.Tests.{first_defect}

-- the first defect of a file is the same, so is that of some lines, and so are the lists of items of rows
pub record ReadRowsAlike (kinds others : List Kind) : Type 0 where
  pub defects : (timing : Timing) (form : RowForm) → first_defect timing form kinds ≡ first_defect timing form others
  pub in_lines : (timing : Timing) → defect_in timing kinds ≡ defect_in timing others
  pub lists : (timing : Timing) → lists_of_rows timing kinds ≡ lists_of_rows timing others

-- and so are the first fault of all sources and the lists of items of all itags
pub record ReadTheSame (p q : Program) : Type 0 where
  pub rows : ReadRowsAlike p.kinds q.kinds
  pub ranks : ranks_in p ≡ ranks_in q
  pub faults : first_fault_beside p ≡ first_fault_beside q
  pub lists : lists_beside p ≡ lists_beside q

-- LAW OF JOBS
abbrev pub JobsReadTheSame : Type 0
JobsReadTheSame = (p q : Program) → IsSameJob p q → ReadTheSame p q
