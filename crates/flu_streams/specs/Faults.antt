-- What a fault of the sources says: the first defect of all, and that a read fault hides none.
use Rattle.std.specs.Prelude.{◌≡◌, ◌<◌, ℕ, false, Option, Some, None, List, [], ◌∷◌, ◌++◌, length, ⊤}
use Rattle.flu_model.specs.Erasure.{job_of}
use Rattle.flu_model.specs.declared.jobs.Kind.{Kind}
use Rattle.flu_model.specs.declared.jobs.Source.{Source}
use Rattle.flu_model.specs.declared.jobs.Program.{Program}
use Rattle.flu_model.specs.declared.moments.Timing.{Timing}
use Rattle.flu_model.specs.Moments.{timing_of}
use Rattle.flu_model.specs.Rules.{is_clock}
use Rattle.flu_outside.specs.Outside.{Contents, WhereTold, Rose}
use Rattle.flu_rows.specs.declared.row.RowForm.{RowForm}
use Rattle.flu_rows.specs.declared.rows.Next.{Next}
use Rattle.flu_rows.specs.Row.{form_of}
use Rattle.flu_rows.specs.Lines.{IsUndecided}
use Rattle.flu_rows.specs.Reading.{Place, ahead}
use Rattle.flu_streams.specs.declared.faults.GatherFault.{GatherFault}
use Rattle.flu_streams.specs.declared.faults.GatherFault.TheVariants.{Source as SourceFaulty, ReadFault, NoMemory}
use Rattle.flu_streams.specs.Before.{each_with_before, first_some}
use Rattle.flu_streams.specs.Tests.{first_of}
use Rattle.flu_streams.specs.Good.{lines_in, items_held, fault_of_source, first_fault_beside}

-- the lines that a source had are what was read of it, and what is still to be read
abbrev pub WasRead : RowForm → Source → List Next → List Next → Contents → Type 0
WasRead form s read behind old = lines_in form old s ≡ read ++ behind

-- some sources have no defect, nor do the rows that were read of the next one, before what is still to be read
pub record StopsWithout (timing : ℕ
    → Timing) (form : RowForm) (kinds : List Kind) (earlier : List Source) (s : Source) (read behind : List Next) (left : Contents) : Type 0 where
  pub good : first_some (λ e. fault_of_source timing form kinds left e.0 e.1) (each_with_before earlier) ≡ None
  pub passes : first_of (timing (length earlier)) kinds s (items_held form left earlier) read ≡ None
  pub was : WasRead form s read behind left

-- A read fault hides nothing that was taken: the sources before the one whose file failed are good, and the reading of that one
-- stops after rows without a defect; whatever else was taken of it decides nothing.
pub record HidesNothing (p : Program) (old new : Option Contents) (before now : List ℕ → ℕ) : Type 0 where
  pub earlier : List Source
  pub source : Source
  pub later : List Source
  pub split : p.sources ≡ earlier ++ (source ∷ later)
  pub has_file : is_clock source ≡ false
  pub rose : Rose (before source.file) (now source.file)
  pub read : List Next
  pub place : Place
  pub form : place.form ≡ form_of (job_of p)
  pub file : place.file ≡ source.file
  pub undecided : IsUndecided place.taken
  pub told : WhereTold old new (λ was now. StopsWithout (timing_of p) (form_of (job_of p)) p.kinds earlier source read (ahead place now) was)

-- a fault of a source is the first of all, and names a declared source; clocks tick among rows elsewhere too that stand there
abbrev pub IsFirstFaultBeside : Program → List ℕ → Option Contents → Option Contents → GatherFault → Type 0
IsFirstFaultBeside p beside left left' (SourceFaulty f) =
    (f.source < length p.sources) × WhereTold left left' (λ was now. first_fault_beside p beside was ≡ Some f)
IsFirstFaultBeside p beside left left' ReadFault = ⊤
IsFirstFaultBeside p beside left left' NoMemory = ⊤

abbrev pub IsFirstFault : Program → Option Contents → Option Contents → GatherFault → Type 0
IsFirstFault p left left' fault = IsFirstFaultBeside p [] left left' fault
