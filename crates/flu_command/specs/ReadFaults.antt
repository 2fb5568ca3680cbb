-- What is true if a read fault ends a command: no fault was met in what was taken.
use Rattle.std.specs.Prelude.{◌≡◌, ℕ, false, List, ◌∷◌, ◌++◌, Option}
use Rattle.flu_outside.specs.Outside.{Contents, WhereTold, Rose}
use Rattle.flu_outside.specs.Taking.{TookAtMost}
use Rattle.flu_model.specs.declared.jobs.Program.{Program}
use Rattle.flu_model.specs.Moments.{timing_of}
use Rattle.flu_model.specs.Rules.{is_clock}
use Rattle.flu_model.specs.declared.jobs.Source.{Source}
use Rattle.flu_rows.specs.declared.rows.Next.{Next}
use Rattle.flu_rows.specs.Lines.{IsUndecided}
use Rattle.flu_model.specs.Erasure.{job_of}
use Rattle.flu_rows.specs.Row.{form_of}
use Rattle.flu_rows.specs.Reading.{Place, ahead}
use Rattle.flu_streams.specs.Faults.{StopsWithout}
use Rattle.flu_words.specs.Words.{Command}
use Rattle.flu_command.specs.Behind.{Named, HasJob, job_files, emptied_each}
use Rattle.flu_command.specs.Reading.{Whole, InRounds, lines_behind}
use Rattle.flu_command.specs.Openings.{Opening}
use Rattle.flu_command.specs.Starting.{StartsFrom}
use Rattle.flu_command.specs.Unfinished.{Unfinished, IsUnfinished}
use Rattle.flu_command.specs.Wants.{job_wanted, how_read, job_and_plan_named, texts_named}
use Rattle.flu_command.specs.Done.{IsPlanName, IsCheckpointName, IsSourceFile, IsTraceName}

-- the sources of the command's job before the one with this file have no defect, nor have the rows that were read of that one, and what
-- else was taken of it decides nothing
pub record HidesNoDefect (command : Command) (name : List ℕ) (old new : Option Contents) : Type 0 where
  pub p : Program
  pub earlier : List Source
  pub source : Source
  pub later : List Source
  pub split : p.sources ≡ earlier ++ (source ∷ later)
  pub has_file : is_clock source ≡ false
  pub named : source.file ≡ name
  pub read : List Next
  pub place : Place
  pub form : place.form ≡ form_of (job_of p)
  pub file : place.file ≡ source.file
  pub undecided : IsUndecided place.taken
  pub told : WhereTold old new (λ was is. HasJob (job_wanted command) was p
      × StopsWithout (timing_of p) (form_of (job_of p)) p.kinds earlier source read (ahead place is) (emptied_each (texts_named command) was))

-- the command can start, and the round in which the source with this file failed is unfinished: the rows that were read of it have no
-- defect, and are not enough
pub record HidesNoRow (command : Command) (name : List ℕ) (old new : Option Contents) : Type 0 where
  pub p : Program
  pub o : Opening
  pub round : Unfinished p o.rows
  pub named : round.source.file ≡ name
  pub told : WhereTold old new (λ was is. HasJob (job_wanted command) was p × StartsFrom command was p o
      × IsUnfinished p o round (lines_behind (texts_named command) was p) is)

-- A NAME THAT IS READ FAILED, AND NO FAULT WAS MET: what is read before it has none; a job's text, a plan's or a checkpoint, which is
-- judged once it is whole, was not too long yet; and no row that was read of the sources has a defect
pub data HasReadFault (command : Command) (old new : Option Contents) (before now : List ℕ → ℕ) : Type 0 where
  InJob : (name : List ℕ) → job_wanted command ≡ Named name → Rose (before name) (now name)
      → WhereTold old new (TookAtMost name 1048576) → HasReadFault command old new before now
  InPlan : (name : List ℕ) → IsPlanName old command name → Rose (before name) (now name)
      → WhereTold old new (λ was is. TookAtMost name 1048576 (emptied_each (job_files (job_wanted command)) was) is)
      → HasReadFault command old new before now
  InCheckpoint : (name : List ℕ) → IsCheckpointName old command name → Rose (before name) (now name)
      → WhereTold old new (λ was is. TookAtMost name 536870912 (emptied_each (job_and_plan_named command) was) is)
      → HasReadFault command old new before now
  InSources : (name : List ℕ) → IsSourceFile old command name → how_read command ≡ Whole → Rose (before name) (now name)
      → HidesNoDefect command name old new → HasReadFault command old new before now
  InRows : (name : List ℕ) → IsSourceFile old command name → how_read command ≡ InRounds → Rose (before name) (now name)
      → HidesNoRow command name old new → HasReadFault command old new before now
  InTrace : (name : List ℕ) → IsTraceName old command name → Rose (before name) (now name) → HasReadFault command old new before now
