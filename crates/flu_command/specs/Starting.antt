-- Whether a run can start, from its opening; and what is left under the name that it saves to.
use Rattle.std.specs.Prelude.{◌≡◌, ◌≢◌, ℕ, false, List, ◌++◌, Contains, Option, Some, None, slice_get, ⊤}
use Rattle.flu_outside.specs.Outside.{Contents}
use Rattle.flu_outside.specs.Taking.{bytes_left}
use Rattle.flu_model.specs.declared.jobs.Source.{Source}
use Rattle.flu_model.specs.declared.jobs.Program.{Program}
use Rattle.flu_model.specs.Rules.{is_clock}
use Rattle.flu_save.specs.declared.fault.SaveFault.{SaveFault}
use Rattle.flu_save.specs.declared.fault.SaveFault.TheVariants as saves
use Rattle.flu_save.specs.Forms.{IsFaultOf}
use Rattle.flu_streams.specs.Files.{files_of}
use Rattle.flu_words.specs.Words.{Command}
use Rattle.flu_command.specs.Behind.{emptied_each}
use Rattle.flu_command.specs.Openings.{Opening, Opens}
use Rattle.flu_command.specs.Wants.{save_named, resume_named, rows_named, job_and_plan_named, texts_named}

-- ---- the opening
-- a name, if there is one, is not that of a source's file
abbrev pub IsNoSource : Option (List ℕ) → Program → Type 0
IsNoSource named p = (name : List ℕ) → named ≡ Some name → ¬ Contains (files_of p.sources) name

-- the names that a command saves to and is resumed from are not those of sources' files
pub record AreNoSources (command : Command) (p : Program) : Type 0 where
  pub save : IsNoSource (save_named command) p
  pub resume : IsNoSource (resume_named command) p

-- A COMMAND STARTS FROM THIS: its names are not those of sources' files, and the checkpoint that it is resumed from, if it is, is this
-- opening, which has the number of rows that it asks for
pub record StartsFrom (command : Command) (left : Contents) (p : Program) (o : Opening) : Type 0 where
  pub apart : AreNoSources command p
  pub opens : Opens (rows_named command) (resume_named command) (job_and_plan_named command) left p o

abbrev pub CanStart : Command → Contents → Program → Type 0
CanStart command left p = (o : Opening) × StartsFrom command left p o

-- ---- what refuses it
-- a name is the name of the file of the source with this number, which is no clock
abbrev pub IsFileOf : Option (List ℕ) → Program → ℕ → Type 0
IsFileOf named p number = (source : Source) × (slice_get p.sources number ≡ Some source) × (is_clock source ≡ false) × (named ≡ Some source.file)

-- a command saves to the file of this source, or is resumed from it; if it does both, this is the source that it saves to
pub data IsSameName (command : Command) (p : Program) (number : ℕ) : Type 0 where
  Saves : IsFileOf (save_named command) p number → IsSameName command p number
  Resumes : IsNoSource (save_named command) p → IsFileOf (resume_named command) p number → IsSameName command p number

-- the bytes under the name that a command is resumed from have this first fault
pub record HasBadCheckpoint (command : Command) (left : Contents) (p : Program) (fault : SaveFault) : Type 0 where
  pub apart : AreNoSources command p
  pub name : List ℕ
  pub named : resume_named command ≡ Some name
  pub is_fault : fault ≢ saves.NoMemory
  pub first : IsFaultOf p (bytes_left (emptied_each (job_and_plan_named command) left) name) fault

-- ---- what is left under the name that it saves to
-- as before: nothing was put there. If the name is one of the texts that are read, such as the checkpoint that a run is resumed from, it
-- has a suffix of what it had left
pub record IsAsBefore (texts : List (List ℕ)) (name : List ℕ) (old new : Contents) : Type 0 where
  pub end : (rest : List ℕ) → new name ≡ Some rest → (front : List ℕ) × (old name ≡ Some (front ++ rest))
  pub unread : ¬ Contains texts name → new name ≡ old name

-- this is there if it was put last, and what is there is as before if nothing was put
abbrev pub LeavesPut : Option (List ℕ) → List (List ℕ) → Option (List ℕ) → Contents → Contents → Type 0
LeavesPut None texts put old new = ⊤
LeavesPut (Some name) texts None old new = IsAsBefore texts name old new
LeavesPut (Some name) texts (Some checkpoint) old new = new name ≡ Some checkpoint

abbrev pub Leaves : Command → Option (List ℕ) → Contents → Contents → Type 0
Leaves command put old new = LeavesPut (save_named command) (texts_named command) put old new

-- whatever is there
abbrev pub LeavesAnything : Option (List ℕ) → Contents → Contents → Type 0
LeavesAnything put old new = ⊤
