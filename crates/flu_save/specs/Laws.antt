-- Laws of checkpoints.
use Rattle.std.specs.Prelude.{◌≡◌, ◌≢◌, ℕ, ◌<◌, ◌≤◌, ◌^◌, List, length, IsUtf8}
use Rattle.flu_model.specs.declared.jobs.Program.{Program}
use Rattle.flu_model.specs.Contents.{Contents}
use Rattle.flu_model.specs.Erasure.{job_of, IsSameJob}
use Rattle.flu_parse.specs.Printing.{normal_form}
use Rattle.flu_save.specs.declared.fault.SaveFault.{SaveFault}
use Rattle.flu_save.specs.declared.fault.SaveFault.TheVariants.{NoMemory}
use Rattle.flu_save.specs.Checkpoint.{save, IsSavable}
use Rattle.flu_save.specs.Forms.{IsSave, IsFaultOf, HasShortText, most_bytes}

-- LAW OF FAULTS: bytes that have a fault are no checkpoint
abbrev pub LawOfFaults : Type 0
LawOfFaults =
    (p : Program) (bytes : List ℕ) (fault : SaveFault) → IsFaultOf p bytes fault → fault ≢ NoMemory
    → (t : ℕ) (s : Contents) → IsSave p t s bytes → ⊥

-- LAW OF ONE MEANING: bytes are a checkpoint of one border and one state at most
abbrev pub LawOfOneMeaning : Type 0
LawOfOneMeaning =
    (p : Program) (bytes : List ℕ) (t u : ℕ) (s r : Contents) → IsSave p t s bytes → IsSave p u r bytes → (t ≡ u) × (s ≡ r)

-- LAW OF SHORT TEXTS: the text of a checkpoint has no more bytes than are read, if the text of its job is short
abbrev pub LawOfShortTexts : Type 0
LawOfShortTexts =
    (p : Program) (t : ℕ) (s : Contents) → t < 2 ^ 63 → IsSavable p.families s → HasShortText p → length (save p t s) ≤ most_bytes

-- LAW OF SAVES: the text of a checkpoint is one, of its border and its state, if the text of its job is short and UTF-8
abbrev pub LawOfSaves : Type 0
LawOfSaves =
    (p : Program) (t : ℕ) (s : Contents) → t < 2 ^ 63 → IsSavable p.families s → HasShortText p → IsUtf8 (normal_form (job_of p))
    → IsSave p t s (save p t s)

-- so it has no fault
abbrev pub SavesHaveNoFault : Type 0
SavesHaveNoFault =
    (p : Program) (t : ℕ) (s : Contents) → t < 2 ^ 63 → IsSavable p.families s → HasShortText p → IsUtf8 (normal_form (job_of p))
    → (fault : SaveFault) → IsFaultOf p (save p t s) fault → fault ≡ NoMemory

-- and whatever its job, it is none of another border or another state
abbrev pub SavesMeanThemselves : Type 0
SavesMeanThemselves =
    (p : Program) (t u : ℕ) (s r : Contents) → t < 2 ^ 63 → IsSavable p.families s → IsSave p u r (save p t s) → (u ≡ t) × (r ≡ s)

-- LAW OF JOBS: programs that are the same job have the same checkpoints
abbrev pub SavesAreOfJobs : Type 0
SavesAreOfJobs = (p q : Program) → IsSameJob p q → (t : ℕ) (s : Contents) (bytes : List ℕ) → IsSave p t s bytes → IsSave q t s bytes
