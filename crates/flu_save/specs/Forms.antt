-- Which bytes are a checkpoint, and which of the faults they have else.
use Rattle.std.specs.Prelude.{◌≡◌, ◌≢◌, ℕ, ◌+◌, ◌<◌, ◌≤◌, ◌^◌, ◌⊎◌, Some, List, length, codes, option_map, IsUtf8, ⊤}
use Rattle.serde_json.specs.Data.{Data, number, unsigned, string, array, Items}
use Rattle.serde_json.specs.Events.{members_len}
use Rattle.serde_json.specs.Find.{get, as_object}
use Rattle.serde_json.specs.Read.{read}
use Rattle.flu_model.specs.declared.jobs.Program.{Program}
use Rattle.flu_model.specs.Contents.{Contents}
use Rattle.flu_model.specs.Erasure.{job_of}
use Rattle.flu_parse.specs.Printing.{normal_form}
use Rattle.flu_save.specs.declared.fault.SaveFault.{SaveFault}
use Rattle.flu_save.specs.declared.fault.SaveFault.TheVariants.{OverLimit, NotJson, WrongForm, OtherJob, NoMemory}
use Rattle.flu_save.specs.Checkpoint.{IsCheckpoint}

-- how many bytes a checkpoint may have
abbrev pub most_bytes : ℕ
most_bytes = 536870912

-- the normal form of a job has so few bytes that each of its checkpoints is read
abbrev pub HasShortText : Program → Type 0
HasShortText p = length (normal_form (job_of p)) ≤ 26214400

-- the bytes are UTF-8 and a JSON text of this value
abbrev pub IsJsonOf : List ℕ → Data → Type 0
IsJsonOf bytes d = IsUtf8 bytes × (read bytes ≡ Some d)

-- an object with just three members: a border in range, a list and a text
pub record HasParts (d : Data) (t : ℕ) (entries : Items) (job : List ℕ) : Type 0 where
  pub three : option_map members_len (as_object d) ≡ Some 3
  pub border : get (codes "border") d ≡ Some (number (unsigned t))
  pub cells : get (codes "cells") d ≡ Some (array entries)
  pub text : get (codes "job") d ≡ Some (string job)
  pub in_range : t < 2 ^ 63

-- it has such parts, and this text
pub record IsOfJob (d : Data) (job : List ℕ) : Type 0 where
  pub border : ℕ
  pub entries : Items
  pub parts : HasParts d border entries job

abbrev pub HasForm : Data → Type 0
HasForm d = (job : List ℕ) × IsOfJob d job

-- A CHECKPOINT IN BYTES, of a border and a state
pub record IsSave (p : Program) (t : ℕ) (s : Contents) (bytes : List ℕ) : Type 0 where
  pub short : length bytes ≤ most_bytes
  pub value : Data
  pub json : IsJsonOf bytes value
  pub checkpoint : IsCheckpoint p t s value

-- the value is no checkpoint, though its three members are there and its text is the job's
pub record HasWrongEntries (p : Program) (d : Data) : Type 0 where
  pub job : IsOfJob d (normal_form (job_of p))
  pub none : (t : ℕ) (s : Contents) → IsCheckpoint p t s d → ⊥

-- the value has the three members, and its text is not the job's
pub record HasOtherJob (p : Program) (d : Data) : Type 0 where
  pub job : List ℕ
  pub parts : IsOfJob d job
  pub other : job ≢ normal_form (job_of p)

abbrev pub IsShort : List ℕ → Type 0
IsShort bytes = length bytes ≤ most_bytes

-- WHY BYTES ARE NO CHECKPOINT: in this order, each if no earlier one applies
abbrev pub IsFaultOf : Program → List ℕ → SaveFault → Type 0
IsFaultOf p bytes (OverLimit count) = (most_bytes < length bytes) × (count ≡ most_bytes + 1)
IsFaultOf p bytes NotJson = IsShort bytes × ((d : Data) → IsJsonOf bytes d → ⊥)
IsFaultOf p bytes WrongForm = IsShort bytes × ((d : Data) × IsJsonOf bytes d × ((HasForm d → ⊥) ⊎ HasWrongEntries p d))
IsFaultOf p bytes OtherJob = IsShort bytes × ((d : Data) × IsJsonOf bytes d × HasOtherJob p d)
IsFaultOf p bytes NoMemory = ⊤
