-- CHECKPOINTS: the JSON value of a border and a state of a job, and its text.
use Rattle.std.specs.Prelude.{◌≡◌, ℕ, ◌<◌, ◌^◌, ℤ, pos, Option, Some, None, List, map, length, slice_get, codes, FitsSigned, ⊤}
use Rattle.std.specs.Int.{w64}
use Rattle.std.specs.Fmt.{signed_decimal}
use Rattle.std.specs.List.{flat_map, range_with_len}
use Rattle.serde_json.specs.Data.{Data, number, unsigned, string, array, object, no_items, item, no_members, member}
use Rattle.serde_json.specs.View.{items_of}
use Rattle.serde_json.specs.Written.{compact_text}
use Rattle.flu_model.specs.declared.events.Cell.{Cell}
use Rattle.flu_model.specs.declared.events.Worth.{Worth}
use Rattle.flu_model.specs.declared.events.Worth.TheVariants.{Sum, Max, Last}
use Rattle.flu_model.specs.declared.jobs.Family.{Family}
use Rattle.flu_model.specs.declared.jobs.Program.{Program}
use Rattle.flu_model.specs.Contents.{Contents, cell, held_keys}
use Rattle.flu_model.specs.Erasure.{job_of}
use Rattle.flu_model.specs.Sorts.{IsStateOf}
use Rattle.flu_model.specs.Templates.{family_name}
use Rattle.flu_parse.specs.Printing.{normal_form}

-- the number that a cell holds; 0 if it is neutral
abbrev pub number_held : Option Worth → ℤ
number_held None = pos 0
number_held (Some (Sum n)) = n
number_held (Some (Max v)) = v
number_held (Some (Last v)) = v

-- AN ENTRY: `[FAMILY, KEY, "VALUE"]`
abbrev pub entry : List ℕ → ℕ → ℤ → Data
entry family key value = array (item (string family) (item (number (unsigned key)) (item (string (signed_decimal value)) no_items)))

-- the entry of a cell
abbrev pub entry_of : List Family → Contents → Cell → Data
entry_of families s c = entry (family_name (slice_get families c.family)) c.key (number_held (s c))

-- the cells of a family that hold something, by rising key
abbrev pub cells_of_family : Contents → ℕ → List Cell
cells_of_family s f = map (cell f) (held_keys s f)

-- those of all families, family by family as declared
abbrev pub cells_held : List Family → Contents → List Cell
cells_held families s = flat_map (cells_of_family s) (range_with_len 0 (length families))

-- THE ENTRIES OF A STATE: those of its cells that are not neutral, by rising family and key
abbrev pub entries_of : List Family → Contents → List Data
entries_of families s = map (entry_of families s) (cells_held families s)

-- THE VALUE OF A CHECKPOINT: its border, the entries of its state and the normal form of its job
abbrev pub checkpoint : Program → ℕ → Contents → Data
checkpoint p t s =
    object (member (codes "border") (number (unsigned t))
    (member (codes "cells") (array (items_of (entries_of p.families s)))
    (member (codes "job") (string (normal_form (job_of p))) no_members)))

-- THE TEXT OF A CHECKPOINT, without blanks
abbrev pub save : Program → ℕ → Contents → List ℕ
save p t s = compact_text (checkpoint p t s)

-- maxima and last values have 64 bits
abbrev pub HasWordWidth : Option Worth → Type 0
HasWordWidth None = ⊤
HasWordWidth (Some (Sum n)) = ⊤
HasWordWidth (Some (Max v)) = FitsSigned w64 v
HasWordWidth (Some (Last v)) = FitsSigned w64 v

-- A STATE THAT CAN BE SAVED: of the job's sorts, with values that fit them
pub record IsSavable (families : List Family) (s : Contents) : Type 0 where
  pub sorts : IsStateOf families s
  pub width : (c : Cell) → HasWordWidth (s c)

-- A CHECKPOINT OF A JOB: the value of a border from 0 to 2^63 - 1 and a state of the job's sorts
pub record IsCheckpoint (p : Program) (t : ℕ) (s : Contents) (d : Data) : Type 0 where
  pub border : t < 2 ^ 63
  pub state : IsSavable p.families s
  pub value : d ≡ checkpoint p t s
