-- Which cells hold values that have 64 bits, if they are maxima or last values.
use Rattle.std.specs.Prelude.{ℕ, ◌<◌, List, length, slice_index}
use Rattle.std.specs.List.{AllByRecursion}
use Rattle.flu_model.specs.declared.events.Cell.{Cell}
use Rattle.flu_model.specs.Contents.{Contents, cell}
use Rattle.flu_save.specs.Checkpoint.{HasWordWidth}

-- the cells of a family with these keys
abbrev pub HaveWordWidth : Contents → ℕ → List ℕ → Type 0
HaveWordWidth s family keys = (i : ℕ) → i < length keys → HasWordWidth (s (cell family (slice_index keys i)))

abbrev pub AllHaveWordWidth : Contents → List Cell → Type 0
AllHaveWordWidth s cells = AllByRecursion (λ (c : Cell). HasWordWidth (s c)) cells
