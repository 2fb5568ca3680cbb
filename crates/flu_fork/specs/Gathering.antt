-- Sets of cells that grow.
use Rattle.std.specs.Prelude.{◌≡◌, ℕ, Bool, not, ◌==◌, ◌&&◌, ◌||◌, Option, Some, None, slice_get}
use Rattle.std.specs.List.{list_any}
use Rattle.flu_model.specs.declared.events.Cell.{Cell}
use Rattle.flu_model.specs.declared.jobs.Act.{Act}
use Rattle.flu_model.specs.declared.jobs.CellRef.{CellRef}
use Rattle.flu_model.specs.declared.jobs.Program.{Program}
use Rattle.flu_model.specs.Itags.{tag_of_itag}
use Rattle.flu_model.specs.Contents.{is_same_cell}
use Rattle.flu_model.specs.Modes.{means, action_reads, act_overwrites, act_adds, act_raises}
use Rattle.flu_model.specs.Updates.{actions_of}
use Rattle.flu_cells.specs.Sets.{is_in, is_in_but}
use Rattle.flu_cells.specs.declared.sets.CellSet.{CellSet}
use Rattle.flu_fork.specs.Classes.{itag}

-- what is in the set afterwards: what was in it, and the cells that pass the test
abbrev pub GrowsBy : CellSet → CellSet → (Cell → Bool) → Type 0
GrowsBy old new test = (c : Cell) → is_in new c ≡ (is_in old c || test c)

-- the same where the whole families of the set are without the cells of another set, which are not put in
abbrev pub GrowsBut : CellSet → CellSet → CellSet → (Cell → Bool) → Type 0
GrowsBut unless old new test = (c : Cell) → is_in_but unless new c ≡ (is_in_but unless old c || (not (is_in unless c) && test c))

-- of a reference, for a tag with this key: the one cell that it means, or none where it means its whole family
abbrev pub IsMeant : ℕ → CellRef → Option Cell → Type 0
IsMeant key r None = (c : Cell) → means key c r ≡ (c.family == r.family)
IsMeant key r (Some one) = (c : Cell) → means key c r ≡ is_same_cell one c

-- the act overwrites the cell, or it adds to it or raises it and these are asked for too
abbrev pub is_target : Bool → ℕ → Cell → Act → Bool
is_target mixed key c a = act_overwrites key c a || (mixed && (act_adds key c a || act_raises key c a))

-- some action of an itag's tag reads the cell
abbrev pub reads_by : Program → ℕ → Cell → Bool
reads_by p i c = let t = tag_of_itag p (itag i) in list_any (action_reads t.key c) (actions_of (slice_get p.kinds t.kind))
