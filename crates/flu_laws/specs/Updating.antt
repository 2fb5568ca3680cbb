-- What an update depends on, and what it does to each cell.
use Rattle.std.specs.Prelude.{◌≡◌, false, Option, None, List}
use Rattle.flu_model.specs.declared.events.Cell.{Cell}
use Rattle.flu_model.specs.declared.events.Event.{Event}
use Rattle.flu_model.specs.declared.events.Item.{Item}
use Rattle.flu_model.specs.declared.events.Worth.{Worth}
use Rattle.flu_model.specs.declared.jobs.Program.{Program}
use Rattle.flu_model.specs.Contents.{Contents, joined_worth}
use Rattle.flu_model.specs.Folding.{final_state}
use Rattle.flu_model.specs.Updates.{effect_of}
use Rattle.flu_model.specs.Sorts.{MayHold, IsStateOf}
use Rattle.flu_laws.specs.Changes.{Keep, applied, change_of}
use Rattle.flu_laws.specs.Uses.{needs, writes, mode_at, AgreeOnNeeds}

-- the texts depend on the cells alone that the event needs
abbrev pub TextsAreLocal : Type 0
TextsAreLocal =
    (p : Program) (s t : Contents) (x : Event) → AgreeOnNeeds p x s t → (effect_of p s x).texts ≡ (effect_of p t x).texts

-- what becomes of a cell depends on it and on the cells that the event needs
abbrev pub CellsAreLocal : Type 0
CellsAreLocal =
    (p : Program) (s t : Contents) (x : Event) (c : Cell) → AgreeOnNeeds p x s t → s c ≡ t c → (effect_of p s x).cells c ≡ (effect_of p t x).cells c

-- the change of a cell, so each amount that is added and each level that is reached, depends on the cells alone that the event needs
abbrev pub ChangesAreLocal : Type 0
ChangesAreLocal =
    (p : Program) (s t : Contents) (x : Event) (c : Cell) → AgreeOnNeeds p x s t → change_of p s x c ≡ change_of p t x c

-- an update makes its change of each cell, and nothing else
abbrev pub UpdatesAreChanges : Type 0
UpdatesAreChanges =
    (p : Program) (s : Contents) (x : Event) (c : Cell) → IsStateOf p.families s → (effect_of p s x).cells c ≡ applied (change_of p s x c) (s c)

-- an update keeps a state's cells and values to the families of the job
abbrev pub KeepsSorts : Type 0
KeepsSorts = (p : Program) (s : Contents) (x : Event) → IsStateOf p.families s → IsStateOf p.families (effect_of p s x).cells

-- so does a fold
abbrev pub FoldKeepsSorts : Type 0
FoldKeepsSorts =
    (p : Program) (opening : Contents) (lists : List (List Item))
    → IsStateOf p.families opening → IsStateOf p.families (final_state p opening lists)

-- ---- changes of one cell

-- an event does nothing to a cell that it does not write, as one that it only reads
abbrev pub UnwrittenKeeps : Type 0
UnwrittenKeeps = (p : Program) (s : Contents) (x : Event) (c : Cell) → writes (mode_at p x c) ≡ false → change_of p s x c ≡ Keep

-- a change leaves in a cell what it may hold
abbrev pub ChangesKeepSorts : Type 0
ChangesKeepSorts =
    (p : Program) (s : Contents) (x : Event) (c : Cell) (w : Option Worth)
    → IsStateOf p.families s → MayHold p.families c w → MayHold p.families c (applied (change_of p s x c) w)

-- a change by an event that does not need the cell joins to what the cell holds what it makes of a neutral one
abbrev pub ChangesMix : Type 0
ChangesMix =
    (p : Program) (s : Contents) (x : Event) (c : Cell) (w : Option Worth)
    → needs (mode_at p x c) ≡ false → MayHold p.families c w → applied (change_of p s x c) w ≡ joined_worth w (applied (change_of p s x c) None)
