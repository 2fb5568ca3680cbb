-- The parts that were read of an entry, and what was read of a checkpoint.
use Rattle.std.specs.Prelude.{◌≡◌, ◌≢◌, ℕ, pos, List, Option, Some, None, FitsSigned, ⊤}
use Rattle.std.specs.Int.{w128}
use Rattle.flu_model.specs.declared.events.Worth.{Worth}
use Rattle.flu_model.specs.declared.events.Worth.TheVariants.{Sum, Max, Last}
use Rattle.flu_model.specs.Contents.{Contents}
use Rattle.flu_cells.specs.declared.state.State.{State}
use Rattle.flu_cells.specs.Holding.{held}
use Rattle.flu_save.specs.declared.entries.Entry.{Entry}
use Rattle.flu_save.specs.declared.reading.Saved.{Saved}

-- the parts of an entry
abbrev pub AreParts : Option Entry → List ℕ → ℕ → List ℕ → Type 0
AreParts None family key value = ⊥
AreParts (Some e) family key value = (e.family.now ≡ family) × (e.key ≡ key) × (e.value.now ≡ value)

-- a value that is not neutral
abbrev pub IsProper : Worth → Type 0
IsProper (Sum n) = (n ≢ pos 0) × FitsSigned w128 n
IsProper (Max v) = ⊤
IsProper (Last v) = ⊤

-- a state with these contents
abbrev pub IsStateWith : Option State → Contents → Type 0
IsStateWith None s = ⊥
IsStateWith (Some t) s = held t ≡ s

-- this border, and a state with these contents
abbrev pub IsSavedWith : Option Saved → ℕ → Contents → Type 0
IsSavedWith None t s = ⊥
IsSavedWith (Some saved) t s = (saved.border ≡ t) × (held saved.state ≡ s)
