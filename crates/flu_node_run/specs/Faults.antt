-- Why the partial of a node was not written.
use Rattle.std.specs.Prelude.{◌≡◌, ◌<◌, ℕ, Bool, length, Option, Some, [], ⊤}
use Rattle.flu_model.specs.declared.jobs.Program.{Program}
use Rattle.flu_outside.specs.Outside.{Contents, WhereTold}
use Rattle.flu_streams.specs.declared.faults.GatherFault.{GatherFault}
use Rattle.flu_streams.specs.declared.faults.GatherFault.TheVariants.{Source as SourceFaulty, ReadFault as ReadFaulty, NoMemory as NoMemoryThere}
use Rattle.flu_selected.specs.Laws.{first_read_fault}
use Rattle.flu_node_run.specs.declared.faults.PartFault.{PartFault}
use Rattle.flu_node_run.specs.declared.faults.PartFault.TheVariants.{Source, ReadFault, WriteFault, NoMemory}

-- a fault of the reading is reported as what it is
abbrev pub fault_of_reading : GatherFault → PartFault
fault_of_reading (SourceFaulty f) = Source f
fault_of_reading ReadFaulty = ReadFault
fault_of_reading NoMemoryThere = NoMemory

-- a fault of a source is the first of the sources that are read, and names a declared source
abbrev pub IsFirstPartFault : Program → (ℕ → Bool) → Option Contents → Option Contents → PartFault → Type 0
IsFirstPartFault p is_read left left' (Source f) =
    (f.source < length p.sources) × WhereTold left left' (λ was now. first_read_fault p [] is_read was ≡ Some f)
IsFirstPartFault p is_read left left' ReadFault = ⊤
IsFirstPartFault p is_read left left' WriteFault = ⊤
IsFirstPartFault p is_read left left' NoMemory = ⊤
