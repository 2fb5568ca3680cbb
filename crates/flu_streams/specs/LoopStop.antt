-- Why the reading of a source stops.
use Rattle.std.specs.Prelude.{◌≡◌, ℕ, ◌+◌, ◌^◌, Bool, Option, Some, None, if◌then◌else◌, ⊤}
use Rattle.flu_outside.specs.declared.files.TakeFault.{TakeFault}
use Rattle.flu_outside.specs.declared.files.TakeFault.TheVariants.{Failed, NoMemory as NoMemoryTaken}
use Rattle.flu_rows.specs.declared.rows.Next.{Next}
use Rattle.flu_rows.specs.declared.rows.Next.TheVariants.{Row as RowNext, Bad, TooManyLines, Done}
use Rattle.flu_streams.specs.declared.faults.GatherFault.{GatherFault}
use Rattle.flu_streams.specs.declared.faults.GatherFault.TheVariants.{Source as SourceFaulty, ReadFault, NoMemory as NoMemoryFault}
use Rattle.flu_streams.specs.declared.faults.Why.{Why}
use Rattle.flu_streams.specs.declared.faults.Why.TheVariants.{BadRow, Unclosed, AfterEnd, TooMany}
use Rattle.flu_streams.specs.declared.stop.RowRefusal.{RowRefusal}
use Rattle.flu_streams.specs.declared.stop.RowRefusal.TheVariants.{Fault, NoMemory}
use Rattle.flu_streams.specs.declared.stop.Stop.{Stop}
use Rattle.flu_streams.specs.declared.stop.Stop.TheVariants.{Defect, ReadFault as ReadStop, NoMemory as NoMemoryStop}

-- a refusal because memory ran out, or for this fault
abbrev pub IsRefusal : Option Why → RowRefusal → Type 0
IsRefusal fault (Fault why) = fault ≡ Some why
IsRefusal fault NoMemory = ⊤

abbrev pub stop_of : TakeFault → Stop
stop_of Failed = ReadStop
stop_of NoMemoryTaken = NoMemoryStop

-- a row is refused
abbrev pub stop_at : ℕ → RowRefusal → Stop
stop_at line (Fault why) = Defect line why
stop_at line NoMemory = NoMemoryStop

-- the defect of what is no row, by whether the source has ended
abbrev pub defect_behind : Bool → Next → Option (ℕ × Why)
defect_behind ended (RowNext line row) = None
defect_behind ended (Bad line) = Some (line, (if ended then AfterEnd else BadRow))
defect_behind ended TooManyLines = Some (2 ^ 32, TooMany (2 ^ 32))
defect_behind ended (Done lines) = if ended then None else Some (lines + 1, Unclosed)

-- the fault of the source with a number
abbrev pub fault_of_stop : ℕ → Stop → GatherFault
fault_of_stop number (Defect row why) = SourceFaulty (record { source = number; row = row; why = why })
fault_of_stop number ReadStop = ReadFault
fault_of_stop number NoMemoryStop = NoMemoryFault
