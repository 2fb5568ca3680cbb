-- A reading's fault as a round's.
use Rattle.flu_streams.specs.declared.faults.GatherFault.{GatherFault}
use Rattle.flu_streams.specs.declared.faults.GatherFault.TheVariants.{Source as SourceFaulty, ReadFault as ReadFaulty, NoMemory as NoMemoryThere}
use Rattle.flu_rounds.specs.declared.faults.RoundsFault.{RoundsFault}
use Rattle.flu_rounds.specs.declared.faults.RoundsFault.TheVariants.{Source, ReadFault, NoMemory}

-- each is reported as what it is
abbrev pub fault_of_refill : GatherFault → RoundsFault
fault_of_refill (SourceFaulty f) = Source f
fault_of_refill ReadFaulty = ReadFault
fault_of_refill NoMemoryThere = NoMemory
