-- The status that a part command and its files call for, and what holds if nothing failed.
use Rattle.std.specs.Prelude.{◌≡◌, ℕ, Option, Some, List, ◌⊎◌, Ok}
use Rattle.flu_outside.specs.Outside.{Contents, Rose}
use Rattle.flu_model.specs.declared.jobs.Program.{Program}
use Rattle.flu_model.specs.declared.plans.Node.{Node}
use Rattle.flu_streams.specs.declared.faults.SourceFault.{SourceFault}
use Rattle.flu_lines.specs.declared.parts.NodeDefect.{NodeDefect}
use Rattle.flu_lines.specs.declared.parts.FileDefect.{FileDefect}
use Rattle.flu_words.specs.Parts.{PartCommand, Partial, Combine, part_in}
use Rattle.flu_command.specs.Calling.{CallsFor}
use Rattle.flu_command.specs.Outside.{Outside, Faults}
use Rattle.flu_parts.specs.Planned.{texts_of, behind, IsPlanned}
use Rattle.flu_parts.specs.Written.{IsTextOf}
use Rattle.flu_parts.specs.Causes.{IsNodeDefect, IsFileDefect, IsSourceDefect}
use Rattle.flu_parts.specs.ReadNames.{IsReadPart}
use Rattle.flu_parts.specs.Outcome.{PartOutcome, PartFaultsFirst}

-- its job is accepted and its plan is valid, and this holds of each program and of each plan that their texts are read as
pub record CallsBehind (command : PartCommand) (left : Contents) (Holds : Program → List Node → Type 0) : Type 0 where
  pub p : Program
  pub nodes : List Node
  pub planned : IsPlanned command left p nodes
  pub holds : (q : Program) (others : List Node) → IsPlanned command left q others → Holds q others

-- ---- what its node, its partials and its sources are
-- something can be written
abbrev pub HasText : PartCommand → Contents → Program → List Node → Type 0
HasText command left p nodes = (text : List ℕ) × (now : Contents) × IsTextOf command p nodes text (behind command left) now

-- the node that it names has a defect
abbrev pub HasNodeRefused : PartCommand → Program → List Node → Type 0
HasNodeRefused (Partial job plan node) p nodes = (why : NodeDefect) × IsNodeDefect p nodes node why
HasNodeRefused (Combine job plan partials) p nodes = ⊥

-- one of the files that it names has the first defect
abbrev pub HasFileRefused : PartCommand → Contents → Program → List Node → Type 0
HasFileRefused (Partial job plan node) left p nodes = ⊥
HasFileRefused (Combine job plan partials) left p nodes =
    (place : ℕ) × (why : FileDefect) × IsFileDefect p nodes partials (behind (Combine job plan partials) left) place why

-- a source that it reads has the first defect
abbrev pub HasSourceRefused : PartCommand → Contents → Program → List Node → Type 0
HasSourceRefused command left p nodes = (fault : SourceFault) × IsSourceDefect command p nodes (behind command left) fault

-- THE STATUS that a part command and the files call for if nothing fails: that of what refuses `valid JOB PLAN`, or behind it that of its node, of its
-- partials or of its sources, or 0
pub data PartCallsFor (command : PartCommand) (left : Contents) (status : ℕ) : Type 0 where
  Good : status ≡ 0 → CallsBehind command left (HasText command left) → PartCallsFor command left status
  FaultyTexts : (status ≡ 3) ⊎ (status ≡ 4) ⊎ (status ≡ 5) → CallsFor (texts_of command) left status → PartCallsFor command left status
  FaultyNode : status ≡ 5 → CallsBehind command left (HasNodeRefused command) → PartCallsFor command left status
  FaultyFile : status ≡ 14 → CallsBehind command left (HasFileRefused command left) → PartCallsFor command left status
  FaultySource : status ≡ 6 → CallsBehind command left (HasSourceRefused command left) → PartCallsFor command left status

-- LAW: a part command and its files call for one status at most
abbrev pub PartCallsForOneStatus : Type 0
PartCallsForOneStatus = (command : PartCommand) (left : Contents) (a b : ℕ) → PartCallsFor command left a → PartCallsFor command left b → a ≡ b

-- no name that the command reads failed, nor did out
pub record NoPartFailed (command : PartCommand) (left : Option Contents) (before now : Faults) : Type 0 where
  pub files : (name : List ℕ) → IsReadPart left command name → ¬ Rose (before.takes name) (now.takes name)
  pub out : ¬ Rose before.out now.out

-- IT COMPLETES: if nothing failed, the status is the one that the command and the files call for, or the one for out of memory
abbrev pub PartCompletes : List (List ℕ) → Option Contents → Faults → Faults → ℕ → Type 0
PartCompletes words told before now status =
    (command : PartCommand) (left : Contents) (wanted : ℕ) → part_in words ≡ Ok command → told ≡ Some left
    → NoPartFailed command told before now → PartCallsFor command left wanted
    → (status ≡ wanted) ⊎ (status ≡ 9)

-- LAW: that a call completes follows from its outcome, if 7 and 8 come only from faults of the outside
abbrev pub PartsCompleteByFaults : Type 0
PartsCompleteByFaults =
    (words : List (List ℕ)) (old new : Outside) (status : ℕ) (before now : Faults) → PartOutcome words old new status
    → PartFaultsFirst words old.left before now status → PartCompletes words old.left before now status
