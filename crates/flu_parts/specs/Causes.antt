-- What refuses a part command, in order: what refuses `valid JOB PLAN`; the node that it names, or a name of a partial; a partial; a source.
use Rattle.std.specs.Prelude.{◌≡◌, ℕ, ◌<◌, ◌&&◌, not, Bool, Option, Some, None, List, [], length, position, slice_index_or, option_map}
use Rattle.std.specs.List.{list_any}
use Rattle.std.specs.Str.{bytes_eq}
use Rattle.flu_outside.specs.Outside.{Contents, WhereTold}
use Rattle.flu_model.specs.declared.jobs.Program.{Program}
use Rattle.flu_model.specs.declared.jobs.Source.{Source}
use Rattle.flu_model.specs.declared.plans.Node.{Node}
use Rattle.flu_model.specs.Modes.{IsAccepted}
use Rattle.flu_model.specs.Rules.{is_clock}
use Rattle.flu_model.specs.Validity.{IsValid}
use Rattle.flu_apart.specs.Apart.{IsFirstReason}
use Rattle.flu_streams.specs.declared.faults.SourceFault.{SourceFault}
use Rattle.flu_streams.specs.Files.{files_of, OneRose}
use Rattle.flu_selected.specs.Laws.{first_read_fault}
use Rattle.flu_selected.specs.Gathering.{ReadRose, HidesNoReadDefect}
use Rattle.flu_readers.specs.Reading.{reads}
use Rattle.flu_combine.specs.Faults.{IsFaultOfPartial, IsFaultOfSource}
use Rattle.flu_combine.specs.Partials.{node_named}
use Rattle.flu_combine.specs.Faults as combine
use Rattle.flu_lines.specs.declared.parts.NodeDefect.{NodeDefect}
use Rattle.flu_lines.specs.declared.parts.NodeDefect.TheVariants.{Unknown, NotApart}
use Rattle.flu_lines.specs.declared.parts.FileDefect.{FileDefect}
use Rattle.flu_lines.specs.declared.parts.FileDefect.TheVariants.{SameName, Partial as PartialDefect}
use Rattle.flu_words.specs.Parts.{PartCommand, Partial, Combine}
use Rattle.flu_command.specs.ReadFaults.{HasReadFault}
use Rattle.flu_parts.specs.Planned.{texts_of, behind, IsPlanned, IsNodeApart}
use Rattle.flu_parts.specs.Written.{AreNoSources}

-- ---- the node of `partial`
-- what is wrong with a name of a node: the plan has none of that name; or it may not be apart, for this first reason
abbrev pub IsNodeDefect : Program → List Node → List ℕ → NodeDefect → Type 0
IsNodeDefect p nodes name Unknown = node_named nodes name ≡ None
IsNodeDefect p nodes name (NotApart u reason) = (node_named nodes name ≡ Some u) × IsFirstReason p nodes u reason

-- the node that the command names has this defect, as a node of its plan
abbrev pub HasNodeDefect : PartCommand → Option Contents → Option Contents → Program → List Node → List ℕ → NodeDefect → Type 0
HasNodeDefect (Partial job plan node) old new p nodes name why =
    (name ≡ node) × IsNodeDefect p nodes node why × WhereTold old new (λ left now. IsPlanned (Partial job plan node) left p nodes)
HasNodeDefect (Combine job plan partials) old new p nodes name why = ⊥

-- ---- the partials of `combine`
-- whether a source has the file of a name; a clock has none
abbrev pub has_file : List ℕ → Source → Bool
has_file name s = not (is_clock s) && bytes_eq name s.file

-- whether a name is the file of one of some sources
abbrev pub is_file_of : List Source → List ℕ → Bool
is_file_of sources name = list_any (has_file name) sources

-- the first of some names that is the file of a source stands at this place, and this is the first source that has it
pub record IsSameName (p : Program) (names : List (List ℕ)) (place number : ℕ) : Type 0 where
  pub first : position (is_file_of p.sources) names ≡ Some place
  pub source : position (has_file (slice_index_or names place [])) p.sources ≡ Some number

-- what is wrong with the file at a place, of what the names have left: it is the file of a source; or no name is, and it is the first partial with a
-- defect, which is this one
abbrev pub IsFileDefect : Program → List Node → List (List ℕ) → Contents → ℕ → FileDefect → Type 0
IsFileDefect p nodes names left place (SameName number) = IsSameName p names place number
IsFileDefect p nodes names left place (PartialDefect defect) = AreNoSources names p × IsFaultOfPartial p nodes names left place defect

-- one of the files that the command names has this defect: it stands at a place, and this is its name
abbrev pub HasFileDefect : PartCommand → Option Contents → Option Contents → Program → List Node → List ℕ → FileDefect → Type 0
HasFileDefect (Partial job plan node) old new p nodes name why = ⊥
HasFileDefect (Combine job plan partials) old new p nodes name why =
    (place : ℕ) × (place < length partials) × (slice_index_or partials place [] ≡ name)
    × WhereTold old new (λ left now. IsPlanned (Combine job plan partials) left p nodes
    × IsFileDefect p nodes partials (behind (Combine job plan partials) left) place why)

-- ---- the sources
-- the first defect of the sources that are read, of what their files have left
abbrev pub IsSourceDefect : PartCommand → Program → List Node → Contents → SourceFault → Type 0
IsSourceDefect (Partial job plan node) p nodes left fault = (w : ℕ) × IsNodeApart p nodes node w × (first_read_fault p [] (reads p nodes w) left ≡ Some fault)
IsSourceDefect (Combine job plan partials) p nodes left fault = AreNoSources partials p × IsFaultOfSource p nodes partials left fault

pub record HasSourceDefect (command : PartCommand) (old new : Option Contents) (p : Program) (fault : SourceFault) : Type 0 where
  pub nodes : List Node
  pub source : fault.source < length p.sources
  pub first : WhereTold old new (λ left now. IsPlanned command left p nodes × IsSourceDefect command p nodes (behind command left) fault)

-- ---- a read fault: one that a count tells, and no defect was met in what was taken
abbrev pub IsReadFaultBehind : PartCommand → Program → List Node → Option Contents → Option Contents → (List ℕ → ℕ) → (List ℕ → ℕ) → Type 0
IsReadFaultBehind (Partial job plan node) p nodes left new before now =
    (w : ℕ) × IsNodeApart p nodes node w × OneRose (files_of p.sources) before now × ReadRose p (reads p nodes w) left before now
    × HidesNoReadDefect p (reads p nodes w) left new before now
IsReadFaultBehind (Combine job plan partials) p nodes left new before now =
    AreNoSources partials p × combine.IsReadFault p nodes partials left new before now × combine.HidesNoPartialDefect p nodes partials left new before now

-- it was met in the job's text or the plan's, as in `valid JOB PLAN`; or behind them, where the job is accepted and the plan is valid for it
pub data HasFailedRead (command : PartCommand) (old new : Option Contents) (before now : List ℕ → ℕ) : Type 0 where
  InTexts : HasReadFault (texts_of command) old new before now → HasFailedRead command old new before now
  Behind : (p : Program) (nodes : List Node) → IsAccepted p → IsValid p nodes → WhereTold old new (λ left now. IsPlanned command left p nodes)
      → IsReadFaultBehind command p nodes (option_map (behind command) old) new before now → HasFailedRead command old new before now
