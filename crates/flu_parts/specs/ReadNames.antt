-- Which names a part command reads.
use Rattle.std.specs.Prelude.{◌≡◌, ℕ, Option, List, Contains, IfSome, ◌⊎◌, Ok}
use Rattle.flu_outside.specs.Outside.{Contents}
use Rattle.flu_model.specs.declared.jobs.Program.{Program}
use Rattle.flu_model.specs.declared.plans.Node.{Node}
use Rattle.flu_model.specs.Modes.{IsAccepted}
use Rattle.flu_model.specs.Validity.{IsValid}
use Rattle.flu_streams.specs.Files.{files_of}
use Rattle.flu_selected.specs.Gathering.{IsRead}
use Rattle.flu_readers.specs.Reading.{reads}
use Rattle.flu_combine.specs.Combined.{IsReadBeside}
use Rattle.flu_words.specs.Parts.{PartCommand, Partial, Combine, part_in}
use Rattle.flu_command.specs.Done.{IsReadName}
use Rattle.flu_parts.specs.Planned.{texts_of, behind, IsPlanned, IsNodeApart}
use Rattle.flu_parts.specs.Written.{AreNoSources}

-- a job and a plan that may be the command's, as far as the files are known
pub record MayBePlanned (left : Option Contents) (command : PartCommand) (p : Program) (nodes : List Node) : Type 0 where
  pub accepted : IsAccepted p
  pub valid : IsValid p nodes
  pub planned : IfSome left (λ contents. IsPlanned command contents p nodes)

-- the file of a source that is read: if the files are known, of one that the node needs, or that has events inside none of the partials' nodes
abbrev pub IsReadSource : PartCommand → Program → List Node → Option Contents → List ℕ → Type 0
IsReadSource (Partial job plan node) p nodes left name =
    Contains (files_of p.sources) name × ((w : ℕ) × IsNodeApart p nodes node w × IfSome left (λ contents. IsRead p (reads p nodes w) name))
IsReadSource (Combine job plan partials) p nodes left name =
    Contains (files_of p.sources) name × AreNoSources partials p
    × IfSome left (λ contents. IsReadBeside p nodes partials (behind (Combine job plan partials) contents) name)

-- a partial's name
abbrev pub IsPartialName : PartCommand → Program → List ℕ → Type 0
IsPartialName (Partial job plan node) p name = ⊥
IsPartialName (Combine job plan partials) p name = AreNoSources partials p × Contains partials name

-- a name that is read behind the job and the plan
pub record IsBehind (left : Option Contents) (command : PartCommand) (name : List ℕ) : Type 0 where
  pub p : Program
  pub nodes : List Node
  pub may : MayBePlanned left command p nodes
  pub named : IsPartialName command p name ⊎ IsReadSource command p nodes left name

-- A NAME THAT IT READS: of its job, of its plan, of a partial, or the file of a source
abbrev pub IsReadPart : Option Contents → PartCommand → List ℕ → Type 0
IsReadPart left command name = IsReadName left (texts_of command) name ⊎ IsBehind left command name

-- a name that a call with some words reads
abbrev pub IsReadByPart : List (List ℕ) → Option Contents → List ℕ → Type 0
IsReadByPart words left name = (command : PartCommand) × (part_in words ≡ Ok command) × IsReadPart left command name
