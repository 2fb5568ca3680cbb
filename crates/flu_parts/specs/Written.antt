-- What a part command writes.
use Rattle.std.specs.Prelude.{◌≡◌, ℕ, Some, List, [], Contains}
use Rattle.flu_outside.specs.Outside.{Contents}
use Rattle.flu_model.specs.declared.jobs.Program.{Program}
use Rattle.flu_model.specs.declared.plans.Node.{Node}
use Rattle.flu_streams.specs.Files.{files_of}
use Rattle.flu_node_run.specs.Partials.{IsPartialOf}
use Rattle.flu_combine.specs.Combined.{IsCombined}
use Rattle.flu_words.specs.Parts.{PartCommand, Partial, Combine}
use Rattle.flu_command.specs.Wants.{texts_named}
use Rattle.flu_parts.specs.Planned.{texts_of, behind, IsPlanned, IsNodeApart}

-- none of some names is the file of a source
abbrev pub AreNoSources : List (List ℕ) → Program → Type 0
AreNoSources names p = (name : List ℕ) → Contains names name → ¬ Contains (files_of p.sources) name

-- THE TEXT THAT IT WRITES, of what the files have once its job and its plan were read: the partial of its node, of the sources that this one needs, or
-- the report that is combined
abbrev pub IsTextOf : PartCommand → Program → List Node → List ℕ → Contents → Contents → Type 0
IsTextOf (Partial job plan node) p nodes text left now = (w : ℕ) × IsNodeApart p nodes node w × IsPartialOf p nodes w text left now
IsTextOf (Combine job plan partials) p nodes text left now = AreNoSources partials p × IsCombined p nodes partials text left now

-- nothing refuses it, its texts were read to their ends as was all that is behind them, and this is what it writes
pub record IsWritten (command : PartCommand) (text : List ℕ) (left now : Contents) : Type 0 where
  pub p : Program
  pub nodes : List Node
  pub planned : IsPlanned command left p nodes
  pub ends : (name : List ℕ) → Contains (texts_named (texts_of command)) name → now name ≡ Some []
  pub is : IsTextOf command p nodes text (behind command left) now
