-- When no step is enabled.
use Rattle.std.specs.Prelude.{◌≡◌, ℕ, false, Some, List, slice_get}
use Rattle.flu_worker.specs.Keeping.{HasRule}
use Rattle.flu_worker.specs.Notes.{WorkerNote}
use Rattle.flu_net.specs.declared.steps.Step.{Step}
use Rattle.flu_net.specs.Enabled.{is_enabled}
use Rattle.flu_net.specs.Notes.{NetNote}

-- each worker keeps its own rule
abbrev pub AllKeep : List WorkerNote → Type 0
AllKeep workers = (w : ℕ) (v : WorkerNote) → slice_get workers w ≡ Some v → HasRule v

-- QUIET: no step is enabled
abbrev pub IsQuiet : NetNote → Type 0
IsQuiet n = (s : Step) → is_enabled n s ≡ false
