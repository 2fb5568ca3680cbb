-- REPLAY: what the lines of a trace lead to, in order from the start of the net.
use Rattle.std.specs.Prelude.{◌≡◌, ℕ, ◌+◌, false, List, [], ◌∷◌, Option, Some, None}
use Rattle.flu_lemmas.specs.Lines.{lines_of}
use Rattle.flu_fork.specs.declared.content.Content.{Content}
use Rattle.flu_net.specs.declared.steps.Step.{Step}
use Rattle.flu_net.specs.Enabled.{is_enabled}
use Rattle.flu_net.specs.Final.{IsFinal}
use Rattle.flu_net.specs.Notes.{NetNote}
use Rattle.flu_net.specs.Rule.{IsWell}
use Rattle.flu_net.specs.Runs.{IsMade}
use Rattle.flu_net.specs.Starting.{IsStart}
use Rattle.flu_trace.specs.declared.faults.ReplayFault.{ReplayFault}
use Rattle.flu_trace.specs.declared.faults.ReplayFault.TheVariants as faults
use Rattle.flu_trace.specs.Lines.{IsLineOf}

-- how a replay ends: the net is final, or a line, counted from 1, is the first that stops it
pub data Ending : Type 0 where
  Complete : Ending
  Bad : ℕ → Ending
  NotEnabled : ℕ → Ending
  Incomplete : ℕ → Ending

-- how these lines end from a net, with this many lines before them: the first line that is not the line of a step is bad, the first whose step is not enabled
-- stops the replay, and if there are no more lines, it is complete exactly if the net is final. Each ending is reached in a net that keeps its rule
pub data Ends : ℕ → List (List ℕ) → NetNote → Ending → Type 0 where
  complete : {before : ℕ} {n : NetNote} → IsWell n → IsFinal n → Ends before [] n Complete
  incomplete : {before : ℕ} {n : NetNote} → IsWell n → ¬ IsFinal n → Ends before [] n (Incomplete (before + 1))
  bad : {before : ℕ} {line : List ℕ} {lines : List (List ℕ)} {n : NetNote} → IsWell n → ((s : Step) → ¬ IsLineOf s line)
      → Ends before (line ∷ lines) n (Bad (before + 1))
  not_enabled : {before : ℕ} {line : List ℕ} {lines : List (List ℕ)} {n : NetNote} {s : Step} → IsWell n → IsLineOf s line → is_enabled n s ≡ false
      → Ends before (line ∷ lines) n (NotEnabled (before + 1))
  made : {before : ℕ} {line : List ℕ} {lines : List (List ℕ)} {old new : NetNote} {s : Step} {ending : Ending} → IsLineOf s line → IsMade s old new
      → Ends (before + 1) lines new ending → Ends before (line ∷ lines) old ending

-- how a trace of these bytes ends, from the start of the net of a case
pub record IsReplayed (k : Content) (bytes : List ℕ) (ending : Ending) : Type 0 where
  pub net : NetNote
  pub start : IsStart k net
  pub ends : Ends 0 (lines_of bytes) net ending

-- the ending that a fault reports; a failed read and running out of memory report none
abbrev pub ending_of : ReplayFault → Option Ending
ending_of (faults.Bad line) = Some (Bad line)
ending_of (faults.NotEnabled line) = Some (NotEnabled line)
ending_of (faults.Incomplete line) = Some (Incomplete line)
ending_of faults.ReadFault = None
ending_of faults.NoMemory = None
