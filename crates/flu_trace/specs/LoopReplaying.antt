-- What is still to come in a replay in progress.
use Rattle.std.specs.Prelude.{◌≡◌, ℕ, ◌+◌, List, [], ◌∷◌, ◌++◌, Option, MatchOption, ⊤}
use Rattle.flu_lemmas.specs.Named.{Contents, bytes_left}
use Rattle.flu_lemmas.specs.Lines.{lines_of}
use Rattle.flu_fork.specs.declared.content.Content.{Content}
use Rattle.flu_net.specs.declared.steps.Step.{Step}
use Rattle.flu_net.specs.Final.{IsFinal}
use Rattle.flu_net.specs.Rule.{IsWell}
use Rattle.flu_trace.specs.declared.faults.ReplayFault.{ReplayFault}
use Rattle.flu_trace.specs.declared.faults.ReplayFault.TheVariants.{Bad, NotEnabled, Incomplete, ReadFault, NoMemory}
use Rattle.flu_outside.specs.declared.lines.Found.{Found}
use Rattle.flu_outside.specs.declared.lines.Found.TheVariants.{Last}
use Rattle.flu_trace.specs.declared.replaying.Replaying.{Replaying}
use Rattle.flu_trace.specs.Lines.{IsLineOf}
use Rattle.flu_trace.specs.Replaying.{Ending, Ends, IsReplayed}

-- how a replay in this state ends, if this is left of the files
abbrev pub EndsFrom : List ℕ → Replaying → Contents → Ending → Type 0
EndsFrom name r left ending = Ends r.lines (lines_of (r.held ++ bytes_left left name)) r.net ending

-- however the later replay ends, the earlier one ends in the same way
abbrev pub GoesOn : List ℕ → Replaying → Replaying → Contents → Contents → Type 0
GoesOn name old new before now = (ending : Ending) → EndsFrom name new now ending → EndsFrom name old before ending

-- the same, from the first byte of the trace
abbrev pub IsReplayedBy : Content → List ℕ → Replaying → Contents → Contents → Type 0
IsReplayedBy k name r before now = (ending : Ending) → EndsFrom name r now ending → IsReplayed k (bytes_left before name) ending

-- what a line says: a step, or none
abbrev pub Says : Option Step → List ℕ → Type 0
Says said line = MatchOption said ((s : Step) → ¬ IsLineOf s line) (λ s. IsLineOf s line)

-- the bytes begin with a line, which says the step or none; after a good line follow the bytes held then, and those still to come
pub record BeginsWith (said : Option Step) (held rest coming : List ℕ) : Type 0 where
  pub line : List ℕ
  pub lines : List (List ℕ)
  pub cut : lines_of (held ++ coming) ≡ line ∷ lines
  pub says : Says said line
  pub behind : (s : Step) → IsLineOf s line → lines ≡ lines_of (rest ++ coming)

-- nothing comes after the bytes that are held, if these are the last
abbrev pub MayCome : Found → List ℕ → Type 0
MayCome found coming = found ≡ Last → coming ≡ []

-- a fault at the end: the net is not final, or memory ran out
abbrev pub IsEndFault : Replaying → ReplayFault → Type 0
IsEndFault r (Bad line) = ⊥
IsEndFault r (NotEnabled line) = ⊥
IsEndFault r (Incomplete line) = (line ≡ r.lines + 1) × ¬ IsFinal r.net × IsWell r.net
IsEndFault r ReadFault = ⊥
IsEndFault r NoMemory = ⊤
