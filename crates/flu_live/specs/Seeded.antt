-- THE SEEDED SCHEDULE: which step a seed draws at each moment, and what is counted of the run of these steps.
use Rattle.std.specs.Prelude.{◌≡◌, ℕ, ◌+◌, ◌*◌, ◌%◌, ◌^◌, Some, List, [], ◌∷◌, ◌++◌, length, slice_get}
use Rattle.flu_draw.specs.Draws.{next_draw, draw_of}
use Rattle.flu_fork.specs.declared.content.Content.{Content}
use Rattle.flu_net.specs.declared.steps.Step.{Step}
use Rattle.flu_net.specs.declared.steps.Step.TheVariants.{Arrive, Handle, Ask, Take, Give, Hold, Lend}
use Rattle.flu_net.specs.Effects.{Makes}
use Rattle.flu_net.specs.Final.{IsFinal}
use Rattle.flu_net.specs.Notes.{NetNote}
use Rattle.flu_net.specs.Starting.{IsStart}
use Rattle.flu_live.specs.declared.counts.StepCounts.{StepCounts}
use Rattle.flu_live.specs.Possible.{enabled_steps}

-- ---- numbers

-- the place, from 0, that a drawn number selects among this many steps
unfoldable pub place_of : ℕ → ℕ → ℕ
place_of x count = draw_of x % count

-- the mark, after the step at a place was made
unfoldable pub marked : ℕ → ℕ → ℕ
marked mark place = (mark * 33 + place) % 2 ^ 32

-- ---- how many steps of each kind

abbrev pub no_steps : StepCounts
no_steps = record { arrive = 0; handle = 0; ask = 0; take = 0; give = 0; hold = 0; lend = 0 }

abbrev pub counting : Step → StepCounts → StepCounts
counting (Arrive i) c = record c { arrive = c.arrive + 1 }
counting (Handle w) c = record c { handle = c.handle + 1 }
counting (Ask w s) c = record c { ask = c.ask + 1 }
counting (Take w s) c = record c { take = c.take + 1 }
counting (Give w) c = record c { give = c.give + 1 }
counting (Hold w) c = record c { hold = c.hold + 1 }
counting (Lend w s) c = record c { lend = c.lend + 1 }

-- ---- runs

-- the step that the number x draws from a net, at this place among those that are enabled
pub record IsDrawn (n : NetNote) (x place : ℕ) (s : Step) : Type 0 where
  pub at : place ≡ place_of x (length (enabled_steps n))
  pub is : slice_get (enabled_steps n) place ≡ Some s

-- the nets that a seed leads to, each with the steps that were made, the number drawn last, how many steps of each kind these are, and the mark
pub data Reaches (k : Content) (seed : ℕ) : NetNote → List Step → ℕ → StepCounts → ℕ → Type 0 where
  begun : {n : NetNote} → IsStart k n → Reaches k seed n [] seed no_steps 0
  made : {old new : NetNote} {done : List Step} {x place : ℕ} {s : Step} {steps : StepCounts} {mark : ℕ} → Reaches k seed old done x steps mark
      → IsDrawn old (next_draw x) place s → Makes s old new → Reaches k seed new (done ++ s ∷ []) (next_draw x) (counting s steps) (marked mark place)

-- these are the steps of a whole run, with how many of each kind there are and the mark: in the end no step is enabled, and the net is final
pub record IsWholeRun (k : Content) (seed : ℕ) (done : List Step) (steps : StepCounts) (mark : ℕ) : Type 0 where
  pub net : NetNote
  pub last : ℕ
  pub run : Reaches k seed net done last steps mark
  pub ended : enabled_steps net ≡ []
  pub is_final : IsFinal net

-- a whole run has this many steps of each kind, and this mark
pub record IsSeeded (k : Content) (seed : ℕ) (steps : StepCounts) (mark : ℕ) : Type 0 where
  pub done : List Step
  pub run : IsWholeRun k seed done steps mark

-- these are the steps of a whole run, in their order
pub record IsTrace (k : Content) (seed : ℕ) (done : List Step) : Type 0 where
  pub steps : StepCounts
  pub mark : ℕ
  pub run : IsWholeRun k seed done steps mark
