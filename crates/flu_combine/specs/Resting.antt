-- What reading the sources beside partials, and joining what was sent, gives.
use Rattle.std.specs.Prelude.{◌≡◌, ℕ, ◌<◌, true, not, Option, Some, None, List, [], length, position, ⊤}
use Rattle.flu_model.specs.declared.events.Event.{Event}
use Rattle.flu_model.specs.declared.jobs.Program.{Program}
use Rattle.flu_model.specs.declared.plans.Node.{Node}
use Rattle.flu_model.specs.Reports.{report}
use Rattle.flu_outside.specs.Outside.{Contents, WhereTold}
use Rattle.flu_contribution.specs.Contributions.{Contribution}
use Rattle.flu_contribution.specs.Sending.{joined_from}
use Rattle.flu_streams.specs.Files.{files_of, OneRose}
use Rattle.flu_selected.specs.Gathering.{IsRead, ReadRose}
use Rattle.flu_selected.specs.Laws.{first_read_fault}
use Rattle.flu_readers.specs.Reading.{reads_rest, rest_read}
use Rattle.flu_joining.specs.Joining.{are_used_up, events_of_none, is_last_alone, nothing_joined, waiting_behind}
use Rattle.flu_combine.specs.declared.fault.CombineFault.{CombineFault}
use Rattle.flu_combine.specs.declared.fault.CombineFault.TheVariants as combine
use Rattle.flu_combine.specs.declared.fault.PartialDefect.TheVariants.{LeftOver}

-- what was sent is used up, and this is the report
pub record IsJoined (p : Program) (queues : List (List Contribution)) (ys : List Event) (text : List ℕ) : Type 0 where
  pub used_up : are_used_up queues ys ≡ true
  pub is : text ≡ report p (joined_from p nothing_joined queues ys).outputs

-- the queue at that place is the first that is not used up
abbrev pub IsLeftOver : List (List Contribution) → List Event → ℕ → Type 0
IsLeftOver queues ys place = position (λ ks. not (is_last_alone ks)) (waiting_behind queues ys) ≡ Some place

-- why what was sent is not joined
abbrev pub IsJoinFault : List (List Contribution) → List Event → CombineFault → Type 0
IsJoinFault queues ys (combine.Partial place defect) = (defect ≡ LeftOver) × IsLeftOver queues ys place
IsJoinFault queues ys (combine.Source fault) = ⊥
IsJoinFault queues ys combine.ReadFault = ⊥
IsJoinFault queues ys combine.WriteFault = ⊥
IsJoinFault queues ys combine.NoMemory = ⊤

-- the events inside none of the nodes, where clocks tick among the rows of the nodes too, as told
abbrev pub events_beside : Program → List Node → List ℕ → List ℕ → Contents → List Event
events_beside p nodes ws told left = events_of_none p nodes ws (rest_read p nodes ws told left)

-- the sources were read, and what was sent was joined
pub record IsRest (p : Program) (nodes : List Node) (ws told : List ℕ) (queues : List (List Contribution)) (text : List ℕ) (old new : Contents)
    : Type 0 where
  pub good : first_read_fault p told (reads_rest p nodes ws) old ≡ None
  pub joined : IsJoined p queues (events_beside p nodes ws told old) text
  pub ends : (name : List ℕ) → IsRead p (reads_rest p nodes ws) name → new name ≡ Some []

-- the sources were read, and what was sent is not used up
pub record IsRestLeftOver (p : Program) (nodes : List Node) (ws told : List ℕ) (queues : List (List Contribution)) (place : ℕ) (old : Contents)
    : Type 0 where
  pub good : first_read_fault p told (reads_rest p nodes ws) old ≡ None
  pub left_over : IsLeftOver queues (events_beside p nodes ws told old) place

-- why there is no report
abbrev pub IsRestFault : Program → List Node → List ℕ → List ℕ → List (List Contribution) → Option Contents → Option Contents → (List ℕ → ℕ) → (List ℕ → ℕ)
    → CombineFault → Type 0
IsRestFault p nodes ws told queues old new before now (combine.Partial place defect) =
    (defect ≡ LeftOver) × (place < length queues) × WhereTold old new (λ was then. IsRestLeftOver p nodes ws told queues place was)
IsRestFault p nodes ws told queues old new before now (combine.Source fault) =
    (fault.source < length p.sources) × WhereTold old new (λ was then. first_read_fault p told (reads_rest p nodes ws) was ≡ Some fault)
IsRestFault p nodes ws told queues old new before now combine.ReadFault =
    OneRose (files_of p.sources) before now × ReadRose p (reads_rest p nodes ws) old before now
IsRestFault p nodes ws told queues old new before now combine.WriteFault = ⊥
IsRestFault p nodes ws told queues old new before now combine.NoMemory = ⊤
