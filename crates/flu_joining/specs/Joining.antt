-- WHAT IS LEFT OF QUEUES: what waits in each of them behind the events that one who combines goes through, and which queues are used up.
use Rattle.std.specs.Prelude.{◌≡◌, ℕ, Bool, false, not, is_some, position, Some, List, [], ◌∷◌, ⊤}
use Rattle.std.specs.List.{list_all, filter}
use Rattle.flu_model.specs.declared.events.Event.{Event}
use Rattle.flu_model.specs.declared.events.Item.{Item}
use Rattle.flu_model.specs.declared.jobs.Program.{Program}
use Rattle.flu_model.specs.declared.plans.Node.{Node}
use Rattle.flu_model.specs.Contents.{nothing_held}
use Rattle.flu_model.specs.Merging.{merged}
use Rattle.flu_contribution.specs.Combining.{Combined, is_of_none}
use Rattle.flu_contribution.specs.Contributions.{Contribution}
use Rattle.flu_contribution.specs.Sending.{without_due}
use Rattle.flu_joining.specs.declared.fault.JoinFault.{JoinFault}
use Rattle.flu_joining.specs.declared.fault.JoinFault.TheVariants.{LeftOver, NoMemory}

-- what waits in each queue behind some events
abbrev pub waiting_behind : List (List Contribution) → List Event → List (List Contribution)
waiting_behind queues [] = queues
waiting_behind queues (y ∷ ys) = waiting_behind (without_due y queues) ys

-- only what is joined at the end waits: one contribution, which names no event
abbrev pub is_last_alone : List Contribution → Bool
is_last_alone [] = false
is_last_alone (k ∷ []) = not (is_some k.before)
is_last_alone (k ∷ j ∷ ks) = false

-- ALL OF IT IS JOINED: each queue has come to its last contribution behind the events
abbrev pub are_used_up : List (List Contribution) → List Event → Bool
are_used_up queues ys = list_all is_last_alone (waiting_behind queues ys)

-- the events that one who combines goes through
abbrev pub events_of_none : Program → List Node → List ℕ → List (List Item) → List Event
events_of_none p nodes ws lists = filter (is_of_none p nodes ws) (merged lists)

-- the fold before the first event, from the empty state: no cell holds anything, and there are no outputs
abbrev pub nothing_joined : Combined
nothing_joined = record { cells = nothing_held; outputs = [] }

-- WHY NOTHING IS GIVEN: the first queue that is not used up behind the events, by its place; nothing is said of want of memory
abbrev pub IsFaultOf : List (List Contribution) → List Event → JoinFault → Type 0
IsFaultOf queues ys (LeftOver place) = position (λ ks. not (is_last_alone ks)) (waiting_behind queues ys) ≡ Some place
IsFaultOf queues ys NoMemory = ⊤
