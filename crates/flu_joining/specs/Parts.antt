-- What the code of the fold holds.
use Rattle.std.specs.Prelude.{◌≡◌, Bool, Option, Some, None, List, [], ◌∷◌, map, slice_index_or, false}
use Rattle.flu_model.specs.declared.events.Event.{Event}
use Rattle.flu_contribution.specs.declared.contributing.Handed.{Handed}
use Rattle.flu_contribution.specs.Contributions.{Contribution}
use Rattle.flu_contribution.specs.Parts.{contribution_of}
use Rattle.flu_joining.specs.declared.queue.Queue.{Queue}

-- what waits in a queue, in order
abbrev pub waiting_in : Queue → List Contribution
waiting_in q = map contribution_of q.waiting.items

-- what waits in each queue
abbrev pub waiting_in_each : List Queue → List (List Contribution)
waiting_in_each qs = map waiting_in qs

-- the first that waits was taken, if one waits
abbrev pub IsFirstOf : List Contribution → List Contribution → Option Handed → Type 0
IsFirstOf old new None = (old ≡ []) × (new ≡ [])
IsFirstOf old new (Some k) = old ≡ contribution_of k ∷ new

-- a table has `true` at the itag of an event
abbrev pub has_itag : List Bool → Event → Bool
has_itag table x = slice_index_or table x.itag.0 false
