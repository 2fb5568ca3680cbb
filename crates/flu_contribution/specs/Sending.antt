-- WHAT IS SENT of a node's contributions, and the fold that joins what was sent at its place.
use Rattle.std.specs.Prelude.{ℕ, Bool, false, not, is_some, ◌==◌, ◌&&◌, Option, None, Some, List, [], ◌∷◌, map, if◌then◌else◌}
use Rattle.std.specs.List.{filter}
use Rattle.flu_model.specs.declared.events.Event.{Event}
use Rattle.flu_model.specs.declared.jobs.Program.{Program}
use Rattle.flu_model.specs.declared.plans.Node.{Node}
use Rattle.flu_model.specs.Contents.{Contents}
use Rattle.flu_laws.specs.Consistency.{outside}
use Rattle.flu_contribution.specs.Contributions.{Contribution}
use Rattle.flu_contribution.specs.Combining.{Combined, with_first, without_first, with_effect, is_kept_by_one}

-- a contribution of no event that is to be joined before an event: it has no cells and no outputs
abbrev pub is_idle : Contribution → Bool
is_idle k = (k.count == 0) && is_some k.before

-- WHAT IS SENT: the contributions of some event, and the last one
abbrev pub sent : List Contribution → List Contribution
sent ks = filter (λ k. not (is_idle k)) ks

-- an event is the one before which something is to be joined: it has the same time and itag
abbrev pub is_named : Option Event → Event → Bool
is_named None y = false
is_named (Some x) y = (x.time == y.time) && (x.itag.0 == y.itag.0)

-- the first that waits is to be joined before the event
abbrev pub is_due : List Contribution → Event → Bool
is_due [] y = false
is_due (k ∷ ks) y = is_named k.before y

-- the first that waits in each queue is joined, if it is due before the event
abbrev pub with_due : Event → Combined → List (List Contribution) → Combined
with_due y r [] = r
with_due y r (ks ∷ queues) = with_due y (if is_due ks y then with_first r ks else r) queues

abbrev pub without_due : Event → List (List Contribution) → List (List Contribution)
without_due y queues = map (λ ks. if is_due ks y then without_first ks else ks) queues

-- at the end the first that waits in each queue is joined
abbrev pub with_last : Combined → List (List Contribution) → Combined
with_last r [] = r
with_last r (ks ∷ queues) = with_last (with_first r ks) queues

-- THE FOLD THAT JOINS WHAT WAS SENT: before each event what is due in each queue, and at the end the first of each
abbrev pub joined_from : Program → Combined → List (List Contribution) → List Event → Combined
joined_from p r queues [] = with_last r queues
joined_from p r queues (y ∷ ys) = joined_from p (with_effect p (with_due y r queues) y) (without_due y queues) ys

-- the combined fold before the first event: the opening state without what the nodes keep of it
abbrev pub start_of : Program → List Node → List ℕ → Contents → Combined
start_of p nodes ws opening = record { cells = outside (is_kept_by_one p nodes ws) opening; outputs = [] }
