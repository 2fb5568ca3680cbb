-- THE COMBINED FOLD: the fold over the events inside none of some nodes, into which the contributions of these nodes are joined.
use Rattle.std.specs.Prelude.{ℕ, Bool, true, not, List, [], ◌∷◌, ◌++◌, map, if◌then◌else◌}
use Rattle.std.specs.List.{list_any, filter}
use Rattle.flu_model.specs.declared.events.Cell.{Cell}
use Rattle.flu_model.specs.declared.events.Event.{Event}
use Rattle.flu_model.specs.declared.events.Out.{Out}
use Rattle.flu_model.specs.declared.jobs.Program.{Program}
use Rattle.flu_model.specs.declared.plans.Node.{Node}
use Rattle.flu_model.specs.Contents.{Contents, join}
use Rattle.flu_model.specs.Folding.{outputs_with}
use Rattle.flu_model.specs.Updates.{effect_of}
use Rattle.flu_laws.specs.Consistency.{outside}
use Rattle.flu_contribution.specs.Contributions.{keeps, is_inside, is_above, Contribution, contributions}

-- a state, and the outputs so far
pub record Combined : Type 0 where
  pub cells : Contents
  pub outputs : List Out

-- a node, and its contributions that are not joined yet, in order
pub record Queue : Type 0 where
  pub node : ℕ
  pub waiting : List Contribution

-- A CONTRIBUTION JOINED: cell by cell to the state, and its outputs behind those so far
abbrev pub with_contribution : Combined → Contribution → Combined
with_contribution r k = record { cells = join r.cells k.cells; outputs = r.outputs ++ k.outputs }

-- the first that waits, if one does
abbrev pub with_first : Combined → List Contribution → Combined
with_first r [] = r
with_first r (k ∷ ks) = with_contribution r k

abbrev pub without_first : List Contribution → List Contribution
without_first [] = []
without_first (k ∷ ks) = ks

-- the first of each queue whose node passes a test
abbrev pub with_firsts : (ℕ → Bool) → Combined → List Queue → Combined
with_firsts test r [] = r
with_firsts test r (q ∷ qs) = with_firsts test (if test q.node then with_first r q.waiting else r) qs

abbrev pub without_firsts : (ℕ → Bool) → List Queue → List Queue
without_firsts test qs = map (λ (q : Queue). if test q.node then record { node = q.node; waiting = without_first q.waiting } else q) qs

-- an event's effect on the state, and its outputs behind those so far
abbrev pub with_effect : Program → Combined → Event → Combined
with_effect p r y = let e = effect_of p r.cells y in record { cells = e.cells; outputs = r.outputs ++ outputs_with p y e.texts }

-- from a state on: before each event the next contribution of each node that the event is above is joined, and at the end all last ones
abbrev pub combined_from : Program → List Node → Combined → List Queue → List Event → Combined
combined_from p nodes r queues [] = with_firsts (λ w. true) r queues
combined_from p nodes r queues (y ∷ ys) =
    let above : ℕ → Bool = λ w. is_above p nodes w y in
    combined_from p nodes (with_effect p (with_firsts above r queues) y) (without_firsts above queues) ys

-- the event is inside none of the nodes
abbrev pub is_of_none : Program → List Node → List ℕ → Event → Bool
is_of_none p nodes ws x = not (list_any (λ w. is_inside p nodes w x) ws)

-- one of the nodes keeps the cell
abbrev pub is_kept_by_one : Program → List Node → List ℕ → Cell → Bool
is_kept_by_one p nodes ws c = list_any (λ w. keeps p nodes w c) ws

-- THE COMBINED FOLD of some events from an opening state, of which each of the nodes has the cells that it keeps
abbrev pub combined : Program → List Node → List ℕ → Contents → List Event → Combined
combined p nodes ws opening xs =
    combined_from p nodes (record { cells = outside (is_kept_by_one p nodes ws) opening; outputs = [] })
    (map (λ w. record { node = w; waiting = contributions p nodes w opening xs }) ws)
    (filter (is_of_none p nodes ws) xs)
