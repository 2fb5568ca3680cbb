-- CONTRIBUTIONS: what the events of a node's subtree do, cut at the events that an ancestor of the node owns. Handled apart from all other
-- events, they are a list of amounts and outputs, each of which can be joined later.
use Rattle.std.specs.Prelude.{ℕ, ◌+◌, Bool, true, false, Option, Some, None, List, [], ◌∷◌, ◌++◌, if◌then◌else◌}
use Rattle.flu_model.specs.declared.events.Cell.{Cell}
use Rattle.flu_model.specs.declared.events.Event.{Event}
use Rattle.flu_model.specs.declared.events.Out.{Out}
use Rattle.flu_model.specs.declared.jobs.Program.{Program}
use Rattle.flu_model.specs.declared.plans.Node.{Node}
use Rattle.flu_model.specs.Contents.{Contents}
use Rattle.flu_model.specs.Folding.{outputs_with}
use Rattle.flu_model.specs.Owners.{subtree_owns, ancestors_own}
use Rattle.flu_model.specs.Updates.{effect_of}
use Rattle.flu_laws.specs.Consistency.{within, outside}
use Rattle.flu_apart.specs.declared.classes.Class.{Class}
use Rattle.flu_apart.specs.declared.classes.Class.TheVariants.{Unused, Kept, Contributed, Shared}
use Rattle.flu_apart.specs.Classes.{class_of}

-- ---- the cells and the events of a node

abbrev pub is_class_kept : Class → Bool
is_class_kept Unused = false
is_class_kept Kept = true
is_class_kept Contributed = false
is_class_kept Shared = false

-- the node keeps the cell: the cell's class for it is Kept
abbrev pub keeps : Program → List Node → ℕ → Cell → Bool
keeps p nodes w c = is_class_kept (class_of p nodes w c)

-- INSIDE: the node or one below it owns the event's itag
abbrev pub is_inside : Program → List Node → ℕ → Event → Bool
is_inside p nodes w x = subtree_owns p nodes w x.itag

-- ABOVE: a proper ancestor of the node owns it
abbrev pub is_above : Program → List Node → ℕ → Event → Bool
is_above p nodes w x = ancestors_own p nodes w x.itag

-- ---- contributions

-- A CONTRIBUTION: what some events of a subtree left in the cells, from neutral ones, and emitted, and how many they are; and the event before
-- which it is to be joined, or none if at the end. One that is open holds besides what the cells hold that the node keeps.
pub record Contribution : Type 0 where
  pub cells : Contents
  pub outputs : List Out
  pub count : ℕ
  pub before : Option Event

-- an open contribution of no event, from a state: it has of it the cells that the node keeps
abbrev pub opened : Program → List Node → ℕ → Contents → Contribution
opened p nodes w s = record { cells = within (keeps p nodes w) s; outputs = []; count = 0; before = None }

-- an open contribution with one more event
abbrev pub with_event : Program → Contribution → Event → Contribution
with_event p k x =
    let e = effect_of p k.cells x in
    record { cells = e.cells; outputs = k.outputs ++ outputs_with p x e.texts; count = k.count + 1; before = None }

-- an open contribution closed before an event: what the node keeps stays with it
abbrev pub closed : Program → List Node → ℕ → Contribution → Event → Contribution
closed p nodes w k y = record { cells = outside (keeps p nodes w) k.cells; outputs = k.outputs; count = k.count; before = Some y }

-- the contributions of a node from an open one on: an event inside goes into the open one, an event above closes it and opens the next, and
-- other events are passed over. The last one is left open, so what the node keeps comes with it.
abbrev pub contributions_from : Program → List Node → ℕ → Contribution → List Event → List Contribution
contributions_from p nodes w k [] = k ∷ []
contributions_from p nodes w k (x ∷ xs) =
    if is_inside p nodes w x then contributions_from p nodes w (with_event p k x) xs
    else (if is_above p nodes w x then closed p nodes w k x ∷ contributions_from p nodes w (opened p nodes w k.cells) xs
    else contributions_from p nodes w k xs)

-- THE CONTRIBUTIONS of a node
abbrev pub contributions : Program → List Node → ℕ → Contents → List Event → List Contribution
contributions p nodes w opening xs = contributions_from p nodes w (opened p nodes w opening) xs
