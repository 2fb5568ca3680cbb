-- WAITING: which itags an event of a node, or of an ancestor, waits for, and when none of them holds it up.
use Rattle.std.specs.Prelude.{ℕ, Bool, not, ◌==◌, ◌&&◌, ◌||◌, is_none, List, slice_index}
use Rattle.std.specs.List.{list_all, range_with_len}
use Rattle.flu_model.specs.declared.events.Event.{Event}
use Rattle.flu_model.specs.declared.events.Itag.{Itag}
use Rattle.flu_model.specs.declared.events.Item.{Item}
use Rattle.flu_model.specs.declared.jobs.Program.{Program}
use Rattle.flu_model.specs.declared.plans.Node.{Node}
use Rattle.flu_model.specs.Itags.{count_of_itags}
use Rattle.flu_model.specs.Owners.{owns, ancestors_own}
use Rattle.flu_deps.specs.Dependencies.{itags_depend}
use Rattle.flu_deps.specs.Owned.{kids_at}
use Rattle.flu_mail.specs.Passing.{seen_items, passes}

abbrev pub itag : ℕ → Itag
itag i = record { 0 = i }

abbrev pub is_leaf : List Node → ℕ → Bool
is_leaf nodes w = is_none (kids_at nodes w)

-- at node w an event of itag i waits for itag j: another one, which the node or an ancestor owns, and at a leaf only where the two are dependent
abbrev pub waits_for : Program → List Node → ℕ → Itag → ℕ → Bool
waits_for p nodes w i j =
    not (j == i.0) && (owns p nodes w (itag j) || ancestors_own p nodes w (itag j)) && (not (is_leaf nodes w) || itags_depend p i (itag j))

-- at node w an ancestor's event of itag i waits for itag j: one that the node owns, and at a leaf only where the two are dependent
abbrev pub serving_waits_for : Program → List Node → ℕ → Itag → ℕ → Bool
serving_waits_for p nodes w i j = owns p nodes w (itag j) && (not (is_leaf nodes w) || itags_depend p i (itag j))

-- each itag that is waited for lets x pass
abbrev pub all_pass : Program → (ℕ → Bool) → List (List Item) → List ℕ → List ℕ → Event → Bool
all_pass p waits lists seen counts x =
    list_all (λ j. not (waits j) || passes (seen_items lists seen j) (slice_index counts j) x) (range_with_len 0 (count_of_itags p))

-- node w may take its event x
abbrev pub is_ready : Program → List Node → List (List Item) → ℕ → List ℕ → List ℕ → Event → Bool
is_ready p nodes lists w seen counts x = all_pass p (waits_for p nodes w x.itag) lists seen counts x

-- node w may give up its state for an ancestor's event y
abbrev pub is_ready_to_serve : Program → List Node → List (List Item) → ℕ → List ℕ → List ℕ → Event → Bool
is_ready_to_serve p nodes lists w seen counts y = all_pass p (serving_waits_for p nodes w y.itag) lists seen counts y
