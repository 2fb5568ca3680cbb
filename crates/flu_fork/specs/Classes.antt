-- CLASSES: which cells a node of a valid plan holds whole, which are elsewhere, and which go to a child.
use Rattle.std.specs.Prelude.{ℕ, Bool, true, not, ◌==◌, ◌&&◌, Option, Some, None, List, [], ◌∷◌, if◌then◌else◌}
use Rattle.std.specs.List.{list_any, range_with_len}
use Rattle.flu_model.specs.declared.events.Cell.{Cell}
use Rattle.flu_model.specs.declared.events.Itag.{Itag}
use Rattle.flu_model.specs.declared.jobs.Program.{Program}
use Rattle.flu_model.specs.declared.modes.Mode.{Mode}
use Rattle.flu_model.specs.declared.plans.Node.{Node}
use Rattle.flu_model.specs.Itags.{count_of_itags, tag_of_itag}
use Rattle.flu_model.specs.Modes.{mode_of}
use Rattle.flu_model.specs.Owners.{owns, subtree_owns, ancestors_own, path_up}
use Rattle.flu_deps.specs.Owned.{kids_at}
use Rattle.flu_laws.specs.Uses.{needs, writes}

-- ---- sets of itags, by their numbers

abbrev pub Itags : Type 0
Itags = ℕ → Bool

abbrev pub itag : ℕ → Itag
itag i = record { 0 = i }

-- those that a node owns
abbrev pub own : Program → List Node → ℕ → Itags
own p nodes w i = owns p nodes w (itag i)

-- those of a node's subtree, those of its proper ancestors, and those of the nodes that are unrelated to it
abbrev pub below : Program → List Node → ℕ → Itags
below p nodes w i = subtree_owns p nodes w (itag i)

abbrev pub above : Program → List Node → ℕ → Itags
above p nodes w i = ancestors_own p nodes w (itag i)

abbrev pub beside : Program → List Node → ℕ → Itags
beside p nodes w i = not (below p nodes w i) && not (above p nodes w i)

-- ---- what they do to a cell

-- the mode of an itag's tag on a cell
abbrev pub mode_by : Program → ℕ → Cell → Mode
mode_by p i c = mode_of p (tag_of_itag p (itag i)) c

-- some itag of the set has such a mode on the cell
abbrev pub some_has : Program → (Mode → Bool) → Itags → Cell → Bool
some_has p test set c = list_any (λ i. set i && test (mode_by p i c)) (range_with_len 0 (count_of_itags p))

-- some itag of the set needs the cell
abbrev pub is_needed : Program → Itags → Cell → Bool
is_needed p set c = some_has p needs set c

-- a cell that some itag of a child's subtree needs is moved to it where some itag there writes it, and is copied to it where none does
abbrev pub is_moved : Program → Itags → Cell → Bool
is_moved p set c = is_needed p set c && some_has p writes set c

abbrev pub is_copied : Program → Itags → Cell → Bool
is_copied p set c = is_needed p set c && not (some_has p writes set c)

-- ---- the classes

-- of a cell that is base at their parent: it is base at the right child where it is moved or copied to it, so where some itag below that one needs it,
-- and at the left one where it is not moved to the right
abbrev pub is_base_at_child : Program → List Node → ℕ → Option (ℕ × ℕ) → Cell → Bool
is_base_at_child p nodes w None c = true
is_base_at_child p nodes w (Some kids) c =
    if kids.0 == w then not (is_moved p (below p nodes kids.1) c) else is_needed p (below p nodes kids.1) c

-- a cell is base at the first node of a path from it up to the root
abbrev pub is_base_on : Program → List Node → List ℕ → Cell → Bool
is_base_on p nodes [] c = true
is_base_on p nodes (w ∷ []) c = true
is_base_on p nodes (w ∷ u ∷ up) c = is_base_on p nodes (u ∷ up) c && is_base_at_child p nodes w (kids_at nodes u) c

-- every cell is base at the root
abbrev pub is_base : Program → List Node → ℕ → Cell → Bool
is_base p nodes w c = is_base_on p nodes (path_up nodes w) c

-- a cell is away where it is not base and some itag of an unrelated node needs it
abbrev pub is_away : Program → List Node → ℕ → Cell → Bool
is_away p nodes w c = not (is_base p nodes w c) && is_needed p (beside p nodes w) c
