-- CLASSES: how the subtree of a node, and what is outside it, use a cell.
use Rattle.std.specs.Prelude.{ℕ, Bool, false, not, ◌&&◌, List, slice_get, if◌then◌else◌}
use Rattle.std.specs.List.{list_any, range_with_len}
use Rattle.std.specs.Option.{option_map_or}
use Rattle.flu_model.specs.declared.events.Cell.{Cell}
use Rattle.flu_model.specs.declared.events.Itag.{Itag}
use Rattle.flu_model.specs.declared.events.Tag.{Tag}
use Rattle.flu_model.specs.declared.jobs.Program.{Program}
use Rattle.flu_model.specs.declared.modes.Mode.{Mode}
use Rattle.flu_model.specs.declared.plans.Node.{Node}
use Rattle.flu_model.specs.Itags.{count_of_itags, source_of_itag, tag_of_itag}
use Rattle.flu_model.specs.Modes.{mode_of, uses}
use Rattle.flu_model.specs.Owners.{subtree_owns}
use Rattle.flu_model.specs.Rules.{is_clock}
use Rattle.flu_laws.specs.Uses.{needs}
use Rattle.flu_apart.specs.declared.classes.Class.{Class}
use Rattle.flu_apart.specs.declared.classes.Class.TheVariants.{Unused, Kept, Contributed, Shared}

-- ---- itags, by their numbers

abbrev pub itag : ℕ → Itag
itag i = record { 0 = i }

abbrev pub tag_at : Program → ℕ → Tag
tag_at p i = tag_of_itag p (itag i)

abbrev pub mode_at : Program → ℕ → Cell → Mode
mode_at p i c = mode_of p (tag_at p i) c

-- those that a node or a node below it owns, and the others
abbrev pub inside : Program → List Node → ℕ → ℕ → Bool
inside p nodes w i = subtree_owns p nodes w (itag i)

abbrev pub outside : Program → List Node → ℕ → ℕ → Bool
outside p nodes w i = not (inside p nodes w i)

-- whether the events of an itag are ticks: its source is a clock
abbrev pub has_ticks : Program → ℕ → Bool
has_ticks p i = option_map_or is_clock (slice_get p.sources (source_of_itag p (itag i))) false

-- ---- what they do to a cell

-- the tag of some itag of a set has such a mode on the cell
abbrev pub some_has : Program → (Mode → Bool) → (ℕ → Bool) → Cell → Bool
some_has p test set c = list_any (λ i. set i && test (mode_at p i c)) (range_with_len 0 (count_of_itags p))

-- some tag of the subtree uses the cell
abbrev pub is_used : Program → List Node → ℕ → Cell → Bool
is_used p nodes w c = some_has p uses (inside p nodes w) c

-- CONTRIBUTED TO: each tag of the subtree that uses the cell adds to it or raises it; none reads or owns it
abbrev pub is_contributed : Program → List Node → ℕ → Cell → Bool
is_contributed p nodes w c = not (some_has p needs (inside p nodes w) c)

-- KEPT: no tag of an itag outside the subtree uses the cell
abbrev pub is_kept : Program → List Node → ℕ → Cell → Bool
is_kept p nodes w c = not (some_has p uses (outside p nodes w) c)

-- THE CLASS of a cell for a node
abbrev pub class_of : Program → List Node → ℕ → Cell → Class
class_of p nodes w c =
    if is_used p nodes w c then (if is_kept p nodes w c then Kept else (if is_contributed p nodes w c then Contributed else Shared)) else Unused
