-- The search for the first shared use, over the cells that the actions of all tags name. Where a family is used as a whole, its first cell is
-- named: it stands for all those that nothing else names. No theorem's meaning depends on these.
use Rattle.std.specs.Prelude.{ℕ, zero, suc, Bool, true, false, ◌&&◌, Option, Some, None, List, [], ◌∷◌, ◌++◌, if◌then◌else◌, slice_get}
use Rattle.std.specs.Ordering.{is_lt}
use Rattle.flu_model.specs.declared.events.Cell.{Cell}
use Rattle.flu_model.specs.declared.events.Tag.{Tag}
use Rattle.flu_model.specs.declared.jobs.Program.{Program}
use Rattle.flu_model.specs.declared.plans.Node.{Node}
use Rattle.flu_model.specs.Itags.{count_of_itags}
use Rattle.flu_model.specs.Modes.{uses}
use Rattle.flu_model.specs.Updates.{actions_of}
use Rattle.flu_deps.specs.LoopNamed.{actions_cells}
use Rattle.flu_apart.specs.declared.classes.Class.{Class}
use Rattle.flu_apart.specs.declared.classes.Class.TheVariants.{Unused, Kept, Contributed, Shared}
use Rattle.flu_apart.specs.declared.reason.SharedUse.{SharedUse}
use Rattle.flu_apart.specs.Apart.{use_cmp}
use Rattle.flu_apart.specs.Classes.{tag_at, mode_at, inside, class_of}

abbrev pub is_shared : Class → Bool
is_shared Unused = false
is_shared Kept = false
is_shared Contributed = false
is_shared Shared = true

-- no shared use, or one after this one
abbrev pub is_before_best : SharedUse → Option SharedUse → Bool
is_before_best r None = true
is_before_best r (Some best) = is_lt (use_cmp r.tag r.cell best.tag best.cell)

abbrev pub shared_use : Tag → Cell → SharedUse
shared_use t c = record { tag = t; cell = c }

-- the best so far, or itag i with the cell if it is of the subtree, uses the cell, and is before that
abbrev pub better : Program → List Node → ℕ → Cell → Option SharedUse → ℕ → Option SharedUse
better p nodes w c best i =
    if (inside p nodes w i && uses (mode_at p i c)) && is_before_best (shared_use (tag_at p i) c) best then Some (shared_use (tag_at p i) c) else best

-- the best of the itags before n
abbrev pub best_upto : Program → List Node → ℕ → Cell → Option SharedUse → ℕ → Option SharedUse
best_upto p nodes w c best zero = best
best_upto p nodes w c best (suc n) = better p nodes w c (best_upto p nodes w c best n) n

-- of all itags, if the cell is shared
abbrev pub best_at : Program → List Node → ℕ → Option SharedUse → Cell → Option SharedUse
best_at p nodes w best c = if is_shared (class_of p nodes w c) then best_upto p nodes w c best (count_of_itags p) else best

-- of all these cells
abbrev pub best_among : Program → List Node → ℕ → Option SharedUse → List Cell → Option SharedUse
best_among p nodes w best [] = best
best_among p nodes w best (c ∷ cs) = best_among p nodes w (best_at p nodes w best c) cs

-- the cells that the actions of a tag's kind name, and those of the itags before n
abbrev pub cells_of : Program → Tag → List Cell
cells_of p t = actions_cells t.key (actions_of (slice_get p.kinds t.kind))

abbrev pub cells_upto : Program → ℕ → List Cell
cells_upto p zero = []
cells_upto p (suc n) = cells_upto p n ++ cells_of p (tag_at p n)
