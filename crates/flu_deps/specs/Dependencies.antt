-- Which itags depend on each other, and that conflict is mutual.
use Rattle.std.specs.Prelude.{◌≡◌, Bool}
use Rattle.flu_model.specs.declared.events.Cell.{Cell}
use Rattle.flu_model.specs.declared.events.Itag.{Itag}
use Rattle.flu_model.specs.declared.events.Tag.{Tag}
use Rattle.flu_model.specs.declared.jobs.Program.{Program}
use Rattle.flu_model.specs.Itags.{tag_of_itag, is_dependent}
use Rattle.flu_deps.specs.Conflicts.{conflicts_on}

-- two itags depend on each other: their tags are dependent
abbrev pub itags_depend : Program → Itag → Itag → Bool
itags_depend p i j = is_dependent p (tag_of_itag p i) (tag_of_itag p j)

-- MUTUAL: of two tags each conflicts with the other on a cell, or neither does
abbrev pub ConflictIsMutual : Type 0
ConflictIsMutual = (p : Program) (a b : Tag) (c : Cell) → conflicts_on p a b c ≡ conflicts_on p b a c
