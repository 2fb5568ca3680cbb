-- Where two tags conflict.
use Rattle.std.specs.Prelude.{◌≡◌, Bool, true, false}
use Rattle.flu_model.specs.declared.events.Cell.{Cell}
use Rattle.flu_model.specs.declared.events.Tag.{Tag}
use Rattle.flu_model.specs.declared.jobs.Program.{Program}
use Rattle.flu_model.specs.Modes.{mode_of, modes_conflict}
use Rattle.flu_model.specs.Order.{is_cell_before}

-- the modes of two tags on a cell conflict: both use it, and they do not share it
abbrev pub conflicts_on : Program → Tag → Tag → Cell → Bool
conflicts_on p a b c = modes_conflict (mode_of p a c) (mode_of p b c)

-- the tags conflict on no cell
abbrev pub NeverConflict : Program → Tag → Tag → Type 0
NeverConflict p a b = (c : Cell) → conflicts_on p a b c ≡ false

-- the tags conflict on this cell, and on none before it
pub record IsFirstConflict (p : Program) (a b : Tag) (c : Cell) : Type 0 where
  pub conflicts : conflicts_on p a b c ≡ true
  pub first : (d : Cell) → conflicts_on p a b d ≡ true → is_cell_before d c ≡ false
