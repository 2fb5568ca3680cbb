-- Faults that keep a job from being accepted, and the first of them.
use Rattle.std.specs.Prelude.{◌≡◌, true, false}
use Rattle.std.specs.Ordering.{ordering_then, is_lt}
use Rattle.std.specs.declared.cmp.Ordering.{Ordering}
use Rattle.flu_model.specs.declared.events.Cell.{Cell}
use Rattle.flu_model.specs.declared.events.Tag.{Tag}
use Rattle.flu_model.specs.declared.jobs.Program.{Program}
use Rattle.flu_model.specs.Itags.{is_dependent}
use Rattle.flu_model.specs.Modes.{IsInUniverse}
use Rattle.flu_deps.specs.Conflicts.{conflicts_on}
use Rattle.flu_model.specs.Order.{cell_cmp, tag_cmp, is_tag_before}

-- two tags that the job's sources list, equal or not, are independent and conflict on a cell; the second is not before the first
pub record IsCheckFault (p : Program) (a b : Tag) (c : Cell) : Type 0 where
  pub a_listed : IsInUniverse p a
  pub b_listed : IsInUniverse p b
  pub in_order : is_tag_before b a ≡ false
  pub independent : is_dependent p a b ≡ false
  pub conflict : conflicts_on p a b c ≡ true

-- the order of faults: by the first tag, then the second, then the cell
abbrev pub fault_cmp : Tag → Tag → Cell → Tag → Tag → Cell → Ordering
fault_cmp a b c d e g = ordering_then (tag_cmp a d) (ordering_then (tag_cmp b e) (cell_cmp c g))

-- FIRST FAULT: a fault, and none is before it
pub record IsFirstCheckFault (p : Program) (a b : Tag) (c : Cell) : Type 0 where
  pub fault : IsCheckFault p a b c
  pub first : (d e : Tag) (g : Cell) → IsCheckFault p d e g → is_lt (fault_cmp d e g a b c) ≡ false
