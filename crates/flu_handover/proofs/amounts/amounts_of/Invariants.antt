use Rattle.std.proofs.Common.{◌≡◌, map}
use Rattle.flu_cells.specs.Holding.{held}
use Rattle.flu_save.specs.Widths.{AllHaveWordWidth}
use Rattle.flu_handover.specs.Parts.{amount_of}
use Rattle.flu_handover.proofs.OfFamilies.{first_cells}
use Rattle.flu_handover.proofs.amounts.amounts_of.Given as goal

abbrev pub invariant-loop-family : goal.invariant-loop-family
invariant-loop-family l = record {
  amounts : l.amounts.items ≡ map (amount_of (held l.s)) (first_cells (held l.s) l.family);
  width : AllHaveWordWidth (held l.s) (first_cells (held l.s) l.family);
}
