use Rattle.std.proofs.Common.{◌≡◌, map}
use Rattle.serde_json.specs.View.{view}
use Rattle.flu_cells.specs.Holding.{held}
use Rattle.flu_save.specs.Widths.{AllHaveWordWidth}
use Rattle.flu_save.proofs.Values.{first_cells, first_entries}
use Rattle.flu_save.proofs.saving.entries.Given as goal

abbrev pub invariant-loop-family : goal.invariant-loop-family
invariant-loop-family l = record {
  number : l.number ≡ l.family-index;
  entries : map view l.entries.items ≡ first_entries l.p.families (held l.s) l.family-index;
  width : AllHaveWordWidth (held l.s) (first_cells (held l.s) l.family-index);
}
