use Rattle.std.proofs.Common.{◌≡◌, ◌++◌, take}
use Rattle.std.specs.List.{flat_map}
use Rattle.std.specs.String.{string_bytes}
use Rattle.flu_parse.specs.Printing.{cell_line}
use Rattle.flu_parse.proofs.printing.add_cells.Given as goal

abbrev pub invariant-loop-family : goal.invariant-loop-family
invariant-loop-family l = string_bytes l.text ≡ string_bytes l.fn.text ++ flat_map (cell_line l.lists) (take l.family-index l.families)
