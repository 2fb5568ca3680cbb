use Rattle.std.proofs.Common.{◌≡◌, ◌++◌, take}
use Rattle.std.specs.List.{flat_map}
use Rattle.std.specs.String.{string_bytes}
use Rattle.flu_parse.specs.Printing.{names_line}
use Rattle.flu_parse.proofs.printing.add_lists.Given as goal

abbrev pub invariant-loop-list : goal.invariant-loop-list
invariant-loop-list l = string_bytes l.text ≡ string_bytes l.fn.text ++ flat_map names_line (take l.list-index l.lists)
