use Rattle.std.proofs.Common.{◌≡◌, ◌++◌, map, take}
use Rattle.std.specs.List.{flat_map}
use Rattle.std.specs.String.{string_bytes}
use Rattle.flu_model.specs.Erasure.{plain_kind}
use Rattle.flu_parse.specs.Printing.{depends_line}
use Rattle.flu_parse.proofs.printing.add_depends.Given as goal

abbrev pub invariant-loop-depend : goal.invariant-loop-depend
invariant-loop-depend l = string_bytes l.text ≡ string_bytes l.fn.text ++ flat_map (depends_line (map plain_kind l.kinds)) (take l.depend-index l.depends)
