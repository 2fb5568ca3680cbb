use Rattle.std.proofs.Common.{◌≡◌, ◌++◌, map, take}
use Rattle.std.specs.List.{flat_map}
use Rattle.std.specs.String.{string_bytes}
use Rattle.flu_model.specs.Erasure.{plain_kind}
use Rattle.flu_parse.specs.Printing.{tag_line}
use Rattle.flu_parse.proofs.printing.add_tags.Given as goal

abbrev pub invariant-loop-kind : goal.invariant-loop-kind
invariant-loop-kind l = string_bytes l.text ≡ string_bytes l.fn.text ++ flat_map (tag_line l.lists) (map plain_kind (take l.kind-index l.kinds))
