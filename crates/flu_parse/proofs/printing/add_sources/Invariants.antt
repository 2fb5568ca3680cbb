use Rattle.std.proofs.Common.{◌≡◌, ◌++◌, map, take}
use Rattle.std.specs.List.{flat_map}
use Rattle.std.specs.String.{string_bytes}
use Rattle.flu_model.specs.Erasure.{plain_kind}
use Rattle.flu_parse.specs.Printing.{source_line}
use Rattle.flu_parse.proofs.printing.add_sources.Given as goal

abbrev pub invariant-loop-source : goal.invariant-loop-source
invariant-loop-source l = string_bytes l.text ≡ string_bytes l.fn.text ++ flat_map (source_line (map plain_kind l.kinds)) (take l.source-index l.sources)
