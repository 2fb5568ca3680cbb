use Rattle.std.proofs.Common.{◌≡◌, map, take}
use Rattle.serde_json.specs.View.{view}
use Rattle.flu_partial.specs.Partial.{emitted_value}
use Rattle.flu_partial.proofs.printing.outs_value.Given as goal

abbrev pub invariant-loop-out : goal.invariant-loop-out
invariant-loop-out l = map view l.entries.items ≡ map emitted_value (take l.out-index l.outs)
