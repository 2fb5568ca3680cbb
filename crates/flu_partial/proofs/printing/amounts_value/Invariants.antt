use Rattle.std.proofs.Common.{◌≡◌, map, take}
use Rattle.serde_json.specs.View.{view}
use Rattle.flu_partial.specs.Partial.{amount_value}
use Rattle.flu_partial.proofs.printing.amounts_value.Given as goal

abbrev pub invariant-loop-amount : goal.invariant-loop-amount
invariant-loop-amount l = map view l.values.items ≡ map amount_value (take l.amount-index l.amounts)
