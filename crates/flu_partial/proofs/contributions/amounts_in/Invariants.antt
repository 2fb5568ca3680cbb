use Rattle.std.proofs.Common.{◌≡◌, List, map, take}
use Rattle.std.specs.List.{AllByRecursion}
use Rattle.serde_json.specs.View.{view}
use Rattle.flu_partial.specs.declared.values.Amount.{Amount}
use Rattle.flu_partial.specs.Partial.{amount_value, IsAmount}
use Rattle.flu_partial.proofs.contributions.amounts_in.Given as goal

abbrev pub invariant-loop-entry : goal.invariant-loop-entry
invariant-loop-entry l = record {
  fits : AllByRecursion IsAmount l.amounts.items;
  found : (xs : List Amount) → AllByRecursion IsAmount xs → map view l.entries ≡ map amount_value xs → l.amounts.items ≡ take l.entry-index xs;
}
