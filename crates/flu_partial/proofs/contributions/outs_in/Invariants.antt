use Rattle.std.proofs.Common.{◌≡◌, List, map, take}
use Rattle.std.specs.List.{AllByRecursion}
use Rattle.serde_json.specs.View.{view}
use Rattle.flu_partial.specs.declared.values.Emitted.{Emitted}
use Rattle.flu_partial.specs.Partial.{emitted_value, IsEmitted}
use Rattle.flu_partial.proofs.contributions.outs_in.Given as goal

abbrev pub invariant-loop-entry : goal.invariant-loop-entry
invariant-loop-entry l = record {
  fits : AllByRecursion IsEmitted l.outs.items;
  found : (xs : List Emitted) → AllByRecursion IsEmitted xs → map view l.entries ≡ map emitted_value xs → l.outs.items ≡ take l.entry-index xs;
}
