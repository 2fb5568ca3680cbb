use Rattle.std.proofs.Common.{◌<◌}
use Rattle.flu_model.specs.declared.events.Itag.{Itag}
use Rattle.flu_valid.specs.LoopSearch.{NoneOfItag}
use Rattle.flu_valid.proofs.clashes.first_of_nodes.Given as goal

abbrev pub invariant-loop-i : goal.invariant-loop-i
invariant-loop-i l = (k : Itag) → k.0 < l.i → NoneOfItag l.p l.plan.nodes l.a k l.b
