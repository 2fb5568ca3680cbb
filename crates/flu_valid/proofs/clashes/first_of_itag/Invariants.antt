use Rattle.std.proofs.Common.{◌<◌}
use Rattle.flu_model.specs.declared.events.Itag.{Itag}
use Rattle.flu_valid.specs.Faults.{IsClash}
use Rattle.flu_valid.proofs.clashes.first_of_itag.Given as goal

abbrev pub invariant-loop-j : goal.invariant-loop-j
invariant-loop-j l = (k : Itag) → k.0 < l.j → IsClash l.p l.plan.nodes l.a l.fn.i l.b k → ⊥
