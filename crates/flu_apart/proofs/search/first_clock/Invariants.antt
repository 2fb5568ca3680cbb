use Rattle.std.proofs.Common.{◌≡◌, false}
use Rattle.std.specs.Prelude.{◌&&◌}
use Rattle.std.specs.List.{list_any, range_with_len}
use Rattle.flu_apart.specs.Classes.{has_ticks, inside}
use Rattle.flu_apart.specs.Subtrees.{job, nodes, node}
use Rattle.flu_apart.proofs.search.first_clock.Given as goal

abbrev pub invariant-loop-i : goal.invariant-loop-i
invariant-loop-i l = list_any (λ i. inside (job l.s) (nodes l.s) (node l.s) i && has_ticks (job l.s) i) (range_with_len 0 l.i) ≡ false
