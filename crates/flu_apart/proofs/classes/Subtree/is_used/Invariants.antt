use Rattle.std.proofs.Common.{◌≡◌, false}
use Rattle.std.specs.Prelude.{◌&&◌}
use Rattle.std.specs.List.{list_any, range_with_len}
use Rattle.flu_model.specs.Modes.{uses}
use Rattle.flu_apart.specs.Classes.{mode_at, inside}
use Rattle.flu_apart.specs.Subtrees.{job, nodes, node}
use Rattle.flu_apart.proofs.classes.Subtree.is_used.Given as goal

abbrev pub invariant-loop-i : goal.invariant-loop-i
invariant-loop-i l =
    list_any (λ i. inside (job l.self) (nodes l.self) (node l.self) i && uses (mode_at (job l.self) i l.c)) (range_with_len 0 l.i) ≡ false
