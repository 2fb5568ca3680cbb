use Rattle.std.proofs.Common.{◌+◌, ◌-◌, ◌*◌, length}
use Rattle.flu_fork.specs.Lots.{nodes}
use Rattle.flu_run.proofs.tree.+fn-subtree-fn-scope-spawn_with+fn-subtree-fn-scope-spawn_with+2+fn-subtree-scope+subtree.Given as goal

abbrev pub decreases-scope-spawn_with : goal.decreases-scope-spawn_with
decreases-scope-spawn_with g l = 4 * (length (nodes (g.H.HasCase.content l.holder.now)) - l.left) + 3

abbrev pub decreases-scope-spawn_with+2 : goal.decreases-scope-spawn_with+2
decreases-scope-spawn_with+2 g l = 4 * (length (nodes (g.H.HasCase.content l.holder.now)) - l.right) + 3

abbrev pub decreases-scope : goal.decreases-scope
decreases-scope g l = 4 * (length (nodes (g.H.HasCase.content l.holder.now)) - l.node) + 1

abbrev pub decreases-subtree : goal.decreases-subtree
decreases-subtree g l = 4 * (length (nodes (g.H.HasCase.content l.holder.now)) - l.node) + 2
