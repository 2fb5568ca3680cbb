use Rattle.flu_apart.specs.Subtrees.{job, nodes, node}
use Rattle.flu_apart.proofs.BestLemmas.{itag_turn}
use Rattle.flu_apart.proofs.search.best_of_itags.Goals as goal

pub loop-i-preserved : goal.loop-i-preserved
loop-i-preserved c =
    let s = c.args.s.now in
    itag_turn (job s) (nodes s) (node s) c.args.c c.args.best c.loop-i.best c.better-best.result c.loop-i.i c.better-best.ensures c.loop-i.invariant
