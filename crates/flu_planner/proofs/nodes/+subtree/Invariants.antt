use Rattle.flu_planner.proofs.nodes.+subtree.Given as goal

abbrev pub decreases-subtree : goal.decreases-subtree
decreases-subtree l = l.depth
