use Rattle.flu_deps.proofs.LawLemmas.{paths_go_up, subtrees_are_of_children, nodes_are_ordered, nodes_are_apart}
use Rattle.flu_deps.proofs.Trees.{are_kids, rooted}
use Rattle.flu_deps.proofs.laws.plans_are_trees.Goals as goal

pub returns-clause-children : goal.returns-clause-children
returns-clause-children c = λ nodes w left right tree e. are_kids nodes tree w left right e

pub returns-clause-parents : goal.returns-clause-parents
returns-clause-parents c = rooted

pub returns-clause-paths : goal.returns-clause-paths
returns-clause-paths c = paths_go_up

pub returns-clause-subtrees : goal.returns-clause-subtrees
returns-clause-subtrees c = subtrees_are_of_children

pub returns-clause-order : goal.returns-clause-order
returns-clause-order c = nodes_are_ordered

pub returns-clause-apart : goal.returns-clause-apart
returns-clause-apart c = nodes_are_apart
