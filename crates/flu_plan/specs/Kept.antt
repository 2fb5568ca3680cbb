-- The rules of plans, all of them, as nodes keep them.
use Rattle.std.specs.Prelude.{◌≤◌, List, length, IsTrue}
use Rattle.flu_model.specs.declared.plans.Node.{Node}
use Rattle.flu_model.specs.PlanRules.{is_tree, is_shallow, count_of_predicates, have_small_keys, nodes_have_own_names}

pub record KeepsRules (nodes : List Node) : Type 0 where
  pub one_tree : IsTrue (is_tree nodes)
  pub own_names : IsTrue (nodes_have_own_names nodes)
  pub few_nodes : length nodes ≤ 127
  pub few_predicates : count_of_predicates nodes ≤ 4096
  pub shallow : IsTrue (is_shallow nodes)
  pub small_keys : IsTrue (have_small_keys nodes)
