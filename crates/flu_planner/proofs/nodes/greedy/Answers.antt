use Rattle.std.proofs.lemmas.Result.{IfOk-weaker}
use Rattle.flu_model.specs.Itags.{count_of_itags}
use Rattle.flu_planner.specs.Graphs.{dependencies}
use Rattle.flu_planner.specs.Plans.{all_itags}
use Rattle.flu_planner.specs.LoopTables.{table_of, graph_of}
use Rattle.flu_planner.proofs.Agreement.{greedy_agrees}
use Rattle.flu_planner.proofs.Rising.{rising_range}
use Rattle.flu_lemmas.proofs.Ranges.{range_below}
use Rattle.flu_planner.proofs.Tables.{agrees_with_table}
use Rattle.flu_planner.proofs.nodes.greedy.Goals as goal

pub subtree-requires-clause-rising : goal.subtree-requires-clause-rising
subtree-requires-clause-rising c = rw (c.deref-2.ensures.value, c.in_ok-itags.ensures) (rising_range 0 (count_of_itags c.args.p.now))

pub subtree-requires-clause-declared : goal.subtree-requires-clause-declared
subtree-requires-clause-declared c = rw (c.deref-2.ensures.value, c.in_ok-itags.ensures) (range_below (count_of_itags c.args.p.now))

pub returns : goal.returns
returns c =
    let p = c.args.p.now in
    let rates = c.args.rates.now in
    let depth = c.args.depth in
    let found = rw (c.deref.ensures.value, c.in_ok-table.ensures, c.deref-2.ensures.value, c.in_ok-itags.ensures) at c.subtree.ensures in
    IfOk-weaker c.subtree.result _ _
    (λ nodes tree. record {
      tree = tree.tree;
      greedy = greedy_agrees (graph_of (table_of p)) (dependencies p) rates depth (all_itags p) tree.tree
          (agrees_with_table c.dependency_turns.ensures p) tree.greedy;
      nodes_of_tree = tree.nodes_of_tree;
    })
    found
