use Rattle.flu_deps.specs.Checking.{program_of}
use Rattle.flu_plan.specs.Kept.{KeepsRules}
use Rattle.flu_planner.specs.Plans.{IsGreedyPlan}
use Rattle.flu_planner.proofs.plan.Goals as goal

pub invariant_of-plan : goal.invariant_of-plan
invariant_of-plan c =
    let p = program_of c.args.c.now in
    let greedy : IsGreedyPlan p c.args.rates.now c.args.depth c.of.result = rw (← c.program-p.ensures, c.of.ensures) c.in_ok-nodes.ensures in
    let keeps : KeepsRules c.of.result = c.greedy_plans_keep_rules.ensures p c.args.rates.now c.args.depth c.of.result c.requires.depth greedy in
    record {
      one_tree = keeps.one_tree;
      own_names = keeps.own_names;
      few_nodes = keeps.few_nodes;
      few_predicates = keeps.few_predicates;
      shallow = keeps.shallow;
      small_keys = keeps.small_keys;
    }

pub of-requires-2 : goal.of-requires-2
of-requires-2 c =
    let p = program_of c.args.c.now in
    let greedy : IsGreedyPlan p c.args.rates.now c.args.depth c.of.result = rw (← c.program-p.ensures, c.of.ensures) c.in_ok-nodes.ensures in
    c.greedy_plans_are_valid.ensures p c.args.rates.now c.args.depth c.of.result greedy

pub returns-clause-greedy : goal.returns-clause-greedy
returns-clause-greedy c =
    let p = program_of c.args.c.now in
    let greedy : IsGreedyPlan p c.args.rates.now c.args.depth c.of.result = rw (← c.program-p.ensures, c.of.ensures) c.in_ok-nodes.ensures in
    rw c.of-2.ensures.plan greedy

pub returns-clause-read_again : goal.returns-clause-read_again
returns-clause-read_again c =
    let p = program_of c.args.c.now in
    let greedy : IsGreedyPlan p c.args.rates.now c.args.depth c.of.result = rw (← c.program-p.ensures, c.of.ensures) c.in_ok-nodes.ensures in
    rw c.of-2.ensures.plan (c.greedy_plans_are_read_again.ensures p c.args.rates.now c.args.depth c.of.result c.requires.depth greedy)
