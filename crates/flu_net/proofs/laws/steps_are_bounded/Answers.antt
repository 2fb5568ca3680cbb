use Rattle.flu_net.proofs.Lessening.{lessens}
use Rattle.flu_net.proofs.MostSteps.{runs_bounded, starts_bounded}
use Rattle.flu_net.proofs.Sizes.{TreesBelow}
use Rattle.flu_net.proofs.laws.steps_are_bounded.Goals as goal

pub returns : goal.returns
returns c =
    let trees : TreesBelow = record { subtrees = c.plans_are_trees.ensures.subtrees; order = c.plans_are_trees.ensures.order } in
    record {
      step = lessens c.laws_below.ensures trees;
      start = starts_bounded c.laws_below.ensures trees;
      runs = runs_bounded c.laws_below.ensures trees;
    }
