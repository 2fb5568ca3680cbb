use Rattle.flu_fork.proofs.ServingLemmas.{leaf_law, inner_law, exact_law}
use Rattle.flu_fork.proofs.laws.subtrees_count_just_before.Goals as goal

pub returns : goal.returns
returns c = record {
  leaf = leaf_law c.laws_below.ensures;
  inner = inner_law c.laws_below.ensures;
  exact = exact_law c.laws_below.ensures;
}
