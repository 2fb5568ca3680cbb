use Rattle.flu_fork.proofs.TextLemmas.{nothing_law, same_law, grow_law, three_law}
use Rattle.flu_fork.proofs.laws.texts_are_counted.Goals as goal

pub returns : goal.returns
returns c = record {
  nothing = nothing_law;
  same = same_law;
  grow = grow_law c.laws_below.ensures;
  three = three_law c.laws_below.ensures;
}
