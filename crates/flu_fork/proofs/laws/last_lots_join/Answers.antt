use Rattle.flu_fork.proofs.AllLemmas.{all_at_leaf, all_paired, all_joined}
use Rattle.flu_fork.proofs.laws.last_lots_join.Goals as goal

pub returns : goal.returns
returns c = record { leaf = all_at_leaf c.laws_below.ensures; paired = all_paired; joined = all_joined c.laws_below.ensures }
