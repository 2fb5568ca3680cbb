use Rattle.flu_net.proofs.Reached.{runs_keep, runs_tell}
use Rattle.flu_net.proofs.laws.runs_tell_the_fold.Goals as goal

pub returns : goal.returns
returns c = record { rule = runs_keep c.laws_below.ensures; fold = runs_tell c.laws_below.ensures }
