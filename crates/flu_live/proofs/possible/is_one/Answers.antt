use Rattle.flu_live.proofs.Chosen.{told_off, told_on}
use Rattle.flu_live.proofs.possible.is_one.Goals as goal

pub returns-clause-on : goal.returns-clause-on
returns-clause-on c = told_on c.args.net.now c.args.step _ c.enabled.ensures

pub returns-clause-off : goal.returns-clause-off
returns-clause-off c = told_off c.args.net.now c.args.step _ c.enabled.ensures

pub enabled-requires : goal.enabled-requires
enabled-requires c = c.requires
