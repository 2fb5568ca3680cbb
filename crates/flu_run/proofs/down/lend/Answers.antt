use Rattle.std.proofs.Common.{rules}
use Rattle.flu_run.proofs.Tying.{fits_below, grown_below, lets_lend}
use Rattle.flu_run.proofs.down.lend.Goals as goal

pub try_lend-requires-clause-fits : goal.try_lend-requires-clause-fits
try_lend-requires-clause-fits c = fits_below c.args.side _ _ c.lend-part.result c.requires.inner c.requires.lets c.lend-part.ensures.part

pub try_lend-requires-clause-grown : goal.try_lend-requires-clause-grown
try_lend-requires-clause-grown c = grown_below c.args.side _ _ c.lend-part.result c.requires.inner c.requires.lets c.lend-part.ensures.part

pub returns-clause-lets : goal.returns-clause-lets
returns-clause-lets c =
    lets_lend c.hands_turn.ensures.lend c.args.side _ _ _ _ c.lend-part.result c.requires.lets (search rules) c.lend-part.ensures.note c.in-Ok.ensures.lent
