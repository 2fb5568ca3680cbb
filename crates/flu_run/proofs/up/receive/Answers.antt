use Rattle.std.proofs.Common.{rules}
use Rattle.flu_run.proofs.Tying.{home_hold}
use Rattle.flu_run.proofs.up.receive.Goals as goal

pub returns-clause-home : goal.returns-clause-home
returns-clause-home c = home_hold _ _ c.in-Some.lot (search rules) c.in_ok-hold.ensures.holds
