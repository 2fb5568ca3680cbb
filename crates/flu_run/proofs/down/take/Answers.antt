use Rattle.std.proofs.Common.{rules}
use Rattle.flu_run.proofs.Tying.{there_take}
use Rattle.flu_run.proofs.down.take.Goals as goal

pub returns-clause-there : goal.returns-clause-there
returns-clause-there c = there_take c.hands_turn.ensures.take c.args.side _ _ _ (search rules) c.in_ok-take_reply.ensures.takes
