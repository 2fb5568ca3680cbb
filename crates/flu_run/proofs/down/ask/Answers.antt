use Rattle.flu_run.proofs.Tying.{ask_above, ask_next}
use Rattle.flu_run.proofs.down.ask.Goals as goal

pub try_ask-requires-clause-above : goal.try_ask-requires-clause-above
try_ask-requires-clause-above c = ask_above c.args.side _ _ _ c.requires.inner c.requires.lets c.requires.askable

pub try_ask-requires-clause-next : goal.try_ask-requires-clause-next
try_ask-requires-clause-next c = ask_next c.args.side _ _ _ c.requires.inner c.requires.lets c.requires.askable
