use Rattle.flu_run.proofs.Tying.{home_trans}
use Rattle.flu_run.proofs.leaf.turn.Goals as goal

pub returns-clause-home : goal.returns-clause-home
returns-clause-home g c = home_trans _ _ _ (home_trans _ _ _ c.reply-gave.ensures.home c.in_ok-received.ensures.home) c.in_ok-acted.ensures.home
