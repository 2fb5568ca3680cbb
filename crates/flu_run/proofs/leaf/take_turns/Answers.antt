use Rattle.std.proofs.Common.{rules}
use Rattle.flu_run.proofs.Tying.{hangs_aside, hangs_seen}
use Rattle.flu_run.proofs.leaf.take_turns.Goals as goal

pub look-asked-requires : goal.look-asked-requires
look-asked-requires g c = hangs_seen _ _ _ (hangs_aside _ _ _ c.loop.invariant.hangs c.stopped.ensures) c.observe_idle-all.ensures.more
