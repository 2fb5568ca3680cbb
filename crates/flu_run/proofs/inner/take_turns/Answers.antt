use Rattle.std.proofs.Common.{rules}
use Rattle.flu_run.proofs.Settling.{rests_now}
use Rattle.flu_run.proofs.Tying.{hangs_seen}
use Rattle.flu_run.proofs.inner.take_turns.Goals as goal

pub returns-then-finished : goal.returns-then-finished
returns-then-finished g c =
    let i = c.loop.invariant in
    let s = c.are_stopped.ensures in
    let a = c.look-asked.ensures in
    rests_now _ _ _ _ _ _ _ _ _ _ _ _ _ _ c.look-asked.result i.same_case i.same_node i.same_end s.same a.same i.same_left s.left_end i.same_right s.right_end
    c.observe_idle-all.ensures.more a.hangs (search rules) a.none i.tells s.left s.right (search rules)

pub look-asked-requires : goal.look-asked-requires
look-asked-requires g c = hangs_seen _ _ _ c.are_stopped.ensures.hangs c.observe_idle-all.ensures.more
