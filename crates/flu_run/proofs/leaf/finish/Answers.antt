use Rattle.flu_run.proofs.Leaves.{leaf_done}
use Rattle.flu_run.proofs.leaf.finish.Goals as goal

pub returns : goal.returns
returns c = let r = c.requires in leaf_done c.laws_below.ensures _ _ c.in-Some.lot c.args.outs r.hangs r.phase r.finished r.leaf c.in-Some.ensures.lot r.tells
