use Rattle.flu_run.proofs.Tying.{hangs_handle, tells_event}
use Rattle.flu_run.proofs.up.act.Goals as goal

pub returns-clause-hangs : goal.returns-clause-hangs
returns-clause-hangs g c = hangs_handle _ _ _ c.in-Some.x c.requires.hangs c.in_ok-handle.ensures.note

pub returns-clause-tells : goal.returns-clause-tells
returns-clause-tells g c = let e = c.in_ok-handle.ensures in tells_event c.laws_below.ensures _ _ c.in-Some.x _ _ e.note e.texts c.requires.tells
