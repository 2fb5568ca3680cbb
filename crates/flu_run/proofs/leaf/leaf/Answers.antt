use Rattle.std.proofs.Common.{refl}
use Rattle.flu_run.proofs.Tying.{hangs_new, tells_none, sees_from}
use Rattle.flu_run.proofs.leaf.leaf.Goals as goal

pub work-requires-clause-hangs : goal.work-requires-clause-hangs
work-requires-clause-hangs g c = λ κs within. hangs_new c.hands_turn.ensures.shut _ _ _ _ c.in-Ok.ensures c.requires.starts

pub work-requires-clause-fresh : goal.work-requires-clause-fresh
work-requires-clause-fresh g c = λ κs within. tells_none c.laws_below.ensures _ _ _ _ c.in-Ok.ensures refl

pub work-requires-clause-sees : goal.work-requires-clause-sees
work-requires-clause-sees g c = λ κs within. let new = c.in-Ok.ensures in sees_from _ _ _ new.case new.seen c.requires.watches
