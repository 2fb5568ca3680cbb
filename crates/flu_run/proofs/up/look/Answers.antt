use Rattle.std.proofs.Common.{rules}
use Rattle.flu_run.proofs.Tying.{hangs_look}
use Rattle.flu_run.proofs.up.look.Goals as goal

pub returns-clause-hangs : goal.returns-clause-hangs
returns-clause-hangs c = let e = c.asked.ensures in hangs_look _ _ _ c.asked.result c.requires (search rules) e.note e.above e.next e.not_yet e.none
