use Rattle.flu_run.proofs.Sights.{known_as}
use Rattle.flu_run.proofs.sight.observe.Goals as goal

pub look_at_each-own_seen-requires-clause-known : goal.look_at_each-own_seen-requires-clause-known
look_at_each-own_seen-requires-clause-known c = known_as _ _ _ _ c.tables-tables.ensures.of_job c.own.ensures

pub look_at_each-above_seen-requires-clause-known : goal.look_at_each-above_seen-requires-clause-known
look_at_each-above_seen-requires-clause-known c = known_as _ _ _ _ c.tables-tables.ensures.of_job c.above.ensures
