use Rattle.flu_sending.proofs.Determined.{by_needed, by_parts}
use Rattle.flu_sending.proofs.laws.lines_are_determined.Goals as goal

pub returns-clause-events : goal.returns-clause-events
returns-clause-events c = by_needed c.only_needed_events_matter.ensures

pub returns-clause-parts : goal.returns-clause-parts
returns-clause-parts c = by_parts
