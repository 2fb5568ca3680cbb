use Rattle.flu_handover.proofs.Named.{named_where, named_nowhere}
use Rattle.flu_handover.proofs.tags.place_of.Goals as goal

pub returns-else-is_named_at-clause-some : goal.returns-else-is_named_at-clause-some
returns-else-is_named_at-clause-some c = named_where c.args.tags.now c.args.text.now c.first_place.result c.first_place.ensures.value

pub returns-else-is_named_at-clause-none : goal.returns-else-is_named_at-clause-none
returns-else-is_named_at-clause-none c = named_nowhere c.args.tags.now c.args.text.now c.first_place.result c.first_place.ensures.value
