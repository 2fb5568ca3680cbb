use Rattle.flu_worker.proofs.Waiting.{asked_go_on, own_go_on, nothing_is_next}
use Rattle.flu_worker.proofs.laws.waiting_ends.Goals as goal

pub returns-clause-asked : goal.returns-clause-asked
returns-clause-asked c = asked_go_on c.laws_below.ensures

pub returns-clause-own : goal.returns-clause-own
returns-clause-own c = own_go_on c.laws_below.ensures

pub returns-clause-nothing : goal.returns-clause-nothing
returns-clause-nothing c = nothing_is_next c.laws_below.ensures
