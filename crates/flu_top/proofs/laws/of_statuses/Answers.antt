use Rattle.flu_top.proofs.LawsOfOutcome.{known_law, nothing_law, unwritten_law, some_law, memory_law}
use Rattle.flu_top.proofs.laws.of_statuses.Goals as goal

pub returns-clause-known : goal.returns-clause-known
returns-clause-known c = known_law

pub returns-clause-nothing : goal.returns-clause-nothing
returns-clause-nothing c = nothing_law

pub returns-clause-refused : goal.returns-clause-refused
returns-clause-refused c = unwritten_law

pub returns-clause-some : goal.returns-clause-some
returns-clause-some c = some_law

pub returns-clause-memory : goal.returns-clause-memory
returns-clause-memory c = memory_law
