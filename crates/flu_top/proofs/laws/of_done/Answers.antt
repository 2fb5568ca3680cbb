use Rattle.flu_top.proofs.LawsOfOutcome.{done_law, quiet_law, simulation_law, adapted_law}
use Rattle.flu_top.proofs.laws.of_done.Goals as goal

pub returns-clause-done : goal.returns-clause-done
returns-clause-done c = done_law

pub returns-clause-quiet : goal.returns-clause-quiet
returns-clause-quiet c = quiet_law

pub returns-clause-steps : goal.returns-clause-steps
returns-clause-steps c = simulation_law

pub returns-clause-plan : goal.returns-clause-plan
returns-clause-plan c = adapted_law
