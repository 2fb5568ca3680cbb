use Rattle.flu_grammar.proofs.Faults.{twice_named, node_twice}
use Rattle.flu_grammar.proofs.Twice.{is_on_twice, is_file_twice}
use Rattle.flu_grammar.proofs.laws.twice_named_is_declared_before.Goals as goal

pub returns-clause-job : goal.returns-clause-job
returns-clause-job c = twice_named

pub returns-clause-plan : goal.returns-clause-plan
returns-clause-plan c = node_twice

pub returns-clause-on : goal.returns-clause-on
returns-clause-on c = is_on_twice

pub returns-clause-file : goal.returns-clause-file
returns-clause-file c = is_file_twice
