use Rattle.flu_top.proofs.LawsOfDemos.{reads_law, statuses_law, done_law}
use Rattle.flu_top.proofs.laws.of_demos.Goals as goal

pub returns-clause-reads : goal.returns-clause-reads
returns-clause-reads c = reads_law

pub returns-clause-statuses : goal.returns-clause-statuses
returns-clause-statuses c = statuses_law

pub returns-clause-done : goal.returns-clause-done
returns-clause-done c = done_law
