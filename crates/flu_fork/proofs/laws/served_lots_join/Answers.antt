use Rattle.flu_fork.proofs.LoanLemmas.{serves_law, grows_law}
use Rattle.flu_fork.proofs.laws.served_lots_join.Goals as goal

pub returns : goal.returns
returns c = record { serves = serves_law c.laws_below.ensures; grows = grows_law c.laws_below.ensures }
