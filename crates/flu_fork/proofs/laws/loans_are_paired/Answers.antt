use Rattle.flu_fork.proofs.LoanLemmas.{lent_law, paired_law}
use Rattle.flu_fork.proofs.laws.loans_are_paired.Goals as goal

pub returns : goal.returns
returns c = record { lent = lent_law; paired = paired_law }
