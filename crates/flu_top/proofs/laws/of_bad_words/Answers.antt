use Rattle.flu_top.proofs.LawsOfOutcome.{bad_words_law, bad_words_line_law, untouched_law}
use Rattle.flu_top.proofs.laws.of_bad_words.Goals as goal

pub returns-clause-exactly : goal.returns-clause-exactly
returns-clause-exactly c = bad_words_law

pub returns-clause-line : goal.returns-clause-line
returns-clause-line c = bad_words_line_law

pub returns-clause-untouched : goal.returns-clause-untouched
returns-clause-untouched c = untouched_law
