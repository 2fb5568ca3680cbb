use Rattle.flu_grammar.proofs.TextFaults.{bytes_are_too_many, bytes_are_not_utf8, no_token_begins, unexpected_is_not_continued, too_many_are_open}
use Rattle.flu_grammar.proofs.laws.faults_of_texts.Goals as goal

pub returns-clause-bytes : goal.returns-clause-bytes
returns-clause-bytes c = bytes_are_too_many

pub returns-clause-utf8 : goal.returns-clause-utf8
returns-clause-utf8 c = bytes_are_not_utf8

pub returns-clause-token : goal.returns-clause-token
returns-clause-token c = no_token_begins c.reading_is_exact.ensures.bad_place

pub returns-clause-grammar : goal.returns-clause-grammar
returns-clause-grammar c = unexpected_is_not_continued c.reading_is_exact.ensures.tokens c.unexpected_is_first.ensures

pub returns-clause-nesting : goal.returns-clause-nesting
returns-clause-nesting c = too_many_are_open c.reading_is_exact.ensures.tokens c.too_deep_is_the_65th.ensures
