use Rattle.flu_text.proofs.Readings.{reading_is_tokens, reading_is_bad_place}
use Rattle.flu_text.proofs.laws.reading_is_exact.Goals as goal

pub returns-clause-tokens : goal.returns-clause-tokens
returns-clause-tokens c = reading_is_tokens

pub returns-clause-bad_place : goal.returns-clause-bad_place
returns-clause-bad_place c = reading_is_bad_place
