use Rattle.flu_text.proofs.Readings.{tokens_are_unique, bad_place_is_unique, tokens_or_bad_place}
use Rattle.flu_text.proofs.laws.one_reading.Goals as goal

pub returns-clause-tokens : goal.returns-clause-tokens
returns-clause-tokens c = tokens_are_unique

pub returns-clause-bad_place : goal.returns-clause-bad_place
returns-clause-bad_place c = bad_place_is_unique

pub returns-clause-either : goal.returns-clause-either
returns-clause-either c = tokens_or_bad_place
