use Rattle.flu_calls.proofs.Languages.{command_words, part_words}
use Rattle.flu_calls.proofs.laws.of_words.Goals as goal

pub returns-clause-commands : goal.returns-clause-commands
returns-clause-commands c = command_words c.languages_are_apart.ensures

pub returns-clause-parts : goal.returns-clause-parts
returns-clause-parts c = part_words
