use Rattle.flu_words.specs.Parts.{is_part_call}
use Rattle.flu_top.specs.Outcome.{Outcome}
use Rattle.flu_parts.specs.Outcome.{PartOutcome}
use Rattle.flu_calls.proofs.Choices.{second_chosen}
use Rattle.flu_calls.proofs.laws.of_other_calls.Goals as goal

pub returns-clause-outcome : goal.returns-clause-outcome
returns-clause-outcome c words old new status is x = second_chosen (PartOutcome words old new status) (Outcome words old new status) (is_part_call words) is x
