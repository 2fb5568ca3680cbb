use Rattle.std.proofs.Common.{map, string_bytes, sym, ◌∙◌}
use Rattle.flu_words.specs.Parts.{is_part_call}
use Rattle.flu_calls.proofs.Choices.{choose_first, choose_second}
use Rattle.flu_calls.proofs.calls.answer_words.Goals as goal

pub returns-then-is_part_call-clause-outcome : goal.returns-then-is_part_call-clause-outcome
returns-then-is_part_call-clause-outcome g c =
    choose_first _ _ (is_part_call (map string_bytes c.args.words.now)) (sym c.is_part_call.ensures ∙ c.if-is_part_call.true) c.answer_part_words.ensures.outcome

pub returns-else-is_part_call-clause-outcome : goal.returns-else-is_part_call-clause-outcome
returns-else-is_part_call-clause-outcome g c =
    choose_second _ _ (is_part_call (map string_bytes c.args.words.now)) (sym c.is_part_call.ensures ∙ c.if-is_part_call.false) c.answer_words.ensures.outcome
