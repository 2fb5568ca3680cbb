use Rattle.std.proofs.Common.{None}
use Rattle.flu_model.specs.Contents.{nothing_held}
use Rattle.flu_rounds.proofs.Comings.{law_of_text, law_of_next_text, law_of_last, law_of_defect}
use Rattle.flu_rounds.proofs.laws.runs_write_the_fold.Goals as goal

pub returns : goal.returns
returns c =
    let rounds = c.rounds_are_folded_in_turn.ensures.rounds in
    let none = c.rounds_are_folded_in_turn.ensures.none in
    record {
      text = law_of_text rounds none None nothing_held;
      next = law_of_next_text rounds none None nothing_held;
      last = law_of_last rounds c.last_round_has_all_rows.ensures c.last_round_has_later_rows.ensures c.rounds_begin_and_end.ensures.ends None nothing_held;
      defect = law_of_defect rounds none None nothing_held;
    }
