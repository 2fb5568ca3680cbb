use Rattle.flu_rounds.proofs.Comings.{law_of_text, law_of_next_text, law_of_last, law_of_defect}
use Rattle.flu_rounds.proofs.States.{law_of_text_and_state, law_of_next_text_and_state, law_of_next_state, law_of_defect_and_state}
use Rattle.flu_rounds.proofs.laws.resumed_runs_write_the_fold.Goals as goal

pub returns : goal.returns
returns c =
    let rounds = c.rounds_are_folded_in_turn.ensures.rounds in
    let none = c.rounds_are_folded_in_turn.ensures.none in
    record {
      text = law_of_text rounds none;
      next = law_of_next_text rounds none;
      last = law_of_last rounds c.last_round_has_all_rows.ensures c.last_round_has_later_rows.ensures c.rounds_begin_and_end.ensures.ends;
      defect = law_of_defect rounds none;
      state = law_of_text_and_state rounds none;
      next_with_state = law_of_next_text_and_state rounds none;
      next_state = law_of_next_state rounds none;
      defect_with_state = law_of_defect_and_state rounds none;
    }
