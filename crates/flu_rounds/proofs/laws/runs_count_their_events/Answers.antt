use Rattle.flu_rounds.proofs.Countings.{law_of_first_counts, law_of_next_counts, law_of_last_counts}
use Rattle.flu_rounds.proofs.laws.runs_count_their_events.Goals as goal

pub returns : goal.returns
returns c = record {
  first = law_of_first_counts c.rounds_begin_and_end.ensures.start;
  next = law_of_next_counts c.rounds_are_counted_in_turn.ensures.one_more;
  last = law_of_last_counts c.rounds_are_counted_in_turn.ensures.rounds c.last_round_has_all_rows.ensures c.last_round_has_later_rows.ensures;
}
