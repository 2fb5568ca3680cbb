use Rattle.flu_combine.proofs.Whole.{texts_are_whole, texts_tell}
use Rattle.flu_combine.proofs.laws.texts_are_whole_partials.Goals as goal

pub returns : goal.returns
returns c = record {
  whole =
      texts_are_whole c.printed_heads_are_lines.ensures c.printed_contributions_are_lines.ensures c.printed_partials_are_read.ensures
      c.sendable_have_lines.ensures c.what_is_sent_can_be_handed_over.ensures c.sent_texts_are_utf8.ensures c.sent_lines_may_come.ensures
      c.merged_events_rise_strictly.ensures;
  tell =
      texts_tell c.printed_heads_are_lines.ensures c.printed_contributions_are_lines.ensures c.printed_partials_are_read.ensures
      c.sendable_have_lines.ensures c.what_is_sent_can_be_handed_over.ensures c.sent_texts_are_utf8.ensures c.sent_lines_may_come.ensures
      c.merged_events_rise_strictly.ensures;
}
