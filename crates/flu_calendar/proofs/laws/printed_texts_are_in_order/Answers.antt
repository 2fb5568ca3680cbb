use Rattle.flu_calendar.proofs.Ordered.{printed_texts_are_in_order}
use Rattle.flu_calendar.proofs.laws.printed_texts_are_in_order.Goals as goal

pub returns : goal.returns
returns c = printed_texts_are_in_order
