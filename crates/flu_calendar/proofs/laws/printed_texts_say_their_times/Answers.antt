use Rattle.flu_calendar.proofs.Agreed.{printed_texts_say_their_times}
use Rattle.flu_calendar.proofs.laws.printed_texts_say_their_times.Goals as goal

pub returns : goal.returns
returns c = printed_texts_say_their_times
