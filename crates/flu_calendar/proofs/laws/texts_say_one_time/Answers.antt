use Rattle.flu_calendar.proofs.Agreed.{texts_say_one_time}
use Rattle.flu_calendar.proofs.laws.texts_say_one_time.Goals as goal

pub returns : goal.returns
returns c = texts_say_one_time
