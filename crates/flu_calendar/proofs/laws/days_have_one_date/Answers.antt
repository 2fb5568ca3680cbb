use Rattle.flu_calendar.proofs.Agreed.{days_have_one_date}
use Rattle.flu_calendar.proofs.laws.days_have_one_date.Goals as goal

pub returns : goal.returns
returns c = days_have_one_date
