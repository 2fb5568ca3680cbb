use Rattle.flu_mail.proofs.PassingLemmas.{passing_stays}
use Rattle.flu_mail.proofs.laws.passing_stays.Goals as goal

pub returns : goal.returns
returns c = λ i low seen more count items x s le h. passing_stays i low items seen more count x s le h
