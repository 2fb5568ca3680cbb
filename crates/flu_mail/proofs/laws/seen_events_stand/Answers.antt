use Rattle.flu_mail.proofs.PassingLemmas.{still_there}
use Rattle.flu_mail.proofs.PlaceLemmas.{events_fit}
use Rattle.flu_mail.proofs.laws.seen_events_stand.Goals as goal

pub returns-clause-stand : goal.returns-clause-stand
returns-clause-stand c = still_there

pub returns-clause-few : goal.returns-clause-few
returns-clause-few c = events_fit
