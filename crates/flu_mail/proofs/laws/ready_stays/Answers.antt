use Rattle.flu_mail.specs.Waiting.{waits_for, serving_waits_for}
use Rattle.flu_mail.proofs.WaitingLemmas.{all_pass_still}
use Rattle.flu_mail.proofs.laws.ready_stays.Goals as goal

pub returns-clause-ready : goal.returns-clause-ready
returns-clause-ready c = λ p nodes lists w seen more counts x s le h. all_pass_still p (waits_for p nodes w x.itag) lists seen more counts x s le h

pub returns-clause-serve : goal.returns-clause-serve
returns-clause-serve c = λ p nodes lists w seen more counts y s le h. all_pass_still p (serving_waits_for p nodes w y.itag) lists seen more counts y s le h
