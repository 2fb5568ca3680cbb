use Rattle.flu_mail.specs.Waiting.{waits_for, serving_waits_for}
use Rattle.flu_mail.proofs.WaitingLemmas.{all_pass_clears}
use Rattle.flu_mail.proofs.laws.ready_clears.Goals as goal

pub returns-clause-ready : goal.returns-clause-ready
returns-clause-ready c =
    λ p nodes lists w seen counts x j y s h lt waited uncounted. all_pass_clears p (waits_for p nodes w x.itag) lists seen counts x j y s h lt waited uncounted

pub returns-clause-serve : goal.returns-clause-serve
returns-clause-serve c =
    λ p nodes lists w seen counts x j y s h lt waited uncounted. all_pass_clears p
    (serving_waits_for p nodes w x.itag) lists seen counts x j y s h lt waited uncounted
