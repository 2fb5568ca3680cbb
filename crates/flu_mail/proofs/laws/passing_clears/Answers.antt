use Rattle.flu_lemmas.proofs.InTime.{not_back}
use Rattle.flu_mail.proofs.PassingLemmas.{passing_clears}
use Rattle.flu_mail.proofs.laws.passing_clears.Goals as goal

pub returns : goal.returns
returns c = λ i low seen count items x y s h uncounted.
    let after = passing_clears i low items seen count x uncounted.0 y s h uncounted.1 uncounted.2 in
    (after, not_back x.time x.itag.0 y.time y.itag.0 after)
