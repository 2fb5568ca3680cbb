use Rattle.flu_contribution.proofs.Reading.{parts_give}
use Rattle.flu_contribution.proofs.laws.parts_give_the_report.Goals as goal

pub returns : goal.returns
returns c = λ p nodes ws opening whole parts rest setting apart one streams read others.
    parts_give c.merged_lists_agree.ensures.itags p nodes opening whole one streams
    c.what_is_sent_is_joined.ensures c.contributions_give_the_fold.ensures.run ws parts rest setting apart read others
