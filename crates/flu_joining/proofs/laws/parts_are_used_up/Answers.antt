use Rattle.flu_joining.proofs.Reading.{parts_used_up}
use Rattle.flu_joining.proofs.laws.parts_are_used_up.Goals as goal

pub returns : goal.returns
returns c = parts_used_up c.merged_lists_agree.ensures.itags c.what_is_sent_is_used_up.ensures
