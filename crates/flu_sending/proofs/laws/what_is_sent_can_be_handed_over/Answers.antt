use Rattle.flu_sending.proofs.Sendable.{can_be_handed_over}
use Rattle.flu_sending.proofs.laws.what_is_sent_can_be_handed_over.Goals as goal

pub returns : goal.returns
returns c = can_be_handed_over c.updates_are_changes.ensures.sorts c.itags_have_tags.ensures.fits
