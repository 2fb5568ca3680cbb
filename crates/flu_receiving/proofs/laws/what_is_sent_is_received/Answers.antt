use Rattle.flu_receiving.proofs.Alike.{received_alike}
use Rattle.flu_receiving.proofs.laws.what_is_sent_is_received.Goals as goal

pub returns : goal.returns
returns c = received_alike c.heads_have_one_text.ensures c.contributions_have_one_text.ensures c.lines_determine.ensures
