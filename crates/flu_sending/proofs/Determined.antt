-- What is sent is determined by the events inside and above, and parts send what the whole sends.
use Rattle.std.proofs.Common.{ap}
use Rattle.flu_model.specs.Contents.{nothing_held}
use Rattle.flu_model.specs.Merging.{merged}
use Rattle.flu_contribution.specs.Sending.{sent}
use Rattle.flu_contribution.specs.Sharing.{OnlyNeededEventsMatter}
use Rattle.flu_sending.specs.Laws.{SentByNeeded, SentByParts}

pub by_needed : OnlyNeededEventsMatter → SentByNeeded
by_needed only p nodes w lists others same = ap sent (only p nodes w nothing_held (merged lists) (merged others) same)

pub by_parts : SentByParts
by_parts p nodes w whole part one streams h = h.sends nothing_held
