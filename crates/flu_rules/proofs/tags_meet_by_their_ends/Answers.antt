use Rattle.flu_rules.proofs.TagLemmas.{share_tag, parts_distinct}
use Rattle.flu_rules.proofs.tags_meet_by_their_ends.Goals as goal

pub returns-clause-meet : goal.returns-clause-meet
returns-clause-meet c = share_tag

pub returns-clause-differ : goal.returns-clause-differ
returns-clause-differ c = parts_distinct
