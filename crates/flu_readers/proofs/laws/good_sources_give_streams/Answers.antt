use Rattle.flu_readers.proofs.Parts.{good_where_read}
use Rattle.flu_readers.proofs.Streams.{good_streams}
use Rattle.flu_readers.proofs.laws.good_sources_give_streams.Goals as goal

pub returns-clause-streams : goal.returns-clause-streams
returns-clause-streams c = good_streams

pub returns-clause-read : goal.returns-clause-read
returns-clause-read c = good_where_read c.closed_sources_have_no_defect.ensures.first c.closed_sources_have_no_defect.ensures.good
