use Rattle.flu_readers.proofs.Parts.{streams_where_all_read}
use Rattle.flu_readers.proofs.laws.good_parts_give_streams.Goals as goal

pub returns : goal.returns
returns c = λ p nodes ws beside left good rest.
    let read = c.selected_sources_are_read.ensures in
    streams_where_all_read c.closed_sources_have_no_defect.ensures.first read.lists read.ticks read.length p left nodes ws beside good rest
