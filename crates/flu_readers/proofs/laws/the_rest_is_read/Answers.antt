use Rattle.flu_selected.specs.Laws.{selected}
use Rattle.flu_readers.specs.Reading.{reads_rest}
use Rattle.flu_readers.proofs.Rest.{rest_agrees}
use Rattle.flu_readers.proofs.laws.the_rest_is_read.Goals as goal

pub returns : goal.returns
returns c = λ p nodes ws beside left told all good.
    let read = c.selected_sources_are_read.ensures in
    record {
      length = read.length p beside (selected p (reads_rest p nodes ws) left);
      streams = read.streams p (reads_rest p nodes ws) beside left all;
      agree = rest_agrees read.ranks read.lists read.ticks read.length p nodes ws beside left told;
    }
