use Rattle.std.specs.Prelude.{[]}
use Rattle.flu_readers.specs.Reading.{reads}
use Rattle.flu_selected.specs.Laws.{selected}
use Rattle.flu_readers.proofs.Idle.{sends_alike}
use Rattle.flu_readers.proofs.laws.a_node_reads_its_part.Goals as goal

pub returns : goal.returns
returns c = λ p nodes w left may all good.
    let read = c.selected_sources_are_read.ensures in
    let streams = read.streams p (reads p nodes w) [] left all in
    record {
      length = read.length p [] (selected p (reads p nodes w) left);
      streams = streams;
      sends = sends_alike read.ranks read.lists read.ticks read.length p nodes w left may all streams c.idle_events_dont_matter.ensures
          c.merged_lists_agree.ensures.events c.merged_events_rise_strictly.ensures;
    }
