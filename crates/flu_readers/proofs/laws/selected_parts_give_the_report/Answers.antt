use Rattle.std.specs.Prelude.{[], map}
use Rattle.flu_streams.specs.Good.{lists_of}
use Rattle.flu_readers.specs.Laws.{SelectedPartsGiveTheReport}
use Rattle.flu_readers.specs.Reading.{reads_rest, part_read, rest_read}
use Rattle.flu_readers.proofs.Parts.{each_reads, each_good, no_clock_no_tick}
use Rattle.flu_readers.proofs.laws.selected_parts_give_the_report.Goals as goal

pub returns : goal.returns
returns c =
    let parts : SelectedPartsGiveTheReport = λ p nodes ws beside opening left setting apart told good rest.
    let all = c.good_parts_give_streams.ensures p nodes ws beside left good rest in
    c.parts_give_the_report.ensures p nodes ws opening (lists_of p left) (map (part_read p nodes left) ws) (rest_read p nodes ws beside left) setting apart
    (c.selected_sources_are_read.ensures.length p [] left) all (each_reads c.a_node_reads_its_part.ensures p nodes left ws apart.each all good)
    (c.the_rest_is_read.ensures p nodes ws beside left told all rest) in
    record {
      parts = parts;
      good = λ p nodes ws opening left no_clock setting apart good.
          parts p nodes ws [] opening left setting apart (no_clock_no_tick p nodes left ws no_clock)
          (each_good c.good_sources_give_streams.ensures.read p nodes left no_clock good ws)
          (c.good_sources_give_streams.ensures.read p (reads_rest p nodes ws) left no_clock good);
    }
