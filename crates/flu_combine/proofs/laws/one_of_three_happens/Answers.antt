use Rattle.flu_combine.proofs.Excluding.{no_partial_is_faulty, no_source_is_faulty, sources_or_partials}
use Rattle.flu_combine.proofs.laws.one_of_three_happens.Goals as goal

pub returns : goal.returns
returns c = record {
  partials =
      no_partial_is_faulty c.reasons_are_one.ensures c.bytes_have_one_fault.ensures c.faulty_bytes_are_not_whole.ensures c.partials_have_one_text.ensures
      c.lines_determine.ensures c.alike_queues_join_alike.ensures;
  sources = no_source_is_faulty c.partials_have_one_text.ensures c.lines_determine.ensures;
  apart =
      sources_or_partials c.reasons_are_one.ensures c.bytes_have_one_fault.ensures c.faulty_bytes_are_not_whole.ensures c.partials_have_one_text.ensures
      c.lines_determine.ensures;
}
