use Rattle.flu_combine.proofs.Lawful.{partials_combined}
use Rattle.flu_combine.proofs.laws.partials_are_combined.Goals as goal

pub returns : goal.returns
returns c =
    partials_combined c.partials_have_one_text.ensures c.lines_determine.ensures c.selected_sources_are_read.ensures.length c.files_that_are_read_matter.ensures
    c.good_parts_give_streams.ensures c.a_node_reads_its_part.ensures c.the_rest_is_read.ensures c.empty_openings_start_empty.ensures
    c.what_was_sent_gives_the_report.ensures
