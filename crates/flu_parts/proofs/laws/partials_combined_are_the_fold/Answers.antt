use Rattle.flu_parts.proofs.Folding.{combined_fold}
use Rattle.flu_parts.proofs.laws.partials_combined_are_the_fold.Goals as goal

pub returns : goal.returns
returns c = combined_fold (record {
  one_job = c.texts_have_one_job.ensures;
  one_plan = c.programs_of_a_job_have_one_plan.ensures.one;
  grammar = c.plans_are_grammar.ensures;
  utf8 = c.normal_forms_are_utf8.ensures;
  has_text = c.plans_have_text.ensures;
  size = c.selected_sources_are_read.ensures.length;
  ranks = c.selected_sources_are_read.ensures.ranks;
  defects = c.closed_sources_have_no_defect.ensures.first;
  select_same = c.programs_of_a_job_select_the_same.ensures;
  files = c.files_that_are_read_matter.ensures;
  streams = c.good_sources_give_streams.ensures.streams;
  read_same = c.programs_of_a_job_read_the_same_parts.ensures;
  one_partial = c.programs_of_a_job_have_one_partial.ensures;
  readable = c.what_is_read_is_readable.ensures.readable;
  tells_rows = c.what_is_read_is_readable.ensures.tells;
  one_text = c.partials_have_one_text.ensures;
  are_whole = c.texts_are_whole_partials.ensures.whole;
  tell = c.texts_are_whole_partials.ensures.tell;
  combined = c.partials_are_combined.ensures;
})
