use Rattle.flu_readers.proofs.Alike.{read_files_matter}
use Rattle.flu_readers.proofs.laws.files_that_are_read_matter.Goals as goal

pub returns : goal.returns
returns c = read_files_matter c.selected_sources_are_read.ensures.ranks c.closed_sources_have_no_defect.ensures.first
