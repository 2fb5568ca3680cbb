use Rattle.flu_merge.proofs.Times.{good_merged}
use Rattle.flu_merge.proofs.laws.good_files_are_merged.Goals as goal

pub returns : goal.returns
returns c = good_merged
