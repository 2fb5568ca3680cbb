use Rattle.std.proofs.Common.{sym, ◌∙◌}
use Rattle.flu_rules.proofs.DistinctLemmas.{read_again}
use Rattle.flu_rules.proofs.distinct.reads_file.Goals as goal

pub returns : goal.returns
returns c = c.any_reads.ensures ∙ sym (read_again c.args.file.now c.args.sources.now)
