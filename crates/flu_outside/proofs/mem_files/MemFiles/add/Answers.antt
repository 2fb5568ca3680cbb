use Rattle.std.proofs.Common.{arith}
use Rattle.std.proofs.lemmas.Map.Text.{text_keys}
use Rattle.flu_outside.proofs.mem_files.MemFiles.add.Goals as goal

pub returns-in-Some-clause-others : goal.returns-in-Some-clause-others
returns-in-Some-clause-others c = λ n other. grind (arith, text_keys)

pub returns-in-Some-clause-counts : goal.returns-in-Some-clause-counts
returns-in-Some-clause-counts c = λ n. grind (arith, text_keys)

pub returns-clause-others : goal.returns-clause-others
returns-clause-others c = λ n other. grind (arith, text_keys)

pub returns-clause-counts : goal.returns-clause-counts
returns-clause-counts c = λ n. grind (arith, text_keys)

pub returns-in-Some-clause-put_counts : goal.returns-in-Some-clause-put_counts
returns-in-Some-clause-put_counts c = λ n. grind (arith, text_keys)

pub returns-clause-put_counts : goal.returns-clause-put_counts
returns-clause-put_counts c = λ n. grind (arith, text_keys)
