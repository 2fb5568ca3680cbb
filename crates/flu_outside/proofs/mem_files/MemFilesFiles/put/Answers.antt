use Rattle.std.proofs.Common.{arith}
use Rattle.std.proofs.lemmas.Map.Text.{text_keys}
use Rattle.flu_outside.proofs.mem_files.MemFilesFiles.put.Goals as goal

pub returns-then-fails-clause-others : goal.returns-then-fails-clause-others
returns-then-fails-clause-others c = λ is other apart. let h = c.in_ok-enter.ensures.others other apart in grind (arith, text_keys, h)

pub returns-then-fails-clause-counts : goal.returns-then-fails-clause-counts
returns-then-fails-clause-counts c = λ n. let h = c.enter.ensures.put_counts n in grind (arith, text_keys, h)

pub returns-then-fails-clause-apart : goal.returns-then-fails-clause-apart
returns-then-fails-clause-apart c = λ n apart. let h = c.enter.ensures.put_counts n in grind (arith, text_keys, h)

pub returns-then-fails-clause-takes : goal.returns-then-fails-clause-takes
returns-then-fails-clause-takes c = λ n. let h = c.enter.ensures.counts n in grind (arith, text_keys, h)

pub returns-clause-holds : goal.returns-clause-holds
returns-clause-holds c = record {
  here = grind (arith, text_keys);
  others = λ other apart. let h = c.in_ok-enter.ensures.others other apart in grind (arith, text_keys, h);
}

pub returns-clause-quiet : goal.returns-clause-quiet
returns-clause-quiet c = λ n. let h = c.enter.ensures.put_counts n in grind (arith, text_keys, h)

pub returns-clause-counts : goal.returns-clause-counts
returns-clause-counts c = λ n. let h = c.enter.ensures.put_counts n in grind (arith, text_keys, h)

pub returns-clause-apart : goal.returns-clause-apart
returns-clause-apart c = λ n apart. let h = c.enter.ensures.put_counts n in grind (arith, text_keys, h)

pub returns-clause-takes : goal.returns-clause-takes
returns-clause-takes c = λ n. let h = c.enter.ensures.counts n in grind (arith, text_keys, h)
