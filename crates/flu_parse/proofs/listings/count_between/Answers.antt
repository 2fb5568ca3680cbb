use Rattle.std.proofs.Common.{◌+◌, ◌-◌, arith}
use Rattle.std.proofs.lemmas.List.FromFn.{length-range_with_len}
use Rattle.flu_parse.proofs.listings.count_between.Goals as goal

pub returns-then-lo-hi : goal.returns-then-lo-hi
returns-then-lo-hi c = omega (arith, length-range_with_len c.args.lo (c.args.hi + 1 - c.args.lo))
