use Rattle.std.proofs.Common.{arith, ◌-◌, ◌+◌}
use Rattle.std.proofs.lemmas.List.FromFn.{length-range_with_len}
use Rattle.flu_streams.proofs.tags.key_count.Goals as goal

pub overflow_add-result : goal.overflow_add-result
overflow_add-result c =
    let e = length-range_with_len c.in-Range.lo (c.in-Range.hi + 1 - c.in-Range.lo) in
    let few = rw (c.in-Range.is, e) at c.requires in
    omega (arith, few)

pub returns-then-lo-hi : goal.returns-then-lo-hi
returns-then-lo-hi c =
    let e = length-range_with_len c.in-Range.lo (c.in-Range.hi + 1 - c.in-Range.lo) in
    rw (c.in-Range.is, e) (omega arith)
