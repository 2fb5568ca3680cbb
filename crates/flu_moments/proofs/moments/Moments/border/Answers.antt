use Rattle.std.proofs.Common.{arith}
use Rattle.flu_moments.proofs.MomentLemmas.{next_time_fits}
use Rattle.flu_moments.proofs.moments.Moments.border.Goals as goal

pub overflow_mul-result-2 : goal.overflow_mul-result-2
overflow_mul-result-2 c =
    let m = c.args.self in
    let fits = next_time_fits m.sources m.ties c.args.time m.has_a_source m.has_a_place m.in_range c.requires in
    omega arith

pub returns-clause-in_range : goal.returns-clause-in_range
returns-clause-in_range c =
    let m = c.args.self in
    let fits = next_time_fits m.sources m.ties c.args.time m.has_a_source m.has_a_place m.in_range c.requires in
    omega arith
