use Rattle.std.proofs.Common.{◌*◌, ◌+◌, arith}
use Rattle.flu_moments.proofs.MomentLemmas.{next_time_fits, moment_in_time, product_le}
use Rattle.flu_moments.proofs.moments.Moments.moment.Goals as goal

pub overflow_mul-result : goal.overflow_mul-result
overflow_mul-result c =
    let m = c.args.self in
    let fits = next_time_fits m.sources m.ties c.args.time m.has_a_source m.has_a_place m.in_range c.requires.time in
    let inside = moment_in_time m.sources m.ties c.args.time c.args.source c.args.place
    (record { source_in_range = c.requires.source; place_in_range = c.requires.place }) in
    let line = product_le 1 m.ties (c.args.time * m.sources + c.args.source) m.has_a_place in
    omega arith

pub returns-clause-in_range : goal.returns-clause-in_range
returns-clause-in_range c =
    let m = c.args.self in
    let fits = next_time_fits m.sources m.ties c.args.time m.has_a_source m.has_a_place m.in_range c.requires.time in
    let inside = moment_in_time m.sources m.ties c.args.time c.args.source c.args.place
    (record { source_in_range = c.requires.source; place_in_range = c.requires.place }) in
    omega arith
