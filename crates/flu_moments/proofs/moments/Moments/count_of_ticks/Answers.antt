use Rattle.std.proofs.Common.{length, sym, ap, ◌∙◌}
use Rattle.flu_moments.proofs.TickLemmas.{only_ticks}
use Rattle.flu_moments.proofs.moments.Moments.count_of_ticks.Goals as goal

pub returns-clause-some : goal.returns-clause-some
returns-clause-some c = λ rows ticks span is.
    let m = c.args.self in
    ap length (only_ticks m.sources m.ties c.args.every c.args.clock rows ticks c.in_ok-ticks.ticks is (c.in_ok-ticks.ensures.some rows span))
    ∙ sym c.count.ensures
