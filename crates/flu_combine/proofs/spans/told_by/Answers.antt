use Rattle.std.proofs.Common.{◌≡◌, true, refl, sym, ◌∙◌}
use Rattle.flu_combine.proofs.Telling.{two_early}
use Rattle.flu_combine.proofs.spans.told_by.Goals as goal

pub returns-clause-early : goal.returns-clause-early
returns-clause-early c =
    let clocks : c.has_clocks.result ≡ true = cc c.if-not-has_clocks.false in
    two_early c.args.p.now c.has_clocks.result (sym c.has_clocks.ensures) clocks c.args.first c.args.last c.in-Some-Some.first c.in-Some-Some.last
    c.from.result c.from-2.result c.in-Some-Some.is-0 c.in-Some-Some.is-1 c.from.ensures c.from-2.ensures c.requires.fit
