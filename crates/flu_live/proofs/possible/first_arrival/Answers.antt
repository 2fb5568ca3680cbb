use Rattle.std.proofs.Common.{◌≡◌, [], map, subst, ap, arith}
use Rattle.std.specs.List.{range_with_len}
use Rattle.flu_model.specs.Itags.{count_of_itags}
use Rattle.flu_fork.specs.Lots.{job}
use Rattle.flu_live.specs.Possible.{arrival, enabled_among}
use Rattle.flu_live.proofs.Chosen.{arrival_more}
use Rattle.flu_live.proofs.possible.first_arrival.Goals as goal

pub loop-i-preserved : goal.loop-i-preserved
loop-i-preserved c = (c.loop-i.invariant.0, arrival_more c.args.net.now c.loop-i.i c.loop-i.invariant.1 c.if-is_one.ensures.off)

pub returns-clause-none : goal.returns-clause-none
returns-clause-none c =
    let same : c.loop-i.i ≡ count_of_itags (job c.args.net.now.case) = omega (arith, c.loop-i.invariant.0, ap (λ k. count_of_itags (job k)) c.requires) in
    subst (λ m. enabled_among c.args.net.now (map arrival (range_with_len 0 m)) ≡ []) same c.loop-i.invariant.1
