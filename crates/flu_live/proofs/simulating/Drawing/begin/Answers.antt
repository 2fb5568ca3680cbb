use Rattle.std.proofs.Common.{◌^◌, ◌<◌, refl, arith}
use Rattle.flu_net.specs.Measure.{most_steps}
use Rattle.flu_live.proofs.Turns.{begun_run}
use Rattle.flu_live.proofs.simulating.Drawing.begin.Goals as goal

pub returns-clause-way : goal.returns-clause-way
returns-clause-way c =
    let few : most_steps c.args.case.now < 2 ^ 128 = omega arith in
    begun_run c.args.case.now _ c.in_ok-net.ensures.start refl c.requires.seed c.none.ensures refl c.requires.empty c.in_ok-net.ensures.most few
