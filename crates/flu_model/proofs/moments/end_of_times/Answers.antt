use Rattle.std.proofs.Common.{arith}
use Prim.{grind}
use Rattle.flu_model.proofs.TimeLemmas.{less_of, end_within}
use Rattle.flu_model.specs.Moments.{end_with_clocks}
use Rattle.flu_model.proofs.moments.end_of_times.Goals as goal

pub loop-source-init : goal.loop-source-init
loop-source-init c =
    let limit = c.limit_of_times-limit.result in
    (less_of limit (end_with_clocks limit c.args.p.now.sources) (end_within limit c.args.p.now.sources), grind (arith))
