use Rattle.std.proofs.Common.{refl, arith}
use Rattle.std.proofs.lemmas.Iterator.{items_from_collect, YieldsList-from_range}
use Rattle.flu_model.specs.Itags.{count_of_itags}
use Rattle.flu_planner.proofs.nodes.all_itags.Goals as goal

pub returns : goal.returns
returns c = items_from_collect _ c.collect.ensures.ran (YieldsList-from_range 0 c.itag_count.result (count_of_itags c.args.p.now) refl
    (let e = c.itag_count.ensures in omega arith))
