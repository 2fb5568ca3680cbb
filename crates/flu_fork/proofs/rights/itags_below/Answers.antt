use Rattle.flu_lemmas.proofs.Listed.{list_turn}
use Rattle.flu_deps.specs.Validated.{plan_of}
use Rattle.flu_fork.specs.Classes.{below}
use Rattle.flu_fork.proofs.rights.itags_below.Goals as goal

pub loop-i-preserved : goal.loop-i-preserved
loop-i-preserved c =
    list_turn (below c.args.p.now (plan_of c.args.v.now).nodes c.args.w) c.loop-i.i _ _ _ c.in_ok-push.ensures.items c.is_below.ensures c.loop-i.invariant
