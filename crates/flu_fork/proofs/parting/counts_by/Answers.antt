use Rattle.flu_lemmas.proofs.Listed.{list_turn}
use Rattle.flu_fork.specs.Tables.{count_by}
use Rattle.flu_fork.proofs.parting.counts_by.Goals as goal

pub loop-i-preserved : goal.loop-i-preserved
loop-i-preserved c =
    list_turn (count_by c.args.is_right.now c.args.lefts.now c.args.rights.now) c.loop-i.i _ _ _ c.in_ok-push.ensures.items c.count_by.ensures
    c.loop-i.invariant
