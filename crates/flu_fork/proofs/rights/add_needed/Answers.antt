use Rattle.std.proofs.lemmas.Result.{on_ok_weaker}
use Rattle.flu_fork.proofs.GatheringLemmas.{needed_grows, grown_alike}
use Rattle.flu_fork.proofs.rights.add_needed.Goals as goal

pub returns : goal.returns
returns c =
    on_ok_weaker c.add_targets.result
    (λ grown d. needed_grows c.modes_are_of_actions.ensures.needs c.args.p.now c.args.t d _ _ _ _ (c.requires d)
    (grown_alike c.args.set.now c.add_reads.new.set c.args.nothing.now d _ (c.requires d) (c.in_ok-add_reads.ensures d)) (grown d))
    c.add_targets.ensures
