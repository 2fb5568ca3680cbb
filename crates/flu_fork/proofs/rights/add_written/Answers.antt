use Rattle.std.proofs.lemmas.Result.{on_ok_weaker}
use Rattle.flu_fork.proofs.GatheringLemmas.{written_grows}
use Rattle.flu_fork.proofs.rights.add_written.Goals as goal

pub returns : goal.returns
returns c =
    on_ok_weaker c.add_targets.result
    (λ grown d. written_grows c.modes_are_of_actions.ensures.writes c.args.p.now c.args.t d _ _ c.requires (grown d))
    c.add_targets.ensures
