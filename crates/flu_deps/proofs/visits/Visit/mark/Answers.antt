use Rattle.std.specs.List.{list_all}
use Rattle.flu_deps.specs.LoopVisits.{action_all}
use Rattle.flu_deps.proofs.VisitLemmas.{marked_told, follows_itself}
use Rattle.flu_deps.proofs.visits.Visit.mark.Goals as goal

pub returns-clause-marked : goal.returns-clause-marked
returns-clause-marked c =
    let v = c.actions.new.self in
    let follows = c.actions.ensures.follows in
    marked_told v c.args.class follows.class follows.marking (λ test. list_all (action_all test) c.args.actions.now)
    (c.actions.ensures.told v (follows_itself v))
