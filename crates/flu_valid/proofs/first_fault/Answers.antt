use Rattle.flu_valid.proofs.ClashLemmas.{valid_where_none}
use Rattle.flu_valid.proofs.first_fault.Goals as goal

pub returns-in-Ok-clause-none : goal.returns-in-Ok-clause-none
returns-in-Ok-clause-none c =
    valid_where_none c.args.p.now c.args.plan.now.nodes c.first_clash.result c.dependency_turns.ensures c.in-Ok.ensures.counted c.first_clash.ensures.none
