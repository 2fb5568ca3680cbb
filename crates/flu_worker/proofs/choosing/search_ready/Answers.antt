use Rattle.flu_worker.proofs.EarliestLemmas.{known_in}
use Rattle.flu_worker.proofs.choosing.search_ready.Goals as goal

pub earlier_ready-found-requires-clause-known : goal.earlier_ready-found-requires-clause-known
earlier_ready-found-requires-clause-known c =
    known_in c.args.case.now c.args.node c.own_itags-i-items.result.now c.loop-i.i-index _ c.own_itags-i-items.ensures.listed c.loop-i-test.true
