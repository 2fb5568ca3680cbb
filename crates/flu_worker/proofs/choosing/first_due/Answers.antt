use Rattle.std.proofs.Common.{ap, ◌∙◌}
use Rattle.flu_worker.specs.Choosing.{sight_at}
use Rattle.flu_worker.specs.Sights.{earlier_due}
use Rattle.flu_worker.proofs.Dues.{due_on}
use Rattle.flu_worker.proofs.EarliestLemmas.{known_in}
use Rattle.flu_worker.proofs.choosing.first_due.Goals as goal

pub next_at-requires-clause-known : goal.next_at-requires-clause-known
next_at-requires-clause-known c =
    known_in c.args.case.now c.args.node c.own_itags-i-items.result.now c.loop-i.i-index _ c.own_itags-i-items.ensures.listed c.loop-i-test.true

pub loop-i-preserved : goal.loop-i-preserved
loop-i-preserved c = (
  c.loop-i.invariant.0,
  due_on (sight_at c.args.case.now c.args.node c.args.mail.now) c.loop-i.found c.earlier_due-found.result c.own_itags-i-items.result.now
      c.loop-i.i-index _ c.loop-i-test.true c.loop-i.invariant.1 (c.earlier_due-found.ensures ∙ ap (earlier_due c.loop-i.found) c.next_at.ensures),
)
