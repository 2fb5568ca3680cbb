use Rattle.std.proofs.Common.{◌≡◌, drop}
use Rattle.std.specs.List.{fold}
use Rattle.flu_worker.specs.Choosing.{sight_at, own_itags, next_at}
use Rattle.flu_worker.specs.Sights.{earlier_due, first_due}
use Rattle.flu_worker.proofs.choosing.first_due.Given as goal

abbrev pub invariant-loop-i : goal.invariant-loop-i
invariant-loop-i l =
    (l.i-items ≡ own_itags l.case l.node)
    × (fold (λ found i. earlier_due found (next_at (sight_at l.case l.node l.mail) i)) l.found (drop l.i-index l.i-items) ≡ first_due
    (sight_at l.case l.node l.mail))
