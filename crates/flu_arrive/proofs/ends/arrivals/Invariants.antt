use Rattle.std.proofs.Common.{◌≡◌, vec_len, All}
use Rattle.flu_arrive.specs.Notes.{unseen, zeros}
use Rattle.flu_arrive.proofs.ends.arrivals.Given as goal

abbrev pub invariant-loop : goal.invariant-loop
invariant-loop l = (l.feeder.limits ≡ l.limits) × (l.feeder.counts ≡ zeros l.limits) × (vec_len l.watches ≡ l.counter)
    × All (λ w. w ≡ unseen l.limits) l.watches.items
