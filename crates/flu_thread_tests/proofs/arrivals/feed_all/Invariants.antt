use Rattle.std.proofs.Common.{◌≡◌, [], ◌∷◌}
use Rattle.flu_thread_tests.proofs.arrivals.feed_all.Given as goal

abbrev pub invariant-loop : goal.invariant-loop
invariant-loop l = (l.feeder.limits ≡ 30000 ∷ 30000 ∷ []) × (l.feeder.counts ≡ l.counter ∷ l.counter ∷ [])
