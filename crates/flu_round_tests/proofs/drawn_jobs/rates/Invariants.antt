use Rattle.std.proofs.Common.{◌≡◌, ◌≤◌, ◌^◌, length, All}
use Rattle.flu_round_tests.proofs.drawn_jobs.rates.Given as goal

abbrev pub invariant-loop : goal.invariant-loop
invariant-loop l = (length l.rates.items ≡ l.counter) × All (λ rate. rate ≤ 2 ^ 40) l.rates.items
