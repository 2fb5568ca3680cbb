use Rattle.std.proofs.Common.{◌≡◌, take, map, ℕ, ◌^◌}
use Rattle.std.specs.Prelude.{min}
use Rattle.flu_adaptive.proofs.observing.observed_rates.Given as goal

abbrev pub invariant-loop-count : goal.invariant-loop-count
invariant-loop-count l = l.rates.items ≡ map (λ (count : ℕ). min count (2 ^ 40)) (take l.count-index l.counts)
