use Rattle.std.proofs.Common.{◌≡◌, map}
use Rattle.std.specs.List.{range_with_len}
use Rattle.flu_command.proofs.RateLemmas.{rate_at}
use Rattle.flu_command.proofs.rates.source_rates.Given as goal

abbrev pub invariant-loop-number : goal.invariant-loop-number
invariant-loop-number l = l.rates.items ≡ map (rate_at l.program) (range_with_len 0 l.number)
