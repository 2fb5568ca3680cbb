use Rattle.std.proofs.Common.{◌≡◌, ℕ, map}
use Rattle.std.specs.List.{range_with_len}
use Rattle.flu_net.proofs.starting.no_counts.Given as goal

abbrev pub invariant-loop-itag : goal.invariant-loop-itag
invariant-loop-itag l = l.numbers.items ≡ map (λ (i : ℕ). 0) (range_with_len 0 l._itag)
