-- The end of times is not above the limit.
use Rattle.std.proofs.Common.{arith, ◌≡◌, ℕ, ◌+◌, ◌≤◌, min, List, [], ◌∷◌, ap, ◌∙◌}
use Prim.{grind}
use Rattle.std.specs.Option.{option_map_or}
use Rattle.flu_model.specs.declared.jobs.Source.{Source}
use Rattle.flu_model.specs.Moments.{last_multiple, end_with_clocks}

pub least_of : (a b c : ℕ) → b ≤ c → min a b ≤ c
least_of a b c le = grind (arith)

pub less_of : (a b : ℕ) → b ≤ a → min a b ≡ b
less_of a b le = grind (arith)

pub end_within : (limit : ℕ) (sources : List Source) → end_with_clocks limit sources ≤ limit
end_within limit [] = grind (arith)
end_within limit (s ∷ sources) = least_of (option_map_or (last_multiple limit) s.every limit) (end_with_clocks limit sources) limit (end_within limit sources)
