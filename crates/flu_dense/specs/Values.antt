-- Finite maps from numbers.
use Rattle.std.specs.Prelude.{ℕ, Option, ◌==◌, if◌then◌else◌}

-- the map with one value changed
abbrev pub with_value : {V : Type 0} → (ℕ → Option V) → ℕ → Option V → ℕ → Option V
with_value m slot v = λ s. if s == slot then v else m s
