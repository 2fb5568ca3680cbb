-- How often a number occurs in a list.
use Rattle.std.specs.Prelude.{ℕ, ◌==◌, List, count_by}

abbrev pub times : ℕ → List ℕ → ℕ
times i xs = count_by (λ j. j == i) xs
