-- How components are divided between two children.
use Rattle.std.specs.Prelude.{ℕ, Bool, nat_lt, nat_le, ◌==◌, ◌&&◌, ◌||◌, List, [], ◌∷◌, ◌++◌, length, if◌then◌else◌}
use Rattle.flu_planner.specs.Graphs.{total_rate}

-- the next component goes to the group with the smaller total rate so far; for equal totals to the one with fewer itags, and for equal numbers to the left one
abbrev pub goes_left : List ℕ → List ℕ → List ℕ → Bool
goes_left rates left right =
    nat_lt (total_rate rates left) (total_rate rates right)
    || (total_rate rates left == total_rate rates right && nat_le (length left) (length right))

-- two groups with components put into them, one after another
abbrev pub grouped : List ℕ → List ℕ → List ℕ → List (List ℕ) → List ℕ × List ℕ
grouped rates left right [] = (left, right)
grouped rates left right (c ∷ cs) =
    if goes_left rates left right then grouped rates (left ++ c) right cs else grouped rates left (right ++ c) cs
