-- Which letters distinguish most names from the reserved words at once: all of a word of two or three, and the first four of a longer one.
use Rattle.std.specs.Prelude.{ℕ, Bool, false, if◌then◌else◌, ◌==◌, ◌||◌, ◌&&◌, List, [], ◌∷◌}

abbrev pub is_pair : ℕ → ℕ → Bool
is_pair first second = (first == 111) && ((second == 110) || (second == 114))

abbrev pub is_triple : ℕ → ℕ → ℕ → Bool
is_triple first second third =
    if first == 97 then (((second == 108) && (third == 108)) || ((second == 100) && (third == 100)) || ((second == 110) && (third == 100))) else
    if first == 101 then (((second == 110) && (third == 100))) else
    if first == 104 then (((second == 97) && (third == 115))) else
    if first == 105 then (((second == 110) && (third == 116))) else
    if first == 107 then (((second == 101) && (third == 121))) else
    if first == 109 then (((second == 97) && (third == 120))) else
    if first == 110 then (((second == 111) && (third == 116))) else
    if first == 115 then (((second == 117) && (third == 109)) || ((second == 101) && (third == 116))) else
    if first == 116 then (((second == 97) && (third == 103))) else
    false

abbrev pub begins_longer : ℕ → ℕ → ℕ → ℕ → Bool
begins_longer first second third fourth =
    if first == 98 then (((second == 101) && (third == 97) && (fourth == 116))) else
    if first == 99 then (((second == 101) && (third == 108) && (fourth == 108)) || ((second == 108) && (third == 101) && (fourth == 97))) else
    if first == 100 then (((second == 101) && (third == 112) && (fourth == 101))) else
    if first == 101 then (((second == 109) && (third == 105) && (fourth == 116))) else
    if first == 102 then (((second == 108) && (third == 117) && (fourth == 115))) else
    if first == 107 then (((second == 101) && (third == 121) && (fourth == 101))) else
    if first == 108 then (((second == 97) && (third == 115) && (fourth == 116))) else
    if first == 110 then (((second == 111) && (third == 110) && (fourth == 101)) || ((second == 111) && (third == 100) && (fourth == 101))) else
    if first == 114 then (((second == 97) && (third == 116) && (fourth == 101)) || ((second == 97) && (third == 105) && (fourth == 115))) else
    if first == 115 then (((second == 111) && (third == 117) && (fourth == 114)) || ((second == 97) && (third == 109) && (fourth == 101))
    || ((second == 108) && (third == 97) && (fourth == 99))) else
    if first == 116 then (((second == 105) && (third == 109) && (fourth == 101))) else
    if first == 118 then (((second == 97) && (third == 108) && (fourth == 117)) || ((second == 101) && (third == 114) && (fourth == 115))) else
    if first == 119 then (((second == 104) && (third == 101) && (fourth == 110))) else
    false

abbrev pub may_be_reserved : List ℕ → Bool
may_be_reserved [] = false
may_be_reserved (first ∷ []) = false
may_be_reserved (first ∷ second ∷ []) = is_pair first second
may_be_reserved (first ∷ second ∷ third ∷ []) = is_triple first second third
may_be_reserved (first ∷ second ∷ third ∷ fourth ∷ rest) = begins_longer first second third fourth
