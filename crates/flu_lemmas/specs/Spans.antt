-- The bytes of a text between two places of it.
use Rattle.std.specs.Prelude.{ℕ, Bool, ◌&&◌, ◌||◌, nat_lt, nat_le, if◌then◌else◌, List, [], length, slice_index, slice_range}

-- a character begins at a place, or the text ends there
abbrev pub is_boundary : List ℕ → ℕ → Bool
is_boundary text i = nat_le i (length text) && (nat_le (length text) i || nat_lt (slice_index text i) 128 || nat_le 192 (slice_index text i))

-- the bytes from one place up to another; none if these are not places of a text
abbrev pub spelled : List ℕ → ℕ → ℕ → List ℕ
spelled text from to = if nat_le from to && is_boundary text from && is_boundary text to then slice_range text from to else []
