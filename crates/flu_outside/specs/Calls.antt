-- The calls of an object in memory.
use Rattle.std.specs.Prelude.{ℕ, ◌+◌, ◌-◌, ◌^◌, ◌==◌, min, Bool, List, [], ◌∷◌, ◌++◌, drop, slice_get, unwrap_or}
use Rattle.std.specs.List.{list_any}

-- how many calls were made, which calls fail, counted from 1, and how many bytes a call moves at most: the next call, and then
-- each call after it, where the last number holds for all later ones
pub record Calls : Type 0 where
  pub made : ℕ
  pub failing : List ℕ
  pub piece : ℕ
  pub later : List ℕ

-- no call was made, none fails, and a call moves all that it can
abbrev pub as_made : Calls
as_made = record { made = 0; failing = []; piece = 2 ^ 64 - 1; later = [] }

-- one more call fails
abbrev pub with_failing : ℕ → Calls → Calls
with_failing call calls = record calls { failing = calls.failing ++ call ∷ [] }

-- a call moves at most this many bytes
abbrev pub with_piece : ℕ → Calls → Calls
with_piece most calls = record calls { piece = most }

-- after the calls that have their number, one more moves at most this many bytes
abbrev pub with_later : ℕ → Calls → Calls
with_later most calls = record calls { later = calls.later ++ most ∷ [] }

-- the number of the next call, counted up to 2^64 - 1
abbrev pub next_call : Calls → ℕ
next_call calls = min (calls.made + 1) (2 ^ 64 - 1)

-- whether the next call fails
abbrev pub next_fails : Calls → Bool
next_fails calls = list_any (λ call. call == next_call calls) calls.failing

-- one more call was made
abbrev pub after_call : Calls → Calls
after_call calls = record calls { made = next_call calls; piece = unwrap_or (slice_get calls.later 0) calls.piece; later = drop 1 calls.later }
