-- Files of which some names read as sources without a row.
use Rattle.std.specs.Prelude.{◌≡◌, ℕ, Bool, ◌&&◌, List, [], ◌∷◌, Option, Some, None, is_some, option_map, if◌then◌else◌}
use Rattle.std.specs.Option.{option_or}
use Rattle.std.specs.List.{list_any}
use Rattle.std.specs.Str.{bytes_eq}
use Rattle.flu_outside.specs.Outside.{Contents}

-- THE LINE OF A SOURCE WITHOUT A ROW: `end` and a line feed
abbrev pub end_line : List ℕ
end_line = 101 ∷ 110 ∷ 100 ∷ 10 ∷ []

-- CLOSED: under each closed name is what is left of that line, and all others have what they have
abbrev pub with_closed : Contents → Contents → Contents
with_closed lines left name = option_or (lines name) (left name)

-- a name is one of these
abbrev pub is_among : List (List ℕ) → List ℕ → Bool
is_among names name = list_any (bytes_eq name) names

-- the line, whole, under each of these names
abbrev pub whole_lines : List (List ℕ) → Contents
whole_lines names name = if is_among names name then Some end_line else None

-- before anything is taken: each of these names has the line, and all others have what they have
abbrev pub closed_at : List (List ℕ) → Contents → Contents
closed_at names left = with_closed (whole_lines names) left

-- if under the closed names is the whole line, the names have what `closed_at` says
abbrev pub IsClosedAt : Contents → Option Contents → Option Contents → Type 0
IsClosedAt lines behind now = (names : List (List ℕ)) → lines ≡ whole_lines names → now ≡ option_map (closed_at names) behind

-- what all names have left, if that is known of the files behind
abbrev pub left_beside : Option Contents → Contents → Option Contents
left_beside left lines = option_map (with_closed lines) left

-- the counts by name, where it is known what the names have left but for the closed ones, which never fail
abbrev pub counts_beside : Option Contents → Contents → (List ℕ → ℕ) → List ℕ → ℕ
counts_beside left lines counts name = if is_some left && is_some (lines name) then 0 else counts name
