-- What names have left once some of them were read to their end.
use Rattle.std.specs.Prelude.{ℕ, List, [], Some, if◌then◌else◌}
use Rattle.flu_outside.specs.Outside.{Contents}
use Rattle.flu_outside.specs.Taking.{bytes_left}
use Rattle.flu_selected.specs.Selecting.{is_among}

-- READ OUT: nothing is left of these names, and all others have what they have
abbrev pub read_out : List (List ℕ) → Contents → Contents
read_out names left name = if is_among names name then Some [] else left name

-- the bytes that are read of a name once these names were read to their end
abbrev pub bytes_behind : List (List ℕ) → Contents → List ℕ → List ℕ
bytes_behind earlier left name = bytes_left (read_out earlier left) name
