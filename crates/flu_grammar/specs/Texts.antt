-- What job texts and plan texts have to be before they are read as tokens.
use Rattle.std.specs.Prelude.{◌≤◌, ℕ, List, length}
use Rattle.std.specs.Str.{IsUtf8}

-- UTF-8 of at most 1,048,576 bytes
pub record IsShortText (bytes : List ℕ) : Type 0 where
  pub short : length bytes ≤ 1048576
  pub utf8 : IsUtf8 bytes
