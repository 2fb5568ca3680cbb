-- What is at the front of the bytes in a line buffer.
use Rattle.std.specs.Prelude.{◌≡◌, ℕ, ◌≤◌, ◌<◌, List, [], length, ◌⊎◌}
use Rattle.flu_lemmas.specs.Lines.{line_len}
use Rattle.flu_outside.specs.declared.lines.Found.{Found}
use Rattle.flu_outside.specs.declared.lines.Found.TheVariants.{Line, Last, TooLong, End}

-- what was found at the front of these bytes, if a line has at most `longest` bytes
abbrev pub IsFound : ℕ → List ℕ → Found → Type 0
IsFound longest held (Line len) = (len ≡ line_len held) × (len ≤ longest) × (len < length held)
IsFound longest held Last = (line_len held ≡ length held) × (0 < length held) × (length held ≤ longest)
IsFound longest held TooLong = longest < line_len held
IsFound longest held End = held ≡ []

-- the bytes in the buffer are the last of the file
abbrev pub IsLast : Found → Type 0
IsLast found = (found ≡ Last) ⊎ (found ≡ End)

-- some bytes have no line feed, and are no more than a line may be
pub record HasNoLine (longest : ℕ) (bytes : List ℕ) : Type 0 where
  pub one : line_len bytes ≡ length bytes
  pub short : length bytes ≤ longest
