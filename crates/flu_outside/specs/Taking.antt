-- What taking bytes of one name does.
use Rattle.std.specs.Prelude.{◌≡◌, ◌≤◌, ℕ, List, [], ◌++◌, length, Some}
pub use Rattle.flu_lemmas.specs.Named.{bytes_left, TakesFrom, TookFronts, KeepsBytes, IsReadOut, CountsOf}
use Rattle.flu_outside.specs.Outside.{Contents}

-- at most this many bytes went from the front of a name
pub record TookAtMost (name : List ℕ) (most : ℕ) (old now : Contents) : Type 0 where
  pub bytes : List ℕ
  pub front : bytes_left old name ≡ bytes ++ bytes_left now name
  pub few : length bytes ≤ most

-- these bytes went from the front of a name: all that it had, or more than `most` of them
pub record TookWhole (name : List ℕ) (most : ℕ) (bytes : List ℕ) (old now : Contents) : Type 0 where
  pub front : bytes_left old name ≡ bytes ++ bytes_left now name
  pub end : length bytes ≤ most → now name ≡ Some []
