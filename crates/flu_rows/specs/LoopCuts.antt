-- Fields that are read while they are cut off the front of some bytes.
use Rattle.std.specs.Prelude.{◌≡◌, ℕ, ℤ, ◌<◌, ◌≤◌, true, Option, Some, List, ◌++◌, length, slice_index}
use Rattle.std.specs.Char.{is_ascii_digit}
use Rattle.std.specs.List.{list_all}
use Rattle.std.specs.Str.Parse.{digits_value}
use Rattle.flu_rows.specs.declared.row.RowForm.{RowForm}
use Rattle.flu_rows.specs.Fields.{time_of, item_of, value_of, tag_of}
use Rattle.flu_rows.specs.LoopFields.{CutsField}

-- digits at the front of some bytes, the number that they write, and what comes after them
pub record StartsWithDigits (bytes : List ℕ) (number : ℕ) (rest : List ℕ) : Type 0 where
  pub digits : List ℕ
  pub whole : bytes ≡ digits ++ rest
  pub some : 0 < length digits
  pub all : list_all is_ascii_digit digits ≡ true
  pub writes : digits_value 10 digits ≡ number

-- a field that is a time in a form of rows
pub record CutsTime (form : RowForm) (bytes : List ℕ) (time : ℕ) (rest : List ℕ) : Type 0 where
  pub field : List ℕ
  pub cuts : CutsField bytes field rest
  pub is : time_of form field ≡ Some time
  pub first : is_ascii_digit (slice_index bytes 0) ≡ true
  pub filled : 1 ≤ length bytes

-- a field that is a tag
pub record CutsTag (bytes name : List ℕ) (key : Option ℕ) (rest : List ℕ) : Type 0 where
  pub field : List ℕ
  pub some : 0 < length field
  pub cuts : CutsField bytes field rest
  pub is : tag_of field ≡ Some (name, key)

-- a field that is a number, and what it is as an item
pub record CutsNumber (bytes : List ℕ) (item : Option ℕ) (value : ℤ) (rest : List ℕ) : Type 0 where
  pub field : List ℕ
  pub some : 0 < length field
  pub cuts : CutsField bytes field rest
  pub item_is : item_of field ≡ item
  pub is : value_of field ≡ Some value
