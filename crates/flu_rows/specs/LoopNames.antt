-- The name at the front of a tag.
use Rattle.std.specs.Prelude.{◌≡◌, ℕ, false, if◌then◌else◌, List, ◌++◌, take, drop, Option, Some, None, slice_index}
use Rattle.flu_names.specs.Names.{is_name_byte, is_name}
use Rattle.flu_rows.specs.Fields.{name_len}

-- the name at the front of a tag, and what comes after it
abbrev pub name_at_front : List ℕ → Option (List ℕ × List ℕ)
name_at_front tag = if is_name (take (name_len tag) tag) then Some (take (name_len tag) tag, drop (name_len tag) tag) else None

-- a tag starts with a name, and what comes after it begins with no byte of a name
pub record StartsWithName (tag name rest : List ℕ) : Type 0 where
  pub whole : tag ≡ name ++ rest
  pub ends : is_name_byte (slice_index rest 0) ≡ false
