-- Items by their names that are read while they are cut off the front of some bytes.
use Rattle.std.specs.Prelude.{◌≡◌, ◌⊎◌, ℕ, ℤ, ◌<◌, Option, List, ◌∷◌, length}
use Rattle.flu_model.specs.Numberings.{Numbering}
use Rattle.flu_rows.specs.declared.row.Fields.{Fields}
use Rattle.flu_rows.specs.declared.row.Fields.TheVariants.{Named, NamedWith}
use Rattle.flu_rows.specs.ItemNames.{named_item}
use Rattle.flu_rows.specs.LoopFields.{CutsField}
use Rattle.flu_rows.specs.LoopCuts.{CutsNumber}

-- a field that is an item by its name
pub record CutsName (list : Numbering) (bytes : List ℕ) (fields : Fields) (rest : List ℕ) : Type 0 where
  pub field : List ℕ
  pub some : 0 < length field
  pub cuts : CutsField bytes field rest
  pub is : fields ≡ Named (named_item list field)

-- a field that is an item by its name, and one that is a number
pub record CutsNameAndNumber (list : Numbering) (bytes : List ℕ) (fields : Fields) (rest : List ℕ) : Type 0 where
  pub field : List ℕ
  pub behind : List ℕ
  pub item : Option ℕ
  pub value : ℤ
  pub cuts : CutsField bytes field (44 ∷ behind)
  pub number : CutsNumber behind item value rest
  pub is : fields ≡ NamedWith (named_item list field) value

-- what is behind the tag of a kind whose items this list names
abbrev pub CutsNamed : Numbering → List ℕ → Fields → List ℕ → Type 0
CutsNamed list bytes fields rest = CutsName list bytes fields rest ⊎ CutsNameAndNumber list bytes fields rest
