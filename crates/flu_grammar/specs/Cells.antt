-- What a written cell means, under a version and a kind.
use Rattle.std.specs.Prelude.{◌≡◌, ◌<◌, ℕ, Bool, true, false, List, Option, Some, None, slice_get}
use Rattle.flu_model.specs.declared.jobs.Sort.{Sort}
use Rattle.flu_model.specs.declared.jobs.Family.{Family}
use Rattle.flu_model.specs.declared.jobs.At.{At}
use Rattle.flu_model.specs.declared.jobs.At.TheVariants as at
use Rattle.flu_model.specs.declared.jobs.CellRef.{CellRef}
use Rattle.flu_model.specs.Contents.{key_count}
use Rattle.flu_text.specs.declared.written.WrittenNumber.{WrittenNumber}
use Rattle.flu_syntax.specs.declared.tree.WrittenKey.{WrittenKey}
use Rattle.flu_syntax.specs.declared.tree.WrittenKey.TheVariants as k
use Rattle.flu_syntax.specs.declared.tree.WrittenRef.{WrittenRef}
use Rattle.flu_layout.specs.Spelling.{name_of, written_value}
use Rattle.flu_grammar.specs.Means.{Under, HasItems}

-- the written number is this key, from 0 to 65,535
abbrev pub IsKey : WrittenNumber → ℕ → Type 0
IsKey n key = (key ≡ written_value n.value) × (key < key_count)

-- A keyed family has brackets and another has none; in them is a number or, under a keyed kind only, `key` or, in version 3 under a
-- kind with items only, `item`.
abbrev pub MeansKey : Bool → Under → WrittenKey → At → Type 0
MeansKey family_keyed under k.Alone at.Alone = family_keyed ≡ false
MeansKey family_keyed under (k.OwnKey place) at.OwnKey = (family_keyed ≡ true) × (under.keyed ≡ true)
MeansKey family_keyed under (k.OwnItem place) at.OwnItem = (family_keyed ≡ true) × HasItems under
MeansKey family_keyed under (k.Fixed n) (at.Fixed key) = (family_keyed ≡ true) × IsKey n key
MeansKey _ _ _ _ = ⊥

-- the sort is the one that is needed, if one is
abbrev pub HasSort : Option Sort → Sort → Type 0
HasSort None sort = Unit {0}
HasSort (Some wanted) sort = sort ≡ wanted

-- the name of a family
abbrev pub family_name : Family → List ℕ
family_name family = family.name

-- A written cell means a cell of the family of its name, which is of the sort that is needed.
pub record MeansCell (text : List ℕ) (families : List Family) (under : Under) (wanted : Option Sort) (written : WrittenRef) (cell : CellRef) : Type 0 where
  pub family : Family
  pub here : slice_get families cell.family ≡ Some family
  pub name : family.name ≡ name_of text written.family
  pub sort : HasSort wanted family.sort
  pub key : MeansKey family.keyed under written.key cell.at
