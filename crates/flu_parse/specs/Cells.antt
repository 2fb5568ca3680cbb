-- A written reference to a cell, under a kind that is keyed or not and has items or not.
use Rattle.std.specs.Prelude.{ℕ, Bool, true, not, ◌&&◌, nat_lt, List, Option, Some, None, Ok}
use Rattle.flu_model.specs.declared.limits.What.TheVariants.{Key}
use Rattle.flu_model.specs.declared.jobs.Sort.{Sort}
use Rattle.flu_model.specs.declared.jobs.At.{At}
use Rattle.flu_model.specs.declared.jobs.At.TheVariants as at
use Rattle.flu_model.specs.declared.jobs.CellRef.{CellRef}
use Rattle.flu_model.specs.Contents.{key_count}
use Rattle.flu_model.specs.Rules.{is_sort}
use Rattle.flu_text.specs.declared.written.WrittenNumber.{WrittenNumber}
use Rattle.flu_syntax.specs.declared.tree.WrittenKey.{WrittenKey}
use Rattle.flu_syntax.specs.declared.tree.WrittenKey.TheVariants as k
use Rattle.flu_syntax.specs.declared.tree.WrittenRef.{WrittenRef}
use Rattle.flu_layout.specs.Spelling.{written_value}
use Rattle.flu_parse.specs.declared.faults.JobFault.TheVariants as f
use Rattle.flu_parse.specs.declared.names.FamilyHead.{FamilyHead}
use Rattle.flu_parse.specs.declared.names.KindHead.{KindHead}
use Rattle.flu_parse.specs.Faults.{Found, ◌>>=◌, ◌>>◌, unless}
use Rattle.flu_parse.specs.Naming.{Naming, takes_items, family_of}

-- a key is at most 65,535
abbrev pub resolved_key : WrittenNumber → Found ℕ
resolved_key k = do
  unless (nat_lt (written_value k.value) key_count) (f.OverLimit Key (written_value k.value))
  Ok (written_value k.value)

-- brackets are there exactly if the family is keyed
abbrev pub brackets_fit : Bool → WrittenKey → Bool
brackets_fit keyed k.Alone = not keyed
brackets_fit keyed (k.OwnKey at) = keyed
brackets_fit keyed (k.OwnItem at) = keyed
brackets_fit keyed (k.Fixed key) = keyed

-- the sort is the one that an action needs, if it needs one
abbrev pub is_wanted : Option Sort → Sort → Bool
is_wanted None sort = true
is_wanted (Some wanted) sort = is_sort wanted sort

-- the family that is named: of the wanted sort, with brackets if it is keyed
abbrev pub family_for : List ℕ → Naming → Option Sort → WrittenRef → Found FamilyHead
family_for text n wanted r = do
  family ← family_of text n r.family
  unless (is_wanted wanted family.sort && brackets_fit family.keyed r.key) (f.WrongShape r.family.from)
  Ok family

-- which of the family's cells is meant: `key` only under a keyed kind, `item` only under a kind with items
abbrev pub at_of : Naming → KindHead → WrittenKey → Found At
at_of n under k.Alone = Ok at.Alone
at_of n under (k.OwnKey place) = do
  unless under.keyed (f.WrongShape place)
  Ok at.OwnKey
at_of n under (k.OwnItem place) = do
  unless (takes_items n under) (f.WrongShape place)
  Ok at.OwnItem
at_of n under (k.Fixed number) = do
  key ← resolved_key number
  Ok (at.Fixed key)

abbrev pub resolved_cell : List ℕ → Naming → KindHead → Option Sort → WrittenRef → Found CellRef
resolved_cell text n under wanted r = do
  family ← family_for text n wanted r
  at ← at_of n under r.key
  Ok (record { family = family.number; at = at })
