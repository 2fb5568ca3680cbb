-- The names of a job: families, kinds, sources and lists, each in the order of their declarations, in one set of names. A clock is a source.
use Rattle.std.specs.Prelude.{ℕ, ◌+◌, Bool, true, false, not, ◌==◌, ◌&&◌, ◌||◌, List, [], ◌∷◌, ◌++◌, map, length, Option, Some, None, is_some, if◌then◌else◌}
use Rattle.std.specs.Prelude.{Ok, Err}
use Rattle.std.specs.List.{list_any}
use Rattle.std.specs.Str.{bytes_eq}
use Rattle.flu_model.specs.declared.jobs.Sort.{Sort}
use Rattle.flu_model.specs.declared.jobs.Family.{Family}
use Rattle.flu_model.specs.declared.limits.What.TheVariants.{Families, Kinds, Sources, Lists, Depends}
use Rattle.flu_text.specs.declared.written.WrittenSpan.{WrittenSpan}
use Rattle.flu_syntax.specs.declared.tree.WrittenBy.{WrittenBy}
use Rattle.flu_syntax.specs.declared.tree.WrittenCells.{WrittenCells}
use Rattle.flu_syntax.specs.declared.tree.WrittenCells.TheVariants as cells
use Rattle.flu_syntax.specs.declared.tree.WrittenItem.{WrittenItem}
use Rattle.flu_syntax.specs.Tree.{Declaration}
use Rattle.flu_syntax.specs.Tree as w
use Rattle.flu_layout.specs.Spelling.{name_of}
use Rattle.flu_parse.specs.declared.faults.JobFault.TheVariants as f
use Rattle.flu_parse.specs.declared.names.FamilyHead.{FamilyHead}
use Rattle.flu_parse.specs.declared.names.KindHead.{KindHead}
use Rattle.flu_parse.specs.declared.names.Names.{Names}
use Rattle.flu_parse.specs.Faults.{Found, ◌>>=◌, ◌>>◌, unless, room, each}

-- the declared names, with the heads of their declarations, how many `depends` there are, and the version of the language, which is 1
-- until it is known
pub record Naming : Type 0 where
  pub families : List (List ℕ × FamilyHead)
  pub kinds : List (List ℕ × KindHead)
  pub sources : List (List ℕ)
  pub lists : List (List ℕ)
  pub depends : ℕ
  pub version : ℕ

-- the names as plain data
abbrev pub naming : Names → Naming
naming n = record {
  families = map (λ e. (e.0.now, e.1)) n.families.entries;
  kinds = map (λ e. (e.0.now, e.1)) n.kinds.entries;
  sources = map (λ k. k.now) n.sources.keys;
  lists = n.lists;
  depends = n.depends;
  version = n.version;
}

-- the names of a job of this version
abbrev pub in_version : Naming → ℕ → Naming
in_version n version = record n { version = version }

abbrev pub is_version_3 : Naming → Bool
is_version_3 n = n.version == 3

-- under which kinds an item may stand
abbrev pub takes_items : Naming → KindHead → Bool
takes_items n under = is_version_3 n && under.has_item

-- a family as far as its head says: no list names its keys
abbrev pub family : List ℕ × FamilyHead → Family
family h = record { name = h.0; keyed = h.1.keyed; list = None; sort = h.1.sort }

-- the families, in the order of their declarations
abbrev pub families_of : Naming → List Family
families_of n = map family n.families

-- what is declared under a name
abbrev pub look_up : {X : Type 0} → List ℕ → List (List ℕ × X) → Option X
look_up name [] = None
look_up name (h ∷ hs) = if bytes_eq name h.0 then Some h.1 else look_up name hs

abbrev pub is_declared : Naming → List ℕ → Bool
is_declared n name =
    is_some (look_up name n.families) || is_some (look_up name n.kinds) || list_any (bytes_eq name) n.sources || list_any (bytes_eq name) n.lists

-- a name that no earlier declaration has
abbrev pub fresh_name : List ℕ → Naming → WrittenSpan → Found (List ℕ)
fresh_name text n s = do
  unless (not (is_declared n (name_of text s))) (f.TwiceNamed s.from)
  Ok (name_of text s)

-- one more family, kind, source or list: that its name is taken comes before a limit
unfoldable pub with_family : List ℕ → Naming → WrittenSpan → Bool → Sort → Found Naming
with_family text n s keyed sort = do
  name ← fresh_name text n s
  room Families 64 (length n.families)
  Ok (record n { families = n.families ++ (name, record { number = length n.families; keyed = keyed; sort = sort }) ∷ [] })

unfoldable pub with_kind : List ℕ → Naming → WrittenSpan → Bool → Bool → Bool → Found Naming
with_kind text n s keyed has_item has_value = do
  name ← fresh_name text n s
  room Kinds 64 (length n.kinds)
  Ok (record n { kinds = n.kinds ++ (name, record { number = length n.kinds; keyed = keyed; has_item = has_item; has_value = has_value }) ∷ [] })

unfoldable pub with_source : List ℕ → Naming → WrittenSpan → Found Naming
with_source text n s = do
  name ← fresh_name text n s
  room Sources 64 (length n.sources)
  Ok (record n { sources = n.sources ++ name ∷ [] })

unfoldable pub with_list : List ℕ → Naming → WrittenSpan → Found Naming
with_list text n s = do
  name ← fresh_name text n s
  room Lists 64 (length n.lists)
  Ok (record n { lists = n.lists ++ name ∷ [] })

-- whether a family is keyed
abbrev pub has_keys : WrittenCells → Bool
has_keys cells.Alone = false
has_keys cells.Keyed = true
has_keys (cells.By by) = true

-- the list that is written for the keys of a family, if one is
abbrev pub keys_by : WrittenCells → Option WrittenBy
keys_by cells.Alone = None
keys_by cells.Keyed = None
keys_by (cells.By by) = Some by

-- and the one for the items of a kind
abbrev pub items_by : Option WrittenItem → Option WrittenBy
items_by None = None
items_by (Some item) = item.by

-- the names with one more declaration
unfoldable pub declare : List ℕ → Naming → Declaration → Found Naming
declare text n (w.Cell s cells sort) = with_family text n s (has_keys cells) sort
declare text n (w.Tag s keyed item has_value) = with_kind text n s keyed (is_some item) has_value
declare text n (w.Names at s texts) = with_list text n s
declare text n (w.Depends a b relation) = do
  room Depends 4096 n.depends
  Ok (record n { depends = n.depends + 1 })
declare text n (w.On kind actions) = Ok n
declare text n (w.Source s file rate slack tags) = with_source text n s
declare text n (w.Clock at s every rate tag) = with_source text n s

abbrev pub no_names : Naming
no_names = record { families = []; kinds = []; sources = []; lists = []; depends = 0; version = 1 }

-- the names of a job, or the first name that is declared twice or is one too many
abbrev pub naming_of : List ℕ → List Declaration → Found Naming
naming_of text ds = each (declare text) no_names ds

-- the head that a name must have
abbrev pub known : {X : Type 0} → ℕ → Option X → Found X
known at None = Err (f.UnknownName at)
known at (Some x) = Ok x

abbrev pub family_of : List ℕ → Naming → WrittenSpan → Found FamilyHead
family_of text n s = known s.from (look_up (name_of text s) n.families)

abbrev pub kind_of : List ℕ → Naming → WrittenSpan → Found KindHead
kind_of text n s = known s.from (look_up (name_of text s) n.kinds)
