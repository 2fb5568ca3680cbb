-- What the declarations of a written job declare, in their order.
use Rattle.std.specs.Prelude.{◌≡◌, ◌≢◌, ℕ, Bool, true, List, [], ◌∷◌, map, Option, Some, None, is_some, if◌then◌else◌, codes}
use Rattle.std.specs.List.{flat_map}
use Rattle.std.specs.Str.{bytes_eq}
use Rattle.flu_model.specs.declared.jobs.Family.{Family}
use Rattle.flu_text.specs.declared.written.WrittenSpan.{WrittenSpan}
use Rattle.flu_text.specs.declared.written.WrittenNumber.{WrittenNumber}
use Rattle.flu_syntax.specs.declared.tree.WrittenTag.{WrittenTag}
use Rattle.flu_syntax.specs.declared.tree.WrittenRelation.{WrittenRelation}
use Rattle.flu_syntax.specs.declared.tree.WrittenBy.{WrittenBy}
use Rattle.flu_syntax.specs.Tree.{Declaration, Declarations, Cell, Tag, Names, Depends, On, Source, Clock, Action}
use Rattle.flu_layout.specs.Spelling.{name_of}
use Rattle.flu_parse.specs.Naming.{has_keys, keys_by, items_by}
use Rattle.flu_parse.specs.Listings.{alone}
use Rattle.flu_grammar.specs.Means.{Under}

-- the name that a declaration gives: the names of cells, tags, lists, sources and clocks are one set
abbrev pub names_in : List ℕ → Declaration → List (List ℕ)
names_in text (Cell name cells sort) = name_of text name ∷ []
names_in text (Tag name keyed item has_value) = name_of text name ∷ []
names_in text (Names at name texts) = name_of text name ∷ []
names_in text (Depends a b relation) = []
names_in text (On kind actions) = []
names_in text (Source name file rate slack tags) = name_of text name ∷ []
names_in text (Clock at name every rate tag) = name_of text name ∷ []

-- a `cell` declares a family; which list names its keys is said apart
abbrev pub families_in : List ℕ → Declaration → List Family
families_in text (Cell name cells sort) = record { name = name_of text name; keyed = has_keys cells; list = None; sort = sort } ∷ []
families_in text (Tag name keyed item has_value) = []
families_in text (Names at name texts) = []
families_in text (Depends a b relation) = []
families_in text (On kind actions) = []
families_in text (Source name file rate slack tags) = []
families_in text (Clock at name every rate tag) = []

-- a `tag` declares a kind
pub record DeclaredKind : Type 0 where
  pub name : List ℕ
  pub keyed : Bool
  pub has_item : Bool
  pub has_value : Bool

-- under which the actions of this kind stand, in a job of this version
abbrev pub under_kind : ℕ → DeclaredKind → Under
under_kind version kind = record { version = version; keyed = kind.keyed; has_item = kind.has_item; has_value = kind.has_value }

abbrev pub kinds_in : List ℕ → Declaration → List DeclaredKind
kinds_in text (Cell name cells sort) = []
kinds_in text (Tag name keyed item has_value) =
    record { name = name_of text name; keyed = keyed; has_item = is_some item; has_value = has_value } ∷ []
kinds_in text (Names at name texts) = []
kinds_in text (Depends a b relation) = []
kinds_in text (On kind actions) = []
kinds_in text (Source name file rate slack tags) = []
kinds_in text (Clock at name every rate tag) = []

pub record WrittenDepend : Type 0 where
  pub a : WrittenSpan
  pub b : WrittenSpan
  pub relation : WrittenRelation

abbrev pub depends_in : Declaration → List WrittenDepend
depends_in (Cell name cells sort) = []
depends_in (Tag name keyed item has_value) = []
depends_in (Names at name texts) = []
depends_in (Depends a b relation) = record { a = a; b = b; relation = relation } ∷ []
depends_in (On kind actions) = []
depends_in (Source name file rate slack tags) = []
depends_in (Clock at name every rate tag) = []

-- an `on` names a kind
abbrev pub ons_in : List ℕ → Declaration → List (List ℕ)
ons_in text (Cell name cells sort) = []
ons_in text (Tag name keyed item has_value) = []
ons_in text (Names at name texts) = []
ons_in text (Depends a b relation) = []
ons_in text (On kind actions) = name_of text kind ∷ []
ons_in text (Source name file rate slack tags) = []
ons_in text (Clock at name every rate tag) = []

-- and has the actions of the kind of this name, if it is that one
abbrev pub actions_in : List ℕ → List ℕ → Declaration → List Action
actions_in text kind_name (Cell name cells sort) = []
actions_in text kind_name (Tag name keyed item has_value) = []
actions_in text kind_name (Names at name texts) = []
actions_in text kind_name (Depends a b relation) = []
actions_in text kind_name (On kind actions) = if bytes_eq (name_of text kind) kind_name then actions else []
actions_in text kind_name (Source name file rate slack tags) = []
actions_in text kind_name (Clock at name every rate tag) = []

pub record WrittenSource : Type 0 where
  pub name : WrittenSpan
  pub file : WrittenSpan
  pub rate : Option WrittenNumber
  pub slack : Option WrittenNumber
  pub tags : List WrittenTag

pub record WrittenClock : Type 0 where
  pub name : WrittenSpan
  pub every : WrittenNumber
  pub rate : Option WrittenNumber
  pub tag : WrittenSpan

-- a source of events has a file, or it is a clock
pub data WrittenFeed : Type 0 where
  OfFile : (source : WrittenSource) → WrittenFeed
  OfClock : (clock : WrittenClock) → WrittenFeed

abbrev pub feed_name : WrittenFeed → WrittenSpan
feed_name (OfFile source) = source.name
feed_name (OfClock clock) = clock.name

-- a clock lists one tag, without brackets
abbrev pub feed_tags : WrittenFeed → List WrittenTag
feed_tags (OfFile source) = source.tags
feed_tags (OfClock clock) = alone clock.tag ∷ []

abbrev pub sources_in : Declaration → List WrittenFeed
sources_in (Cell name cells sort) = []
sources_in (Tag name keyed item has_value) = []
sources_in (Names at name texts) = []
sources_in (Depends a b relation) = []
sources_in (On kind actions) = []
sources_in (Source name file rate slack tags) = OfFile (record { name = name; file = file; rate = rate; slack = slack; tags = tags }) ∷ []
sources_in (Clock at name every rate tag) = OfClock (record { name = name; every = every; rate = rate; tag = tag }) ∷ []

-- ---- lists of names

-- a `names` declares a list
pub record WrittenNames : Type 0 where
  pub name : WrittenSpan
  pub texts : List WrittenSpan

abbrev pub lists_in : Declaration → List WrittenNames
lists_in (Cell name cells sort) = []
lists_in (Tag name keyed item has_value) = []
lists_in (Names at name texts) = record { name = name; texts = texts } ∷ []
lists_in (Depends a b relation) = []
lists_in (On kind actions) = []
lists_in (Source name file rate slack tags) = []
lists_in (Clock at name every rate tag) = []

-- the names of all lists, in the order of their declarations
abbrev pub list_names : List ℕ → Declarations → List (List ℕ)
list_names text ds = map (λ (l : WrittenNames). name_of text l.name) (flat_map lists_in ds)

-- the list that names the keys of a family, and the one that names the items of a kind, if one is written
abbrev pub family_lists_in : Declaration → List (Option WrittenBy)
family_lists_in (Cell name cells sort) = keys_by cells ∷ []
family_lists_in (Tag name keyed item has_value) = []
family_lists_in (Names at name texts) = []
family_lists_in (Depends a b relation) = []
family_lists_in (On kind actions) = []
family_lists_in (Source name file rate slack tags) = []
family_lists_in (Clock at name every rate tag) = []

abbrev pub kind_lists_in : Declaration → List (Option WrittenBy)
kind_lists_in (Cell name cells sort) = []
kind_lists_in (Tag name keyed item has_value) = items_by item ∷ []
kind_lists_in (Names at name texts) = []
kind_lists_in (Depends a b relation) = []
kind_lists_in (On kind actions) = []
kind_lists_in (Source name file rate slack tags) = []
kind_lists_in (Clock at name every rate tag) = []

-- ---- versions

-- only version 3 has lists
abbrev pub IsListIn : ℕ → Option WrittenBy → Type 0
IsListIn version None = Unit {0}
IsListIn version (Some by) = version ≡ 3

-- In version 3 `item` means the event's item, so no family is called so; and only there a kind has items, and are there lists and clocks.
abbrev pub IsDeclaredIn : List ℕ → ℕ → Declaration → Type 0
IsDeclaredIn text version (Cell name cells sort) = (version ≡ 3 → name_of text name ≢ codes "item") × IsListIn version (keys_by cells)
IsDeclaredIn text version (Tag name keyed item has_value) = is_some item ≡ true → version ≡ 3
IsDeclaredIn text version (Names at name texts) = version ≡ 3
IsDeclaredIn text version (Depends a b relation) = Unit {0}
IsDeclaredIn text version (On kind actions) = Unit {0}
IsDeclaredIn text version (Source name file rate slack tags) = Unit {0}
IsDeclaredIn text version (Clock at name every rate tag) = version ≡ 3
