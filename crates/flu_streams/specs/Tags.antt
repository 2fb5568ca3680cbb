-- The tags that rows name.
use Rattle.std.specs.Prelude.{ℕ, ℤ, pos, Bool, true, false, ◌&&◌, ◌||◌, Option, Some, None, option_and_then, option_map, List, length, slice_get, is_some}
use Rattle.std.specs.Prelude.{if◌then◌else◌, not, unwrap_or}
use Rattle.std.specs.List.{position}
use Rattle.flu_model.specs.declared.events.Tag.{Tag}
use Rattle.flu_model.specs.declared.jobs.Kind.{Kind}
use Rattle.flu_model.specs.declared.jobs.Source.{Source}
use Rattle.flu_model.specs.Listing.{tag, tags_of_source}
use Rattle.flu_model.specs.Rules.{is_same_text, is_same_tag}
use Rattle.flu_rows.specs.declared.row.Fields.{Fields}
use Rattle.flu_rows.specs.declared.row.Fields.TheVariants.{Nothing, One, Two, Named, NamedWith, Other}

infixl 10 ◌>>=◌
abbrev pub ◌>>=◌ : {A B : Type 0} → Option A → (A → Option B) → Option B
o >>= f = option_and_then f o

-- the number of the kind with this name
abbrev pub kind_named : List Kind → List ℕ → Option ℕ
kind_named kinds name = position (λ (k : Kind). is_same_text k.name name) kinds

-- the key of a tag: the one in brackets if the kind is keyed; a kind without keys has no brackets, and the key 0
abbrev pub key_named : Bool → Option ℕ → Option ℕ
key_named true (Some key) = Some key
key_named true None = None
key_named false (Some key) = None
key_named false None = Some 0

-- the tag of a name and an optional key in brackets
abbrev pub tag_named : List Kind → List ℕ → Option ℕ → Option Tag
tag_named kinds name key = do
  number ← kind_named kinds name
  kind ← slice_get kinds number
  n ← key_named kind.keyed key
  Some (tag number n)

-- the place of that tag among those that a source lists
abbrev pub place_named : List Kind → Source → List ℕ → Option ℕ → Option ℕ
place_named kinds s name key = do
  t ← tag_named kinds name key
  position (is_same_tag t) (tags_of_source s)

-- what one field gives, which is the item or the value: not both, and not none
abbrev pub given_one : Bool → Bool → Option ℕ → ℤ → Option (ℕ × ℤ)
given_one false false item value = None
given_one false true item value = Some (0, value)
given_one true false item value = option_map (λ i. (i, pos 0)) item
given_one true true item value = None

-- WHAT A ROW GIVES an event, by whether its kind has items and whether it has values: its item and its value, each 0 where the kind
-- has none. Behind the tag are the item and the value that the kind has, and no other fields; else nothing is given. An item may be given by its
-- name; one that the kind's list does not have counts as 0 here, and is a fault (`is_known`).
abbrev pub given : Bool → Bool → Fields → Option (ℕ × ℤ)
given has_item has_value Nothing = if has_item || has_value then None else Some (0, pos 0)
given has_item has_value (One item value) = given_one has_item has_value item value
given has_item has_value (Two item value) = if has_item && has_value then Some (item, value) else None
given has_item has_value (Named item) = if has_item && not has_value then Some (unwrap_or item 0, pos 0) else None
given has_item has_value (NamedWith item value) = if has_item && has_value then Some (unwrap_or item 0, value) else None
given has_item has_value Other = None

abbrev pub given_by : Option Kind → Fields → Option (ℕ × ℤ)
given_by None fields = None
given_by (Some kind) fields = given kind.has_item kind.has_value fields

-- by the kind of this name
abbrev pub given_to : List Kind → List ℕ → Fields → Option (ℕ × ℤ)
given_to kinds name fields = given_by (kind_named kinds name >>= λ number. slice_get kinds number) fields

-- the fields are those that the kind has
abbrev pub fields_fit : List Kind → List ℕ → Fields → Bool
fields_fit kinds name fields = is_some (given_to kinds name fields)

-- an item that is given by its name is one that its kind's list has
abbrev pub is_known : Fields → Bool
is_known Nothing = true
is_known (One item value) = true
is_known (Two item value) = true
is_known (Named None) = false
is_known (Named (Some item)) = true
is_known (NamedWith None value) = false
is_known (NamedWith (Some item) value) = true
is_known Other = true

-- how many itags a source has
abbrev pub width : Source → ℕ
width s = length (tags_of_source s)
