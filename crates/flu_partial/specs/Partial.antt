-- THE LINES OF A PARTIAL: the JSON values of a head and of a contribution, and their texts.
use Rattle.std.specs.Prelude.{◌≡◌, ℕ, ◌+◌, ◌<◌, ◌^◌, ◌&&◌, ◌||◌, ◌==◌, nat_lt, Bool, true, Option, Some, None, List, [], ◌∷◌, ◌++◌, map, codes, FitsSigned, IsTrue, ⊤}
use Rattle.std.specs.Int.{w128}
use Rattle.std.specs.Fmt.{signed_decimal}
use Rattle.std.specs.List.{AllByRecursion}
use Rattle.serde_json.specs.Data.{Data, null, number, unsigned, string, array, object, no_items, item, Members, no_members, member}
use Rattle.serde_json.specs.View.{items_of}
use Rattle.serde_json.specs.Written.{compact_text}
use Rattle.flu_names.specs.Names.{is_name}
use Rattle.flu_model.specs.declared.events.Cell.{Cell}
use Rattle.flu_partial.specs.declared.values.PartialHead.{PartialHead}
use Rattle.flu_partial.specs.declared.values.Amount.{Amount}
use Rattle.flu_partial.specs.declared.values.Emitted.{Emitted}
use Rattle.flu_partial.specs.declared.values.Place.{Place}
use Rattle.flu_partial.specs.declared.values.Place.TheVariants.{Before, End}
use Rattle.flu_partial.specs.declared.values.Contribution.{Contribution}

-- a time, or `null` where there is none
abbrev pub time_or_null : Option ℕ → Data
time_or_null None = null
time_or_null (Some t) = number (unsigned t)

-- THE HEAD: `{"first":M,"job":"..","node":"..","plan":".."}`
abbrev pub head_value : PartialHead → Data
head_value h =
    object (member (codes "first") (time_or_null h.first)
    (member (codes "job") (string h.job)
    (member (codes "node") (string h.node)
    (member (codes "plan") (string h.plan) no_members))))

unfoldable pub head_text : PartialHead → List ℕ
head_text h = compact_text (head_value h)

-- an amount: `[FAMILY,KEY,"VALUE"]`
abbrev pub amount_value : Amount → Data
amount_value a = array (item (number (unsigned a.cell.family)) (item (number (unsigned a.cell.key)) (item (string (signed_decimal a.value)) no_items)))

-- a text that was emitted: `[TIME,"TAG","TEXT"]`
abbrev pub emitted_value : Emitted → Data
emitted_value o = array (item (number (unsigned o.time)) (item (string o.tag) (item (string o.text) no_items)))

-- the place: `"time":T,"itag":I`, or `"last":M` for the end
abbrev pub place_members : Place → Members
place_members (Before time itag) =
    member (codes "time") (number (unsigned time)) (member (codes "itag") (number (unsigned itag.0)) no_members)
place_members (End last) = member (codes "last") (time_or_null last) no_members

-- A CONTRIBUTION: `{"cells":[..],"events":N,"outs":[..],"time":T,"itag":I}`, or with `"last":M` in place of the last two
abbrev pub contribution_value : Contribution → Data
contribution_value c =
    object (member (codes "cells") (array (items_of (map amount_value c.cells)))
    (member (codes "events") (number (unsigned c.events))
    (member (codes "outs") (array (items_of (map emitted_value c.outs))) (place_members c.place))))

unfoldable pub contribution_text : Contribution → List ℕ
contribution_text c = compact_text (contribution_value c)

-- the text and its line feed
abbrev pub line_of : List ℕ → List ℕ
line_of text = text ++ 10 ∷ []

-- ---- which heads and contributions have a line
abbrev pub IsTime : ℕ → Type 0
IsTime t = t < 2 ^ 63

abbrev pub IsTimeOrNone : Option ℕ → Type 0
IsTimeOrNone None = ⊤
IsTimeOrNone (Some t) = IsTime t

-- a head: its time is in range, and its node has a name
pub record IsHead (h : PartialHead) : Type 0 where
  pub first : IsTimeOrNone h.first
  pub node : IsTrue (is_name h.node)

abbrev pub IsAmount : Amount → Type 0
IsAmount a = (a.cell.family < 2 ^ 32) × (a.cell.key < 2 ^ 32) × FitsSigned w128 a.value

-- the cells rise strictly, by family and then by key
abbrev pub is_before : Cell → Cell → Bool
is_before c d = nat_lt c.family d.family || ((c.family == d.family) && nat_lt c.key d.key)

abbrev pub follows : Option Cell → Cell → Bool
follows None c = true
follows (Some b) c = is_before b c

abbrev pub rise : Option Cell → List Amount → Bool
rise last [] = true
rise last (a ∷ more) = follows last a.cell && rise (Some a.cell) more

abbrev pub IsEmitted : Emitted → Type 0
IsEmitted o = IsTime o.time

abbrev pub IsPlace : Place → Type 0
IsPlace (Before time itag) = IsTime time × (itag.0 < 256)
IsPlace (End last) = IsTimeOrNone last

-- a contribution: its numbers are in range, and its cells rise
pub record IsContribution (c : Contribution) : Type 0 where
  pub place : IsPlace c.place
  pub amounts : AllByRecursion IsAmount c.cells
  pub rising : IsTrue (rise None c.cells)
  pub events : c.events < 2 ^ 64
  pub outs : AllByRecursion IsEmitted c.outs
