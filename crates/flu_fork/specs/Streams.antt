-- PREFIX AND EXACT IN THE WORDS OF STREAMS: what counts of events say, by the events of each itag and their order, where the fold is not spoken of.
use Rattle.std.specs.Prelude.{◌≡◌, ◌↔◌, ◌≢◌, ℕ, ◌<◌, ◌≤◌, true, Some, List, ◌∷◌, ◌++◌, slice_get, slice_index}
use Rattle.flu_model.specs.declared.events.Event.{Event}
use Rattle.flu_model.specs.Merging.{is_before}
use Rattle.flu_deps.specs.Dependencies.{itags_depend}
use Rattle.flu_laws.specs.Spans.{Moment}
use Rattle.flu_laws.specs.Lots.{IsExact}
use Rattle.flu_fork.specs.Classes.{Itags, itag}
use Rattle.flu_fork.specs.Fitting.{IsPrefix}
use Rattle.flu_fork.specs.Settings.{Setting, IsSetting, events_at, moments}

-- x is the event with index n of itag i
abbrev pub IsEventAt : Setting → ℕ → ℕ → Event → Type 0
IsEventAt k i n x = slice_get (events_at k i) n ≡ Some x

-- PREFIX: with an event of itag i that is below the counts, each earlier event of an itag j on which it depends is below them
abbrev pub IsStreamPrefix : Setting → List ℕ → Type 0
IsStreamPrefix k upto =
    (i n j l : ℕ) (x y : Event) → IsEventAt k i n x → IsEventAt k j l y → itags_depend k.program (itag i) (itag j) ≡ true
    → n < slice_index upto i → is_before y x ≡ true → l < slice_index upto j

-- EXACT: event n of itag i comes next by the counts, and of each itag j on which it depends just the events before it are below them
pub record IsStreamExact (k : Setting) (i n : ℕ) (x : Event) (upto : List ℕ) : Type 0 where
  pub next : slice_index upto i ≡ n
  pub others : (j l : ℕ) (y : Event) → IsEventAt k j l y → itags_depend k.program (itag i) (itag j) ≡ true → (l < slice_index upto j) ↔ (is_before y x ≡ true)

-- x is before each event, seen or not, that is not below the counts, of the other itags of a set on which it depends
abbrev pub IsClearOf : Setting → Itags → List ℕ → Event → Type 0
IsClearOf k set upto x =
    (j l : ℕ) (y : Event) → set j ≡ true → j ≢ x.itag.0 → itags_depend k.program x.itag (itag j) ≡ true → slice_index upto j ≤ l → IsEventAt k j l y
    → is_before x y ≡ true

-- ---- the laws: these are the forms over the moments of the fold

abbrev pub PrefixesAgree : Type 0
PrefixesAgree = (k : Setting) (upto : List ℕ) → IsSetting k → IsPrefix k.program (moments k) upto ↔ IsStreamPrefix k upto

abbrev pub ExactnessAgrees : Type 0
ExactnessAgrees =
    (k : Setting) (before after : List Moment) (m : Moment) (upto : List ℕ) → IsSetting k → moments k ≡ before ++ m ∷ after
    → IsExact k.program before after m upto ↔ IsStreamExact k m.event.itag.0 m.index m.event upto
