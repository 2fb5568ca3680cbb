-- How the counts of a worker's lot relate to what it counted, held, lent and took, and when an event is its target.
use Rattle.std.specs.Prelude.{◌≡◌, ◌⊎◌, ℕ, ◌<◌, ◌≤◌, true, false, Some, List, ◌∷◌, ◌++◌, length, slice_index, IsSome}
use Rattle.flu_model.specs.declared.events.Event.{Event}
use Rattle.flu_model.specs.Itags.{count_of_itags}
use Rattle.flu_model.specs.Merging.{is_before}
use Rattle.flu_model.specs.Owners.{owner_of}
use Rattle.flu_laws.specs.Spans.{Moment, AreAtMost}
use Rattle.flu_laws.specs.Lots.{IsExact}
use Rattle.flu_fork.specs.declared.content.Content.{Content}
use Rattle.flu_fork.specs.declared.lots.Ask.{Ask}
use Rattle.flu_fork.specs.Settings.{Setting, events_at, moments}
use Rattle.flu_fork.specs.Streams.{IsEventAt, IsClearOf}
use Rattle.flu_fork.specs.Classes.{Itags, own, below, above}
use Rattle.flu_fork.specs.Lots.{job, nodes, kids, setting_of}
use Rattle.flu_fork.specs.Serving.{LotCounts, GrownFrom}

-- COUNTS AGREE: the counts of the lot that a worker has, or of the one that it forked last, are what it counted for its own itags and those above it, what it
-- held for the itags outside its subtree, and at least that for those inside
pub record Agrees (k : Content) (w : ℕ) (counts held upto : List ℕ) : Type 0 where
  pub mine : (i : ℕ) → own (job k) (nodes k) w i ≡ true → slice_index counts i ≡ slice_index upto i
  pub over : (i : ℕ) → above (job k) (nodes k) w i ≡ true → slice_index counts i ≡ slice_index upto i
  pub outside : (i : ℕ) → below (job k) (nodes k) w i ≡ false → slice_index upto i ≡ slice_index held i
  pub inside : (i : ℕ) → below (job k) (nodes k) w i ≡ true → slice_index held i ≤ slice_index upto i
  pub most : AreAtMost counts upto

-- LOANS GROW: a loan with these counts continues, for each child, from what was taken from it last
pub record Grows (k : Content) (w : ℕ) (taken_left taken_right upto : List ℕ) : Type 0 where
  pub left : (l r : ℕ) → kids k w ≡ Some (l, r) → GrownFrom k l taken_left upto
  pub right : (l r : ℕ) → kids k w ≡ Some (l, r) → GrownFrom k r taken_right upto

-- FIRST: no event of a set of itags that is not below the counts, seen or not, is before x, whether the two are dependent or not
abbrev pub IsFirstOf : Setting → Itags → List ℕ → Event → Type 0
IsFirstOf k set upto x = (j l : ℕ) (y : Event) → set j ≡ true → slice_index upto j ≤ l → IsEventAt k j l y → is_before y x ≡ false

-- A TARGET: the next event by these counts, of an itag of the node or of one above it. It is before each uncounted event on which it depends, among those of
-- the node's other itags and, if it is the node's own, of the itags above it. An inner worker aims at events in event order: no uncounted event of these
-- itags is before its target
pub record IsTarget (k : Content) (w : ℕ) (counts upto : List ℕ) (y : Ask) : Type 0 where
  pub known : y.itag.0 < count_of_itags (job k)
  pub next : y.index ≡ slice_index upto y.itag.0
  pub place : (own (job k) (nodes k) w y.itag.0 ≡ true) ⊎ (above (job k) (nodes k) w y.itag.0 ≡ true)
  pub event : Event
  pub is : IsEventAt (setting_of k) y.itag.0 y.index event
  pub clear_own : IsClearOf (setting_of k) (own (job k) (nodes k) w) counts event
  pub clear_above : own (job k) (nodes k) w y.itag.0 ≡ true → IsClearOf (setting_of k) (above (job k) (nodes k) w) counts event
  pub first_own : IsSome (kids k w) → IsFirstOf (setting_of k) (own (job k) (nodes k) w) counts event
  pub first_above : IsSome (kids k w) → own (job k) (nodes k) w y.itag.0 ≡ true → IsFirstOf (setting_of k) (above (job k) (nodes k) w) counts event

-- A FORK: the counts of the lot that a worker forked last agree, and its parts begin from what the worker held
pub record IsForkedAt (k : Content) (w : ℕ) (counts : List ℕ) (held : LotCounts) (upto : List ℕ) : Type 0 where
  pub inner : IsSome (kids k w)
  pub agrees : Agrees k w counts held.upto upto
  pub since : AreAtMost held.since upto
  pub there : (i : ℕ) → slice_index upto i ≤ length (events_at (setting_of k) i)

-- the counts of the parts lent to each side
abbrev pub left_loan : LotCounts → List ℕ → LotCounts
left_loan held upto = record { since = held.since; upto = upto }

abbrev pub right_loan : List ℕ → LotCounts
right_loan upto = record { since = upto; upto = upto }

-- THE EVENT HANDLED: the next event of its itag, owned by the node, for which the counts are exact
pub record IsExactFor (k : Content) (w : ℕ) (upto : List ℕ) (x : Ask) (event : Event) : Type 0 where
  pub known : x.itag.0 < count_of_itags (job k)
  pub is : IsEventAt (setting_of k) x.itag.0 x.index event
  pub next : x.index ≡ slice_index upto x.itag.0
  pub owner : owner_of (job k) (nodes k) x.itag ≡ Some w
  pub exact : (before after : List Moment) (m : Moment) → moments (setting_of k) ≡ before ++ m ∷ after → m.event.itag ≡ x.itag → m.index ≡ x.index
      → IsExact (job k) before after m upto
