-- The least next event of a node's own itags.
use Rattle.std.specs.Prelude.{◌≡◌, ◌⊎◌, ◌<◌, ℕ, true, false, Some, None, List, [], length, slice_index, slice_index_or}
use Rattle.flu_model.specs.declared.events.Event.{Event}
use Rattle.flu_model.specs.declared.events.Item.{Item}
use Rattle.flu_model.specs.declared.jobs.Program.{Program}
use Rattle.flu_model.specs.declared.plans.Node.{Node}
use Rattle.flu_model.specs.Itags.{count_of_itags}
use Rattle.flu_model.specs.Merging.{is_before}
use Rattle.flu_model.specs.Owners.{owns}
use Rattle.flu_mail.specs.Passing.{seen_items, next_event}
use Rattle.flu_mail.specs.Waiting.{itag}

-- y is the next event of itag j, which node w owns: the first one that is seen and not counted
pub record IsNextOwn (p : Program) (nodes : List Node) (lists : List (List Item)) (w : ℕ) (seen counts : List ℕ) (j : ℕ) (y : Event) : Type 0 where
  pub known : j < count_of_itags p
  pub own : owns p nodes w (itag j) ≡ true
  pub next : next_event (seen_items lists seen j) (slice_index counts j) ≡ Some y

-- the next event of itag j, which node w owns, was not seen, nor all of its items
pub record MayCome (p : Program) (nodes : List Node) (lists : List (List Item)) (w : ℕ) (seen counts : List ℕ) (j : ℕ) : Type 0 where
  pub known : j < count_of_itags p
  pub own : owns p nodes w (itag j) ≡ true
  pub next : next_event (seen_items lists seen j) (slice_index counts j) ≡ None
  pub more : slice_index seen j < length (slice_index_or lists j [])

-- no next event of an own itag is at hand: one may come that was not seen, or there is none
abbrev pub HasNoFirst : Program → List Node → List (List Item) → ℕ → List ℕ → List ℕ → Type 0
HasNoFirst p nodes lists w seen counts =
    ((j : ℕ) × MayCome p nodes lists w seen counts j) ⊎ ((j : ℕ) (y : Event) → IsNextOwn p nodes lists w seen counts j y → ⊥)

-- x is the next event of an own itag, and none of them is before it
pub record IsFirstOwn (p : Program) (nodes : List Node) (lists : List (List Item)) (w : ℕ) (seen counts : List ℕ) (x : Event) : Type 0 where
  pub is : IsNextOwn p nodes lists w seen counts x.itag.0 x
  pub first : (j : ℕ) (y : Event) → IsNextOwn p nodes lists w seen counts j y → is_before y x ≡ false
