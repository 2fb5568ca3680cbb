-- Borders: times at which a run is cut.
use Rattle.std.specs.Prelude.{◌≡◌, ℕ, nat_lt, nat_le, List, ◌++◌, map}
use Rattle.std.specs.List.{filter}
use Rattle.flu_model.specs.declared.events.Item.{Item}
use Rattle.flu_model.specs.declared.jobs.Program.{Program}
use Rattle.flu_model.specs.Contents.{Contents}
use Rattle.flu_model.specs.Folding.{final_state, final_outputs}
use Rattle.flu_model.specs.Merging.{all_events}
use Rattle.flu_model.specs.Moments.{time_of_moment}
use Rattle.flu_model.specs.Reports.{report}
use Rattle.flu_streams.specs.Lists.{item_time}

-- the time of an item, which is at its moment
abbrev pub own_time : Program → Item → ℕ
own_time p item = time_of_moment p (item_time item)

-- the items of each itag up to a time
abbrev pub up_to : Program → ℕ → List (List Item) → List (List Item)
up_to p t lists = map (filter (λ item. nat_le (own_time p item) t)) lists

-- the later items of each itag
abbrev pub beyond : Program → ℕ → List (List Item) → List (List Item)
beyond p t lists = map (filter (λ item. nat_lt t (own_time p item))) lists

-- THE EVENTS ARE CUT AT A TIME: the first lists have those up to it, and the second ones the later ones
pub record AreCutAt (p : Program) (t : ℕ) (whole first second : List (List Item)) : Type 0 where
  pub early : all_events first ≡ filter (λ x. nat_le (time_of_moment p x.time) t) (all_events whole)
  pub late : all_events second ≡ filter (λ x. nat_lt t (time_of_moment p x.time)) (all_events whole)

-- what the fold gives is what the fold of the first lists gives, and then, from its state, the fold of the second ones
pub record FoldsInTurn (p : Program) (opening : Contents) (whole first second : List (List Item)) : Type 0 where
  pub state : final_state p opening whole ≡ final_state p (final_state p opening first) second
  pub outputs : final_outputs p opening whole ≡ final_outputs p opening first ++ final_outputs p (final_state p opening first) second
  pub lines : report p (final_outputs p opening whole) ≡ report p (final_outputs p opening first)
      ++ report p (final_outputs p (final_state p opening first) second)

-- LAW OF BORDERS: what is cut at a time can be folded in turn
abbrev pub LawOfBorders : Type 0
LawOfBorders =
    (p : Program) (opening : Contents) (t : ℕ) (whole first second : List (List Item))
    → AreCutAt p t whole first second → FoldsInTurn p opening whole first second

-- the items up to a time and the later ones are cut at it
abbrev pub ItemsAreCut : Type 0
ItemsAreCut = (p : Program) (t : ℕ) (lists : List (List Item)) → AreCutAt p t lists (up_to p t lists) (beyond p t lists)
