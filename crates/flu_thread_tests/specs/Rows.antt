-- The case of the tests: two sources that add and one that reads, at the leaves and at the root of a plan.
use Rattle.std.specs.Prelude.{◌≡◌, ℕ, ℤ, pos, true, false, List, [], ◌∷◌, length, Some, None}
use Rattle.flu_model.specs.declared.events.Event.{Event}
use Rattle.flu_model.specs.declared.events.Item.{Item}
use Rattle.flu_model.specs.declared.events.Item.TheVariants.{Event as ItemEvent, End}
use Rattle.flu_model.specs.Itags.{count_of_itags}
use Rattle.flu_model.specs.Listed.{listed}
use Rattle.flu_model.specs.Owners.{owner_of, are_related}
use Rattle.flu_fork.specs.declared.content.Content.{Content}
use Rattle.flu_fork.specs.declared.lots.Lot.{Lot}
use Rattle.flu_fork.specs.declared.lots.Ask.{Ask}
use Rattle.flu_fork.specs.Classes.{itag}
use Rattle.flu_fork.specs.Laws.{no_counts}
use Rattle.flu_fork.specs.Lots.{job, nodes, kids, LotFits}
use Rattle.flu_fork.specs.Serving.{LotCounts, Served}
use Rattle.flu_link.specs.Notes.{UpperNote, LowerNote}

abbrev pub event : ℕ → ℕ → ℤ → Event
event time i value = record { time = time; itag = itag i; item = 0; value = value }

abbrev pub row : List (List Item)
row =
    (ItemEvent (event 1 0 (pos 5)) ∷ ItemEvent (event 4 0 (pos 2)) ∷ End ∷ [])
    ∷ (ItemEvent (event 2 1 (pos 7)) ∷ End ∷ [])
    ∷ (ItemEvent (event 3 2 (pos 0)) ∷ ItemEvent (event 5 2 (pos 0)) ∷ End ∷ [])
    ∷ []

-- an event and a read at one time
abbrev pub at_one_time : List (List Item)
at_one_time =
    (ItemEvent (event 3 0 (pos 1)) ∷ End ∷ [])
    ∷ (End ∷ [])
    ∷ (ItemEvent (event 3 2 (pos 0)) ∷ End ∷ [])
    ∷ []

-- the reads are the root's, and what each of the other sources adds is a leaf's
pub record HasShape (k : Content) : Type 0 where
  pub itags : count_of_itags (job k) ≡ 3
  pub count : length (nodes k) ≡ 3
  pub root : kids k 0 ≡ Some (1, 2)
  pub leaf : kids k 1 ≡ None
  pub left : owner_of (job k) (nodes k) (itag 0) ≡ Some 1
  pub right : owner_of (job k) (nodes k) (itag 1) ≡ Some 2
  pub reads : owner_of (job k) (nodes k) (itag 2) ≡ Some 0
  pub apart : are_related (nodes k) 2 1 ≡ false

pub record IsRow (k : Content) : Type 0 where
  pub shape : HasShape k
  pub streams : listed k.streams ≡ row

-- the first read
abbrev pub first_read : Ask
first_read = record { itag = itag 2; index = 0 }

-- the counts of a lot that has counted nothing
abbrev pub no_events : LotCounts
no_events = record { since = 0 ∷ 0 ∷ 0 ∷ []; upto = 0 ∷ 0 ∷ 0 ∷ [] }

-- a lot of the left leaf that has counted nothing
pub record IsUnused (k : Content) (lot : Lot) : Type 0 where
  pub fits : LotFits k 1 lot
  pub since : lot.since ≡ 0 ∷ 0 ∷ 0 ∷ []
  pub upto : lot.upto ≡ 0 ∷ 0 ∷ 0 ∷ []

-- the left leaf's lot with the first event, served for the first read by a loan of that lot before it
pub record IsServed (k : Content) (lot : Lot) : Type 0 where
  pub fits : LotFits k 1 lot
  pub served : Served k 1 no_events first_read lot

-- the upper end of the left leaf's link, when nothing was asked for yet
pub record IsIdle (k : Content) (u : UpperNote) : Type 0 where
  pub case : u.case ≡ k
  pub lower : u.lower ≡ 1
  pub lent : u.lent.upto ≡ no_counts (job k)
  pub received : u.received ≡ no_counts (job k)
  pub taken : u.taken ≡ true

-- its lower end, when nothing was given yet
pub record IsNew (k : Content) (l : LowerNote) : Type 0 where
  pub case : l.case ≡ k
  pub lower : l.lower ≡ 1
