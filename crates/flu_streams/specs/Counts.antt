-- Counts of events: a list of them, one for each itag, by the itag's number; and how the events of lists make them grow.
use Rattle.std.specs.Prelude.{◌≡◌, ℕ, suc, ◌+◌, ◌-◌, ◌^◌, ◌≤◌, ◌==◌, min, Option, List, [], ◌∷◌, ◌++◌, replicate, count_by}
use Rattle.flu_model.specs.declared.events.Event.{Event}
use Rattle.flu_model.specs.declared.events.Item.{Item}
use Rattle.flu_model.specs.declared.jobs.Program.{Program}
use Rattle.flu_model.specs.Itags.{count_of_itags}
use Rattle.flu_model.specs.Merging.{merged}
use Rattle.flu_rows.specs.declared.rows.Next.{Next}
use Rattle.flu_streams.specs.declared.border.Border.{Border}
use Rattle.flu_streams.specs.Rounds.{ComesFrom, IsRound, lists_between}

-- how many of some events are of the itag with this number
abbrev pub count_of_itag : List Event → ℕ → ℕ
count_of_itag events itag = count_by (λ x. x.itag.0 == itag) events

-- a count with some more events; it stays at the greatest one that there is
abbrev pub counted_on : ℕ → ℕ → ℕ
counted_on count more = min (count + more) (2 ^ 64 - 1)

-- the counts of the itags from this number on, each increased by the events of its itag
abbrev pub grown_by : ℕ → List ℕ → List Event → List ℕ
grown_by itag [] events = []
grown_by itag (count ∷ counts) events = counted_on count (count_of_itag events itag) ∷ grown_by (suc itag) counts events

-- COUNTS THAT HAVE GROWN by all events of some lists, each count by those of its itag
abbrev pub grown : List ℕ → List (List Item) → List ℕ
grown counts lists = grown_by 0 counts (merged lists)

-- by the events of some lists, and then of others, and so on
abbrev pub grown_in_turn : List ℕ → List (List (List Item)) → List ℕ
grown_in_turn counts [] = counts
grown_in_turn counts (lists ∷ rest) = grown_in_turn (grown counts lists) rest

-- before any event is counted
abbrev pub no_counts : Program → List ℕ
no_counts p = replicate (count_of_itags p) 0

-- after the events of other lists, the events of some more lists
abbrev pub OneMoreInTurn : Type 0
OneMoreInTurn = (counts : List ℕ) (done : List (List (List Item))) (lists : List (List Item))
    → grown_in_turn counts (done ++ lists ∷ []) ≡ grown (grown_in_turn counts done) lists

-- LAW OF COUNTS: the events of the rounds up to any one, counted round by round, are those of all rows that were read above the run's
-- start, up to the new border
abbrev pub LawOfCounts : Type 0
LawOfCounts =
    (p : Program) (rows : ℕ) (whole : ℕ → List Next) (start : Option ℕ) (done : List (List (List Item))) (above : Option ℕ) (before now : ℕ → List Next)
    (end : Border)
    (counts : List ℕ)
    → 1 ≤ rows → ComesFrom p rows whole start done above before → IsRound p rows above whole before now end
    → grown (grown_in_turn counts done) (lists_between p above end now) ≡ grown counts (lists_between p start end now)
