-- What a run in rounds has counted (`docs/MODEL.md`, "Rounds").
use Rattle.std.specs.Prelude.{◌≡◌, ℕ, ◌≤◌, Option, List, [], ◌++◌}
use Rattle.flu_model.specs.declared.jobs.Program.{Program}
use Rattle.flu_model.specs.Contents.{Contents}
use Rattle.flu_outside.specs.Outside.{Contents as Files, WhereTold}
use Rattle.flu_streams.specs.declared.border.Border.TheVariants.{At, Closed}
use Rattle.flu_streams.specs.Counts.{grown, grown_in_turn}
use Rattle.flu_streams.specs.Good.{lists_of}
use Rattle.flu_streams.specs.Holding.{ClosedAreReadOut}
use Rattle.flu_rounds.specs.Coming.{CameFrom, lists_above}
use Rattle.flu_rounds.specs.Standing.{Standing, Runs, StandsBehind, IsFirstFrom, round_lists, round_report}

-- A RUN HAS COUNTED ITS EVENTS: it has come to a standing, and the counts are those of its start, increased by the lists of its rounds in
-- turn
pub record CountedFrom (p : Program) (rows : ℕ) (border : Option ℕ) (opening : Contents) (start left : Option Files) (now : Standing) (written : List ℕ)
    (first counts : List ℕ) : Type 0 where
  pub came : CameFrom p rows border opening start left now written
  pub counts' : counts ≡ grown_in_turn first came.done

-- before the first round nothing has been counted
abbrev pub LawOfFirstCounts : Type 0
LawOfFirstCounts =
    (p : Program) (rows : ℕ) (border : Option ℕ) (opening : Contents) (left : Option Files) (now : Standing) (first : List ℕ)
    → IsFirstFrom p rows border opening now → CountedFrom p rows border opening left left now [] first first

-- a round with a border increases the counts by its lists
abbrev pub LawOfNextCounts : Type 0
LawOfNextCounts =
    (p : Program) (rows : ℕ) (border : Option ℕ) (opening : Contents) (start left left' : Option Files) (old new : Standing) (written first counts : List ℕ)
    (t : ℕ)
    → (counted : CountedFrom p rows border opening start left old written first counts)
    → (runs : Runs old new left left' (At t) counted.came.before)
    → StandsBehind old.held new.held (At t)
    → (ClosedAreReadOut old.held left → ClosedAreReadOut new.held left')
    → CountedFrom p rows border opening start left' new (written ++ round_report old (At t) runs.fills.now) first
    (grown counts (round_lists old (At t) runs.fills.now))

-- after the last round the events of all rows above the run's start were counted
abbrev pub LawOfLastCounts : Type 0
LawOfLastCounts =
    (p : Program) (rows : ℕ) (border : Option ℕ) (opening : Contents) (start left left' : Option Files) (old new : Standing) (written first counts : List ℕ)
    → 1 ≤ rows
    → (counted : CountedFrom p rows border opening start left old written first counts)
    → (runs : Runs old new left left' Closed counted.came.before)
    → WhereTold start left' (λ was is. grown counts (round_lists old Closed runs.fills.now) ≡ grown first (lists_above p border (lists_of p was)))
