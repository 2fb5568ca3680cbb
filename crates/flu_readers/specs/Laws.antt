-- Where each reads its sources alone, each has what it needs, and what they send and join is the report of all sources. Clocks tick for a node among
-- the rows that it reads, and for the one that combines among its own and those that the nodes tell.
use Rattle.std.specs.Prelude.{◌≡◌, ℕ, Bool, false, List, [], map, IsTrue}
use Rattle.std.specs.List.{list_any}
use Rattle.flu_model.specs.declared.jobs.Program.{Program}
use Rattle.flu_model.specs.declared.plans.Node.{Node}
use Rattle.flu_model.specs.Contents.{Contents as Cells}
use Rattle.flu_model.specs.Rules.{is_clock}
use Rattle.flu_model.specs.Streaming.{are_streams}
use Rattle.flu_outside.specs.Outside.{Contents}
use Rattle.flu_streams.specs.Good.{AreGood, lists_beside, lists_of}
use Rattle.flu_apart.specs.Apart.{MayBeApart}
use Rattle.flu_contribution.specs.Laws.{AreNodesApart, IsSetting}
use Rattle.flu_contribution.specs.Sharing.{IsPartFor, IsRestFor, GivesTheReport}
use Rattle.flu_selected.specs.Gathering.{IsRead}
use Rattle.flu_selected.specs.Laws.{selected, read_ranks, first_read_fault}
use Rattle.flu_readers.specs.Reading.{reads, reads_rest, part_read, rest_read, AreTold, IsReadGood, EachReadsGood}

-- FILES THAT ARE READ MATTER: where these have the same bytes, so have their lists the same items, their rows stand in the same places, and the same
-- defect is the first, whatever the other files have
pub record ReadAlike (p : Program) (is_read : ℕ → Bool) (left other : Contents) : Type 0 where
  pub lists : (beside : List ℕ) → lists_beside p beside (selected p is_read left) ≡ lists_beside p beside (selected p is_read other)
  pub ranks : read_ranks p is_read left ≡ read_ranks p is_read other
  pub faults : (beside : List ℕ) → first_read_fault p beside is_read left ≡ first_read_fault p beside is_read other

abbrev pub FilesThatAreReadMatter : Type 0
FilesThatAreReadMatter =
    (p : Program) (is_read : ℕ → Bool) (left other : Contents) → ((name : List ℕ) → IsRead p is_read name → left name ≡ other name)
    → ReadAlike p is_read left other

-- GOOD SOURCES GIVE STREAMS: where no source has a defect, the lists of the itags are streams
abbrev pub GoodSourcesGiveStreams : Type 0
GoodSourcesGiveStreams = (p : Program) (left : Contents) → AreGood p left → IsTrue (are_streams 0 (lists_of p left))

-- GOOD SOURCES ARE GOOD WHERE READ: where no source of a job without clocks has a defect, none has one if only some are read
abbrev pub GoodWhereRead : Type 0
GoodWhereRead = (p : Program) (is_read : ℕ → Bool) (left : Contents) → list_any is_clock p.sources ≡ false → AreGood p left → IsReadGood p [] is_read left

-- PARTS THAT ARE GOOD GIVE STREAMS: where no source that one of the nodes or the one that combines reads has a defect for it, the lists of all
-- itags are streams, since each of them is read
abbrev pub GoodPartsGiveStreams : Type 0
GoodPartsGiveStreams =
    (p : Program) (nodes : List Node) (ws beside : List ℕ) (left : Contents) → EachReadsGood p nodes left ws
    → IsReadGood p beside (reads_rest p nodes ws) left → IsTrue (are_streams 0 (lists_of p left))

-- A NODE READS ITS PART: of the lists of the sources that it reads, if these have no defect, a node that may be apart sends what it would send of all
-- sources. A tick among all rows that is none among its own comes before these, or behind a tick that is behind them.
abbrev pub ANodeReadsItsPart : Type 0
ANodeReadsItsPart =
    (p : Program) (nodes : List Node) (w : ℕ) (left : Contents) → MayBeApart p nodes w → IsTrue (are_streams 0 (lists_of p left))
    → IsReadGood p [] (reads p nodes w) left → IsPartFor p nodes (lists_of p left) w (part_read p nodes left w)

-- THE REST IS READ: the lists of the sources that the one that combines reads, if these have no defect, have all events of the itags that are
-- inside none of the nodes. The rows that it reads and those that the nodes tell have the first and the last of all rows, and so all ticks.
abbrev pub TheRestIsRead : Type 0
TheRestIsRead =
    (p : Program) (nodes : List Node) (ws beside : List ℕ) (left : Contents) → AreTold p nodes left ws beside → IsTrue (are_streams 0 (lists_of p left))
    → IsReadGood p beside (reads_rest p nodes ws) left → IsRestFor p nodes ws (lists_of p left) (rest_read p nodes ws beside left)

-- SELECTED PARTS GIVE THE REPORT: what the nodes send of what each of them read, joined at its places among the events of what the one that
-- combines read, gives the final state and the report of all sources, where none finds a defect in the sources that it reads
abbrev pub SelectedPartsGiveTheReport : Type 0
SelectedPartsGiveTheReport =
    (p : Program) (nodes : List Node) (ws beside : List ℕ) (opening : Cells) (left : Contents)
    → IsSetting p nodes opening → AreNodesApart p nodes ws → AreTold p nodes left ws beside → EachReadsGood p nodes left ws
    → IsReadGood p beside (reads_rest p nodes ws) left
    → GivesTheReport p nodes ws opening (lists_of p left) (map (part_read p nodes left) ws) (rest_read p nodes ws beside left)

-- so where no source of a job without clocks has a defect
abbrev pub GoodSourcesGiveTheReport : Type 0
GoodSourcesGiveTheReport =
    (p : Program) (nodes : List Node) (ws : List ℕ) (opening : Cells) (left : Contents)
    → list_any is_clock p.sources ≡ false → IsSetting p nodes opening → AreNodesApart p nodes ws → AreGood p left
    → GivesTheReport p nodes ws opening (lists_of p left) (map (part_read p nodes left) ws) (rest_read p nodes ws [] left)
