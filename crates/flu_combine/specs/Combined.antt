-- WHAT IS WRITTEN of the partials of nodes apart and of the sources that have events inside none of them.
use Rattle.std.specs.Prelude.{◌≡◌, ◌≢◌, ℕ, true, Some, None, List, [], Contains}
use Rattle.flu_model.specs.declared.events.Event.{Event}
use Rattle.flu_model.specs.declared.jobs.Program.{Program}
use Rattle.flu_model.specs.declared.plans.Node.{Node}
use Rattle.flu_model.specs.Reports.{report}
use Rattle.flu_outside.specs.Outside.{Contents}
use Rattle.flu_contribution.specs.Contributions.{Contribution}
use Rattle.flu_contribution.specs.Laws.{AreNodesApart}
use Rattle.flu_contribution.specs.Sending.{joined_from}
use Rattle.flu_selected.specs.Gathering.{IsRead}
use Rattle.flu_selected.specs.Laws.{first_read_fault}
use Rattle.flu_readers.specs.Reading.{reads_rest, rest_read}
use Rattle.flu_joining.specs.Joining.{are_used_up, events_of_none, nothing_joined}
use Rattle.flu_combine.specs.Names.{read_out}
use Rattle.flu_combine.specs.Partials.{ArePartials, AllTellRows}

-- ACCEPTED: under each name is a partial of the node at its place, which tells its rows, and the nodes may be apart, none within another
pub record AreAccepted (p : Program) (nodes : List Node) (left : Contents) (names : List (List ℕ)) (ws : List ℕ)
    (queues : List (List Contribution)) (told : List ℕ) : Type 0 where
  pub partials : ArePartials p nodes left names ws queues
  pub tell : AllTellRows p left names told
  pub apart : AreNodesApart p nodes ws

-- the events inside none of the nodes, of the sources that have some, as their files are once the partials are read; clocks tick among the rows of
-- the nodes too, as told
abbrev pub events_of_rest : Program → List Node → List (List ℕ) → List ℕ → List ℕ → Contents → List Event
events_of_rest p nodes names ws told left = events_of_none p nodes ws (rest_read p nodes ws told (read_out names left))

-- the report of what the nodes sent, joined to the fold of these events
abbrev pub combined_text : Program → List Node → List (List ℕ) → List ℕ → List (List Contribution) → List ℕ → Contents → List ℕ
combined_text p nodes names ws queues told left = report p (joined_from p nothing_joined queues (events_of_rest p nodes names ws told left)).outputs

-- THIS IS WHAT IS COMBINED: of partials of some nodes, one at least, each under its name, and of sources without a defect, with all that was sent
-- joined; and these names and the files of the sources that are read were read to their end, and no others were read
pub record IsCombined (p : Program) (nodes : List Node) (names : List (List ℕ)) (text : List ℕ) (old new : Contents) : Type 0 where
  pub some : names ≢ []
  pub ws : List ℕ
  pub queues : List (List Contribution)
  pub told : List ℕ
  pub accepted : AreAccepted p nodes old names ws queues told
  pub good : first_read_fault p told (reads_rest p nodes ws) (read_out names old) ≡ None
  pub used_up : are_used_up queues (events_of_rest p nodes names ws told old) ≡ true
  pub is : text ≡ combined_text p nodes names ws queues told old
  pub partials_end : (name : List ℕ) → Contains names name → new name ≡ Some []
  pub sources_end : (name : List ℕ) → IsRead p (reads_rest p nodes ws) name → new name ≡ Some []

-- a name is the file of a source that is read beside the partials
abbrev pub IsReadBeside : Program → List Node → List (List ℕ) → Contents → List ℕ → Type 0
IsReadBeside p nodes names left name =
    (ws : List ℕ) × (queues : List (List Contribution)) × (told : List ℕ) × AreAccepted p nodes left names ws queues told
    × IsRead p (reads_rest p nodes ws) name

-- all names but those of the partials, and the files of the sources that are read beside them, have what they had
abbrev pub LeavesUnread : Program → List Node → List (List ℕ) → Contents → Contents → Type 0
LeavesUnread p nodes names old new =
    (other : List ℕ) → ¬ Contains names other → ¬ IsReadBeside p nodes names old other → new other ≡ old other
