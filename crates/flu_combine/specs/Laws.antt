-- WHAT IS COMBINED IS THE REPORT OF ALL SOURCES.
use Rattle.std.specs.Prelude.{◌≡◌, ◌<◌, ◌≤◌, ℕ, true, List, [], length, map, if◌then◌else◌, IsTrue}
use Rattle.std.specs.List.{list_any}
use Rattle.std.specs.Str.{IsUtf8}
use Rattle.flu_model.specs.declared.events.Item.{Item}
use Rattle.flu_model.specs.declared.jobs.Program.{Program}
use Rattle.flu_model.specs.declared.plans.Node.{Node}
use Rattle.flu_model.specs.Contents.{nothing_held}
use Rattle.flu_model.specs.Erasure.{job_of}
use Rattle.flu_model.specs.Folding.{final_outputs}
use Rattle.flu_model.specs.Itags.{count_of_itags}
use Rattle.flu_model.specs.PlanRules.{nodes_have_own_names}
use Rattle.flu_model.specs.Reports.{report}
use Rattle.flu_model.specs.Rules.{is_clock}
use Rattle.flu_model.specs.Streaming.{are_streams}
use Rattle.flu_outside.specs.Outside.{Contents}
use Rattle.flu_contribution.specs.Contributions.{Contribution}
use Rattle.flu_contribution.specs.Laws.{AreNodesApart, IsSetting}
use Rattle.flu_contribution.specs.Sharing.{all_sent}
use Rattle.flu_parse.specs.Printing.{normal_form}
use Rattle.flu_plan.specs.Printing.{has_text}
use Rattle.flu_sending.specs.Laws.{AreReadable}
use Rattle.flu_sending.specs.Lines.{first_time, last_time, sent_by}
use Rattle.flu_streams.specs.declared.faults.SourceFault.{SourceFault}
use Rattle.flu_streams.specs.Good.{lists_of}
use Rattle.flu_selected.specs.Gathering.{IsRead}
use Rattle.flu_readers.specs.Reading.{reads_rest, part_read, all_told, IsReadGood, EachReadsGood}
use Rattle.flu_node_run.specs.Partials.{text_of_partial}
use Rattle.flu_combine.specs.declared.fault.PartialDefect.{PartialDefect}
use Rattle.flu_combine.specs.Combined.{IsCombined}
use Rattle.flu_combine.specs.Faults.{IsFaultOfPartial, IsFaultOfSource}
use Rattle.flu_combine.specs.Names.{read_out}
use Rattle.flu_combine.specs.Partials.{most_bytes, told_by, times_fit, ArePartials, IsPartialOf, TellsRows, AllTellRows}

-- THE FIRST DEFECT IS ONE: over one content of the names, at most one partial of a list has the first defect, and it has one
abbrev pub FirstDefectIsOne : Type 0
FirstDefectIsOne =
    (p : Program) (nodes : List Node) (names : List (List ℕ)) (left : Contents) (a b : ℕ) (d e : PartialDefect)
    → IsFaultOfPartial p nodes names left a d → IsFaultOfPartial p nodes names left b e → (a ≡ b) × (d ≡ e)

-- WHAT IS COMBINED HAS NO FAULT: where something can be combined of what the names have, no partial among them has a first defect, and none of the sources
-- that are read beside them has one
abbrev pub NoPartialIsFaulty : Type 0
NoPartialIsFaulty =
    (p : Program) (nodes : List Node) (names : List (List ℕ)) (text : List ℕ) (left now : Contents) (place : ℕ) (d : PartialDefect)
    → IsCombined p nodes names text left now → ¬ IsFaultOfPartial p nodes names left place d

abbrev pub NoSourceIsFaulty : Type 0
NoSourceIsFaulty =
    (p : Program) (nodes : List Node) (names : List (List ℕ)) (text : List ℕ) (left now : Contents) (fault : SourceFault)
    → IsCombined p nodes names text left now → ¬ IsFaultOfSource p nodes names left fault

-- A SOURCE OR A PARTIAL: where a source that is read beside the partials has the first defect, no partial has it
abbrev pub SourcesOrPartialsAreFaulty : Type 0
SourcesOrPartialsAreFaulty =
    (p : Program) (nodes : List Node) (names : List (List ℕ)) (left : Contents) (fault : SourceFault) (place : ℕ) (d : PartialDefect)
    → IsFaultOfSource p nodes names left fault → ¬ IsFaultOfPartial p nodes names left place d

-- THE TEXT OF A PARTIAL IS A WHOLE PARTIAL of what the node sends, if it is not too long. What the job and the plan that it is of are read from gives that
-- the job's normal form is UTF-8, that the plan has a text, and that its nodes have names of their own
abbrev pub TextsAreWholePartials : Type 0
TextsAreWholePartials =
    (p : Program) (nodes : List Node) (w : ℕ) (lists : List (List Item))
    → IsUtf8 (normal_form (job_of p)) → IsTrue (has_text p nodes) → IsTrue (nodes_have_own_names nodes) → w < length nodes
    → length lists ≡ count_of_itags p → IsTrue (are_streams 0 lists) → AreReadable lists
    → length (text_of_partial p nodes w lists) ≤ most_bytes
    → IsPartialOf p nodes (text_of_partial p nodes w lists) w (sent_by p nodes w lists)

-- THE TEXT OF A PARTIAL TELLS ITS ROWS, if it is not too long and their times fit: likewise
abbrev pub TextsTellTheirRows : Type 0
TextsTellTheirRows =
    (p : Program) (nodes : List Node) (w : ℕ) (lists : List (List Item))
    → IsUtf8 (normal_form (job_of p)) → IsTrue (has_text p nodes) → IsTrue (nodes_have_own_names nodes) → w < length nodes
    → length lists ≡ count_of_itags p → IsTrue (are_streams 0 lists) → AreReadable lists → length (text_of_partial p nodes w lists) ≤ most_bytes
    → times_fit p (first_time p lists) (last_time p lists) ≡ true
    → TellsRows p (text_of_partial p nodes w lists) (told_by p (first_time p lists) (last_time p lists))

-- what each node sends of the sources that it reads, from a state in which all cells are neutral
abbrev pub sent_of_each : Program → List Node → Contents → List ℕ → List (List Contribution)
sent_of_each p nodes left ws = all_sent p nodes nothing_held ws (map (part_read p nodes left) ws)

-- what the nodes tell of where their rows stand, in a job with a clock
abbrev pub told_of_each : Program → List Node → Contents → List ℕ → List ℕ
told_of_each p nodes left ws = if list_any is_clock p.sources then all_told p nodes left ws else []

-- PARTIALS ARE COMBINED: let nodes be apart, and let no source have a defect for one of them or for the one that combines. Where under each name is the
-- partial of its node, of the sources that it reads, and the files of the sources that the one that combines reads have what they have there, whatever
-- is combined is the report of all sources
abbrev pub PartialsAreCombined : Type 0
PartialsAreCombined =
    (p : Program) (nodes : List Node) (ws : List ℕ) (names : List (List ℕ)) (text : List ℕ) (left old new : Contents)
    → IsSetting p nodes nothing_held → AreNodesApart p nodes ws → EachReadsGood p nodes left ws
    → IsReadGood p (told_of_each p nodes left ws) (reads_rest p nodes ws) left
    → ArePartials p nodes old names ws (sent_of_each p nodes left ws) → AllTellRows p old names (told_of_each p nodes left ws)
    → ((name : List ℕ) → IsRead p (reads_rest p nodes ws) name → read_out names old name ≡ left name)
    → IsCombined p nodes names text old new → text ≡ report p (final_outputs p nothing_held (lists_of p left))
