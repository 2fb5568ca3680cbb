-- What does not depend on which program of a job's text is taken: two programs of one text differ only in the places of their expressions in
-- memory.
use Rattle.std.specs.Prelude.{◌≡◌, ◌≤◌, ℕ, List}
use Rattle.flu_outside.specs.Outside.{Contents}
use Rattle.flu_model.specs.declared.jobs.Program.{Program}
use Rattle.flu_model.specs.Contents.{Contents as State}
use Rattle.flu_model.specs.Erasure.{IsSameJob}
use Rattle.flu_model.specs.Folding.{final_outputs}
use Rattle.flu_model.specs.Reports.{report}
use Rattle.flu_streams.specs.Good.{lists_of}
use Rattle.flu_words.specs.Words.{Command}
use Rattle.flu_command.specs.Behind.{WantedJob, HasJob}
use Rattle.flu_command.specs.Done.{HasValidPlan}
use Rattle.flu_command.specs.Mending.{AreMended}
use Rattle.flu_command.specs.Openings.{Opening, report_from}
use Rattle.flu_command.specs.Reading.{Reading, AreSourcesGood, HasDefect}
use Rattle.flu_command.specs.Starting.{StartsFrom}

-- the programs of a text are one job
abbrev pub TextsHaveOneJob : Type 0
TextsHaveOneJob = (job : WantedJob) (left : Contents) (p q : Program) → HasJob job left p → HasJob job left q → IsSameJob p q

-- a plan that is valid for one of them is valid for each
abbrev pub PlansFitEach : Type 0
PlansFitEach =
    (job : WantedJob) (plan : List ℕ) (left : Contents) (p q : Program) → HasJob job left p → HasJob job left q → HasValidPlan job plan left p
    → HasValidPlan job plan left q

-- programs that are one job have one report of the rows of the same files, from the same state; and the same behind texts, from an opening
abbrev pub JobsHaveOneReport : Type 0
JobsHaveOneReport =
    (p q : Program) (s : State) (left : Contents) → IsSameJob p q
    → report p (final_outputs p s (lists_of p left)) ≡ report q (final_outputs q s (lists_of q left))

abbrev pub JobsHaveOneRest : Type 0
JobsHaveOneRest =
    (p q : Program) → IsSameJob p q → (o : Opening) (texts : List (List ℕ)) (left : Contents) → report_from o texts left p ≡ report_from o texts left q

-- sources that have no defect for one have none for the other, and sources that are mended for one are mended for the other
abbrev pub JobsHaveGoodSources : Type 0
JobsHaveGoodSources =
    (reading : Reading) (texts : List (List ℕ)) (left : Contents) (p q : Program) → IsSameJob p q → AreSourcesGood reading texts left p
    → AreSourcesGood reading texts left q

abbrev pub JobsHaveMendedSources : Type 0
JobsHaveMendedSources = (p q : Program) (left mended : Contents) → IsSameJob p q → AreMended p left mended → AreMended q left mended

-- ---- what is clear of sources and starts
-- good sources have no defect
abbrev pub GoodSourcesHaveNone : Type 0
GoodSourcesHaveNone =
    (reading : Reading) (texts : List (List ℕ)) (left : Contents) (p : Program) → AreSourcesGood reading texts left p → HasDefect reading texts left p → ⊥

-- the rounds of a run have a row or more
abbrev pub StartsHaveRows : Type 0
StartsHaveRows = (command : Command) (left : Contents) (p : Program) (o : Opening) → StartsFrom command left p o → 1 ≤ o.rows
