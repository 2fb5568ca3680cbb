-- THE HEADLINE, a law for each command: what a call writes if nothing is wrong, in terms of a job's meaning alone. `Outcome` and
-- `Completes` are the clauses of the call `flumina`.
use Rattle.std.specs.Prelude.{◌≡◌, ◌⊎◌, ℕ, List, [], ◌∷◌, ◌++◌, Bool, false, Option, Some, None, Ok, Contains, slice_get}
use Rattle.flu_outside.specs.Outside.{Contents, Rose}
use Rattle.flu_outside.specs.Taking.{bytes_left}
use Rattle.flu_model.specs.declared.jobs.Source.{Source}
use Rattle.flu_model.specs.declared.jobs.Program.{Program}
use Rattle.flu_model.specs.Moments.{timing_of}
use Rattle.flu_model.specs.declared.plans.Node.{Node}
use Rattle.flu_model.specs.Contents.{nothing_held}
use Rattle.flu_model.specs.Erasure.{job_of}
use Rattle.flu_model.specs.Folding.{outputs_of}
use Rattle.flu_model.specs.Merging.{merged}
use Rattle.flu_model.specs.Modes.{IsAccepted}
use Rattle.flu_model.specs.Reports.{report}
use Rattle.flu_model.specs.Validity.{IsValid}
use Rattle.flu_grammar.specs.Jobs.{IsJobText}
use Rattle.flu_grammar.specs.Plans.{IsPlanText}
use Rattle.flu_rows.specs.Row.{form_of}
use Rattle.flu_streams.specs.Files.{files_of}
use Rattle.flu_streams.specs.Good.{first_fault, lines_in, lists_of}
use Rattle.flu_streams.specs.Rounds.{defect_in}
use Rattle.flu_words.specs.Words.{Fold, Run, Simulate, Replay, command_in}
use Rattle.flu_command.specs.Emptied.{emptied, emptied_each, if_named}
use Rattle.flu_command.specs.Outside.{Outside, Faults}
use Rattle.flu_top.specs.Outcome.{Outcome, Completes}
use Rattle.flu_command.specs.Replaying.{HasCompleteTrace}

-- ---- what is written
-- THE REPORT OF THE FOLD: the events of a job's sources are merged in order and folded from the empty state, and these are the lines of
-- their outputs
abbrev pub fold_report : Program → Contents → List ℕ
fold_report p left = report p (outputs_of p nothing_held (merged (lists_of p left)))

-- THE CALL WRITES THIS: its status is 0, and the text was appended to out, if it is known what out had; or memory ran out, and its
-- status is 9
abbrev pub WritesOrNoMemory : List ℕ → Outside → Outside → ℕ → Type 0
WritesOrNoMemory text old new status =
    ((status ≡ 0) × ((had : List ℕ) → old.out ≡ Some had → new.out ≡ Some (had ++ text))) ⊎ (status ≡ 9)

-- ---- what is asked of the outside and of the files
-- in the call no take of these names failed, nor did out
pub record NoneFailed (names : List (List ℕ)) (before now : Faults) : Type 0 where
  pub takes : (name : List ℕ) → Contains names name → ¬ Rose (before.takes name) (now.takes name)
  pub out : ¬ Rose before.out now.out

-- no line of a source has a defect, however many items the sources hold, as when they are read in rounds
abbrev pub HaveNoDefect : Program → Contents → Type 0
HaveNoDefect p left =
    (i : ℕ) (s : Source) → slice_get p.sources i ≡ Some s → defect_in (timing_of p i) p.kinds s (lines_in (form_of (job_of p)) left s) ≡ None

-- the bytes under a name are the text of a plan that is valid for the job
abbrev pub IsValidPlanText : List ℕ → Contents → Program → Type 0
IsValidPlanText plan left p = (nodes : List Node) × IsPlanText p (bytes_left left plan) nodes × IsValid p nodes

-- ---- the laws
-- `fold JOB`: the bytes under that name are the text of a job, and its sources have no fault
abbrev pub FoldIsTheReport : Type 0
FoldIsTheReport =
    (words : List (List ℕ)) (old new : Outside) (before now : Faults) (status : ℕ)
    → Outcome words old new status → Completes words old.left before now status
    → (job : List ℕ) (left : Contents) (p : Program)
    → command_in words ≡ Ok (Fold job) → old.left ≡ Some left
    → IsJobText (bytes_left left job) (job_of p)
    → first_fault p (emptied job left) ≡ None
    → NoneFailed (job ∷ files_of p.sources) before now
    → WritesOrNoMemory (fold_report p (emptied job left)) old new status

-- `run JOB [PLAN | --depth D] [--round ROWS] [--adapt] [--save FILE [--unflushed]]`, not resumed: the same of a job that is accepted, by
-- any plan that is valid for it, in rounds of any number of rows; if checkpoints are saved, not under the name of a source's file, and no put of one failed
abbrev pub RunIsTheFold : Type 0
RunIsTheFold =
    (words : List (List ℕ)) (old new : Outside) (before now : Faults) (status : ℕ)
    → Outcome words old new status → Completes words old.left before now status
    → (job : List ℕ) (plan : Option (List ℕ)) (depth rows : ℕ) (adapt : Bool) (save : Option (List ℕ)) (unflushed : Bool) (left : Contents) (p : Program)
    → command_in words ≡ Ok (Run job plan (record { depth = depth; rows = rows; adapt = adapt; save = save; unflushed = unflushed; resume = None }))
    → old.left ≡ Some left
    → IsJobText (bytes_left left job) (job_of p) → IsAccepted p
    → ((name : List ℕ) → plan ≡ Some name → IsValidPlanText name (emptied job left) p)
    → HaveNoDefect p (emptied_each (job ∷ if_named plan) left)
    → NoneFailed ((job ∷ if_named plan) ++ files_of p.sources) before now
    → ((name : List ℕ) → save ≡ Some name → (¬ Contains (files_of p.sources) name) × ¬ Rose (before.puts name) (now.puts name))
    → WritesOrNoMemory (fold_report p (emptied_each (job ∷ if_named plan) left)) old new status

-- `simulate JOB PLAN SEED`: the same on the net of the plan, by whatever steps the seed draws
abbrev pub SimulationIsTheFold : Type 0
SimulationIsTheFold =
    (words : List (List ℕ)) (old new : Outside) (before now : Faults) (status : ℕ)
    → Outcome words old new status → Completes words old.left before now status
    → (job plan : List ℕ) (seed : ℕ) (left : Contents) (p : Program)
    → command_in words ≡ Ok (Simulate job plan seed false) → old.left ≡ Some left
    → IsJobText (bytes_left left job) (job_of p) → IsAccepted p
    → IsValidPlanText plan (emptied job left) p
    → first_fault p (emptied plan (emptied job left)) ≡ None
    → NoneFailed ((job ∷ plan ∷ []) ++ files_of p.sources) before now
    → WritesOrNoMemory (fold_report p (emptied plan (emptied job left))) old new status

-- `replay JOB PLAN TRACE`: the same by the steps of a trace that is complete
abbrev pub ReplayIsTheFold : Type 0
ReplayIsTheFold =
    (words : List (List ℕ)) (old new : Outside) (before now : Faults) (status : ℕ)
    → Outcome words old new status → Completes words old.left before now status
    → (job plan trace : List ℕ) (left : Contents) (p : Program)
    → command_in words ≡ Ok (Replay job plan trace) → old.left ≡ Some left
    → IsJobText (bytes_left left job) (job_of p) → IsAccepted p
    → IsValidPlanText plan (emptied job left) p
    → first_fault p (emptied plan (emptied job left)) ≡ None
    → HasCompleteTrace (Replay job plan trace) left p
    → NoneFailed ((job ∷ plan ∷ trace ∷ []) ++ files_of p.sources) before now
    → WritesOrNoMemory (fold_report p (emptied plan (emptied job left))) old new status

-- a text determines its program except for the places of its boxes in memory, which change no report
abbrev pub OneTextOneReport : Type 0
OneTextOneReport =
    (bytes : List ℕ) (p q : Program) → IsJobText bytes (job_of p) → IsJobText bytes (job_of q)
    → (left : Contents) → fold_report p left ≡ fold_report q left
