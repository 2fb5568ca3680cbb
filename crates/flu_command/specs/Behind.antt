-- What a job's text, a plan's text and the sources are, if it is known what the files have left when a call begins.
use Rattle.std.specs.Prelude.{◌≡◌, ℕ, List, [], ◌∷◌, Option}
use Rattle.flu_outside.specs.Outside.{Contents}
use Rattle.flu_model.specs.declared.events.Item.{Item}
use Rattle.flu_model.specs.declared.jobs.Program.{Program}
use Rattle.flu_model.specs.Contents.{nothing_held}
use Rattle.flu_model.specs.Erasure.{Job, job_of}
use Rattle.flu_model.specs.Folding.{final_outputs}
use Rattle.flu_model.specs.Reports as reports
use Rattle.flu_outside.specs.Taking.{bytes_left}
use Rattle.flu_model.specs.declared.plans.Node.{Node}
use Rattle.flu_grammar.specs.Jobs.{IsJobText}
use Rattle.flu_grammar.specs.Plans.{IsPlanText}
use Rattle.flu_streams.specs.declared.faults.SourceFault.{SourceFault}
use Rattle.flu_streams.specs.Good.{first_fault, lists_of}
pub use Rattle.flu_command.specs.Emptied.{emptied, emptied_each}

-- the job that is wanted: the one whose text is under a name, or a fixed one, for which no file is read
pub data WantedJob : Type 0 where
  Named : (name : List ℕ) → WantedJob
  Fixed : (job : Job) → WantedJob

-- the program is the job that is wanted
abbrev pub HasJob : WantedJob → Contents → Program → Type 0
HasJob (Named name) left p = IsJobText (bytes_left left name) (job_of p)
HasJob (Fixed job) left p = job_of p ≡ job

-- the file of the job, if its text is under a name
abbrev pub job_files : WantedJob → List (List ℕ)
job_files (Named name) = name ∷ []
job_files (Fixed job) = []

-- the first fault of the program's sources, which are read after some texts
unfoldable pub fault_behind : List (List ℕ) → Contents → Program → Option SourceFault
fault_behind texts left p = first_fault p (emptied_each texts left)

-- for each itag of the program the items of its source, which is read after some texts
unfoldable pub lists_behind : List (List ℕ) → Contents → Program → List (List Item)
lists_behind texts left p = lists_of p (emptied_each texts left)

-- the report of the fold of all events of the program's sources, which are read after some texts, from the empty state
unfoldable pub report_behind : List (List ℕ) → Contents → Program → List ℕ
report_behind texts left p = reports.report p (final_outputs p nothing_held (lists_of p (emptied_each texts left)))

-- the bytes under a plan's name, which are read after the job's
unfoldable pub plan_behind : WantedJob → List ℕ → Contents → List ℕ
plan_behind job plan left = bytes_left (emptied_each (job_files job) left) plan

-- those are the text of these nodes, as a plan of the program
abbrev pub HasPlan : WantedJob → List ℕ → Contents → Program → List Node → Type 0
HasPlan job plan left p nodes = IsPlanText p (plan_behind job plan left) nodes
