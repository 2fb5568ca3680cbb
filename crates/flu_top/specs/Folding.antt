-- What the folding of a job gives, and what refuses it.
use Rattle.std.specs.Prelude.{◌≡◌, ◌<◌, ℕ, List, [], length, Contains, Option, Some, None, ⊤}
use Rattle.flu_outside.specs.Outside.{Contents, WhereTold}
use Rattle.flu_model.specs.declared.jobs.Program.{Program}
use Rattle.flu_model.specs.Contents.{nothing_held}
use Rattle.flu_model.specs.Folding.{final_outputs}
use Rattle.flu_model.specs.Reports as reports
use Rattle.flu_streams.specs.declared.faults.SourceFault.{SourceFault}
use Rattle.flu_streams.specs.Faults.{HidesNothing}
use Rattle.flu_streams.specs.Files.{files_of}
use Rattle.flu_streams.specs.Good.{first_fault, lists_of}
use Rattle.flu_lines.specs.declared.refusals.Refusal.{Refusal}
use Rattle.flu_lines.specs.declared.refusals.Refusal.TheVariants as refusals
use Rattle.flu_lines.specs.Jobs.{program_read}

-- the program's sources have no defect, and they were read to their end
pub record AreSourcesRead (p : Program) (old new : Contents) : Type 0 where
  pub good : first_fault p old ≡ None
  pub ends : (name : List ℕ) → Contains (files_of p.sources) name → new name ≡ Some []

-- and this is the report of the fold of their events
pub record IsReported (p : Program) (report : List ℕ) (old new : Contents) : Type 0 where
  pub read : AreSourcesRead p old new
  pub is : report ≡ reports.report p (final_outputs p nothing_held (lists_of p old))

-- this is the first fault of the program's sources
pub record IsFaulty (p : Program) (old new : Option Contents) (q : Program) (fault : SourceFault) : Type 0 where
  pub program : q ≡ p
  pub source : fault.source < length p.sources
  pub first : WhereTold old new (λ left _. first_fault p left ≡ Some fault)

-- why there is no report of a program
abbrev pub IsReportRefusal : Program → Option Contents → Option Contents → (List ℕ → ℕ) → (List ℕ → ℕ) → Refusal → Type 0
IsReportRefusal p old new before now (refusals.BadWords bad) = ⊥
IsReportRefusal p old new before now (refusals.JobFault fault text) = ⊥
IsReportRefusal p old new before now (refusals.Conflict fault) = ⊥
IsReportRefusal p old new before now (refusals.PlanDefect defect) = ⊥
IsReportRefusal p old new before now (refusals.SourceFault job fault) = IsFaulty p old new (program_read job) fault
IsReportRefusal p old new before now refusals.ReadFault = HidesNothing p old new before now
IsReportRefusal p old new before now refusals.WriteFault = ⊥
IsReportRefusal p old new before now refusals.NoMemory = ⊤
IsReportRefusal p old new before now (refusals.SaveDefect defect) = ⊥
IsReportRefusal p old new before now refusals.PutFault = ⊥
IsReportRefusal p old new before now (refusals.TraceFault fault) = ⊥
