-- The status and the line of each refusal.
use Rattle.std.specs.Prelude.{◌≡◌, ℕ, List, Option, Some, None, Result, Ok, Err, Vec}
use Rattle.std.specs.Global.{Global}
use Rattle.flu_parse.specs.declared.faults.JobFault.{JobFault}
use Rattle.flu_parse.specs.declared.faults.JobFault.TheVariants as faults
use Rattle.flu_plan.specs.declared.fault.PlanFault.{PlanFault}
use Rattle.flu_plan.specs.declared.fault.PlanFault.TheVariants as plans
use Rattle.flu_outside.specs.declared.files.TakeFault.{TakeFault}
use Rattle.flu_outside.specs.declared.files.TakeFault.TheVariants as takes
use Rattle.flu_outside.specs.declared.files.PutFault.{PutFault}
use Rattle.flu_outside.specs.declared.files.PutFault.TheVariants as puts
use Rattle.flu_save.specs.declared.fault.SaveFault.{SaveFault}
use Rattle.flu_save.specs.declared.fault.SaveFault.TheVariants as saves
use Rattle.flu_trace.specs.declared.faults.ReplayFault.{ReplayFault}
use Rattle.flu_trace.specs.declared.faults.ReplayFault.TheVariants as traces
use Rattle.flu_lines.specs.declared.products.Said.{Said}
use Rattle.flu_lines.specs.declared.refusals.PlanDefect.TheVariants as defects
use Rattle.flu_lines.specs.declared.refusals.SaveDefect.TheVariants as starts
use Rattle.flu_lines.specs.declared.refusals.Refusal.{Refusal}
use Rattle.flu_lines.specs.declared.refusals.Refusal.TheVariants as refusals
use Rattle.flu_lines.specs.declared.statuses.Status.{Status}
use Rattle.flu_lines.specs.declared.statuses.Status.TheVariants as statuses
use Rattle.flu_lines.specs.Statuses.{code}
use Rattle.flu_lines.specs.Jobs.{program_read}
use Rattle.flu_lines.specs.Names.{source_name}
use Rattle.flu_lines.specs.Products.{line_of_said}
use Rattle.flu_lines.specs.Lines.{bad_words_line, job_fault_line, conflict_line, plan_defect_line, source_fault_line, read_fault_line, write_fault_line}
use Rattle.flu_lines.specs.Lines.{no_memory_line, save_defect_line, put_fault_line, trace_fault_line, IsSaid}

abbrev pub status_of : Refusal → Status
status_of (refusals.BadWords bad) = statuses.BadWords
status_of (refusals.JobFault fault text) = statuses.JobFault
status_of (refusals.Conflict fault) = statuses.Conflict
status_of (refusals.PlanDefect defect) = statuses.PlanDefect
status_of (refusals.SourceFault job fault) = statuses.SourceFault
status_of refusals.ReadFault = statuses.ReadFault
status_of refusals.WriteFault = statuses.WriteFault
status_of refusals.NoMemory = statuses.NoMemory
status_of (refusals.SaveDefect defect) = statuses.SaveDefect
status_of refusals.PutFault = statuses.PutFault
status_of (refusals.TraceFault fault) = statuses.TraceFault

abbrev pub line_of : Refusal → List ℕ
line_of (refusals.BadWords bad) = bad_words_line bad.at
line_of (refusals.JobFault fault text) = job_fault_line fault
line_of (refusals.Conflict fault) = conflict_line fault
line_of (refusals.PlanDefect defect) = plan_defect_line defect
line_of (refusals.SourceFault job fault) = source_fault_line (source_name (program_read job) fault.source) fault.row fault.why
line_of refusals.ReadFault = read_fault_line
line_of refusals.WriteFault = write_fault_line
line_of refusals.NoMemory = no_memory_line
line_of (refusals.SaveDefect defect) = save_defect_line defect
line_of refusals.PutFault = put_fault_line
line_of (refusals.TraceFault fault) = trace_fault_line fault

-- the status of a call that was done or refused, and its number
abbrev pub status_after : Result (Option Said) Refusal → Status
status_after (Ok said) = statuses.Done
status_after (Err refusal) = status_of refusal

abbrev pub code_after : Result (Option Said) Refusal → ℕ
code_after ended = code (status_after ended)

-- what err got from a call that was done or refused: nothing, the line of what it says, or the line of the refusal
abbrev pub IsHeard : Result (Option Said) Refusal → Option (List ℕ) → Option (List ℕ) → ℕ → ℕ → Type 0
IsHeard (Ok None) old new before now = new ≡ old
IsHeard (Ok (Some said)) old new before now = IsSaid (line_of_said said) old new before now
IsHeard (Err refusal) old new before now = IsSaid (line_of refusal) old new before now

-- the refusal for a fault in a job text, beside which stand the bytes that have it
abbrev pub refusal_of_job : JobFault → Vec ℕ Global → Refusal
refusal_of_job (faults.BadUtf8 at) text = refusals.JobFault (faults.BadUtf8 at) text
refusal_of_job (faults.BadToken at) text = refusals.JobFault (faults.BadToken at) text
refusal_of_job (faults.Unexpected at) text = refusals.JobFault (faults.Unexpected at) text
refusal_of_job (faults.UnknownName at) text = refusals.JobFault (faults.UnknownName at) text
refusal_of_job (faults.TwiceNamed at) text = refusals.JobFault (faults.TwiceNamed at) text
refusal_of_job (faults.WrongShape at) text = refusals.JobFault (faults.WrongShape at) text
refusal_of_job (faults.OverLimit what count) text = refusals.JobFault (faults.OverLimit what count) text
refusal_of_job faults.NoMemory text = refusals.NoMemory

-- the refusal for a fault in a plan text, beside which stand the bytes that have it
abbrev pub refusal_of_plan : PlanFault → Vec ℕ Global → Refusal
refusal_of_plan (plans.BadToken at) text = refusals.PlanDefect (defects.Text (plans.BadToken at) text)
refusal_of_plan (plans.Unexpected at) text = refusals.PlanDefect (defects.Text (plans.Unexpected at) text)
refusal_of_plan (plans.UnknownName at) text = refusals.PlanDefect (defects.Text (plans.UnknownName at) text)
refusal_of_plan (plans.NotATree name) text = refusals.PlanDefect (defects.Text (plans.NotATree name) text)
refusal_of_plan (plans.OverLimit what count) text = refusals.PlanDefect (defects.Text (plans.OverLimit what count) text)
refusal_of_plan plans.NoMemory text = refusals.NoMemory

-- the refusal if a name could not be read
abbrev pub refusal_of_take : TakeFault → Refusal
refusal_of_take takes.Failed = refusals.ReadFault
refusal_of_take takes.NoMemory = refusals.NoMemory

-- the refusal if a checkpoint could not be put
abbrev pub refusal_of_put : PutFault → Refusal
refusal_of_put puts.Failed = refusals.PutFault
refusal_of_put puts.NoMemory = refusals.NoMemory

-- the refusal for a fault in a checkpoint
abbrev pub refusal_of_save : SaveFault → Refusal
refusal_of_save (saves.OverLimit count) = refusals.SaveDefect (starts.Checkpoint (saves.OverLimit count))
refusal_of_save saves.NotJson = refusals.SaveDefect (starts.Checkpoint saves.NotJson)
refusal_of_save saves.WrongForm = refusals.SaveDefect (starts.Checkpoint saves.WrongForm)
refusal_of_save saves.OtherJob = refusals.SaveDefect (starts.Checkpoint saves.OtherJob)
refusal_of_save saves.NoMemory = refusals.NoMemory

-- the refusal for what stops a replay
abbrev pub refusal_of_replay : ReplayFault → Refusal
refusal_of_replay (traces.Bad line) = refusals.TraceFault (traces.Bad line)
refusal_of_replay (traces.NotEnabled line) = refusals.TraceFault (traces.NotEnabled line)
refusal_of_replay (traces.Incomplete line) = refusals.TraceFault (traces.Incomplete line)
refusal_of_replay traces.ReadFault = refusals.ReadFault
refusal_of_replay traces.NoMemory = refusals.NoMemory
