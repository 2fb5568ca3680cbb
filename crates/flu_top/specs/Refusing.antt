-- Why a command has nothing to write.
use Rattle.std.specs.Prelude.{ℕ, List, [], Option, ⊤}
use Rattle.flu_outside.specs.Outside.{Contents}
use Rattle.flu_lines.specs.declared.refusals.Refusal.{Refusal}
use Rattle.flu_lines.specs.declared.refusals.Refusal.TheVariants as refusals
use Rattle.flu_words.specs.Words.{Command}
use Rattle.flu_command.specs.Wants.{job_wanted}
use Rattle.flu_lines.specs.Jobs.{program_read}
use Rattle.flu_command.specs.ReadFaults.{HasReadFault}
use Rattle.flu_command.specs.Causes.{HasJobFault, HasConflict, HasPlanDefect, HasSaveDefect, HasSourceFault, HasTraceFault}

-- why a command has nothing to write, and wrote nothing
abbrev pub IsRefusal : Command → Option Contents → Option Contents → (List ℕ → ℕ) → (List ℕ → ℕ) → Refusal → Type 0
IsRefusal command old new before now (refusals.BadWords bad) = ⊥
IsRefusal command old new before now (refusals.JobFault fault text) = HasJobFault (job_wanted command) old new fault
IsRefusal command old new before now (refusals.Conflict fault) = HasConflict command old new fault
IsRefusal command old new before now (refusals.PlanDefect defect) = HasPlanDefect command old new defect
IsRefusal command old new before now (refusals.SourceFault job fault) = HasSourceFault command old new (program_read job) fault []
IsRefusal command old new before now refusals.ReadFault = HasReadFault command old new before now
IsRefusal command old new before now refusals.WriteFault = ⊥
IsRefusal command old new before now refusals.NoMemory = ⊤
IsRefusal command old new before now (refusals.SaveDefect defect) = HasSaveDefect command old new defect
IsRefusal command old new before now refusals.PutFault = ⊥
IsRefusal command old new before now (refusals.TraceFault fault) = HasTraceFault command old new fault
