-- What refuses the reading of a job.
use Rattle.std.specs.Prelude.{ℕ, List, Option, ⊤}
use Rattle.flu_outside.specs.Outside.{Contents, Rose, WhereTold}
use Rattle.flu_outside.specs.Taking.{TookAtMost}
use Rattle.flu_lines.specs.declared.refusals.Refusal.{Refusal}
use Rattle.flu_lines.specs.declared.refusals.Refusal.TheVariants as refusals
use Rattle.flu_command.specs.Behind.{Named}
use Rattle.flu_command.specs.Causes.{HasJobFault}

-- why a job was not read
abbrev pub IsJobRefusal : List ℕ → Option Contents → Option Contents → (List ℕ → ℕ) → (List ℕ → ℕ) → Refusal → Type 0
IsJobRefusal job old new before now (refusals.BadWords bad) = ⊥
IsJobRefusal job old new before now (refusals.JobFault fault text) = HasJobFault (Named job) old new fault
IsJobRefusal job old new before now (refusals.Conflict fault) = ⊥
IsJobRefusal job old new before now (refusals.PlanDefect defect) = ⊥
IsJobRefusal job old new before now (refusals.SourceFault other fault) = ⊥
IsJobRefusal job old new before now refusals.ReadFault = Rose (before job) (now job) × WhereTold old new (TookAtMost job 1048576)
IsJobRefusal job old new before now refusals.WriteFault = ⊥
IsJobRefusal job old new before now refusals.NoMemory = ⊤
IsJobRefusal job old new before now (refusals.SaveDefect defect) = ⊥
IsJobRefusal job old new before now refusals.PutFault = ⊥
IsJobRefusal job old new before now (refusals.TraceFault fault) = ⊥
