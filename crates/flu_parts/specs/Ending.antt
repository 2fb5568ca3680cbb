-- How a part command ends: what is true of what a call of it finds and leaves.
use Rattle.std.specs.Prelude.{◌≡◌, ℕ, ◌<◌, List, [], Option, Result, Ok, Err, length, slice_index_or, Contains, ◌⊎◌}
use Rattle.flu_outside.specs.Outside.{Contents, WhereTold, Rose}
use Rattle.flu_outside.specs.Writing.{AppendsAll, AppendsPart}
use Rattle.flu_model.specs.declared.jobs.Program.{Program}
use Rattle.flu_model.specs.declared.plans.Node.{Node}
use Rattle.flu_deps.specs.declared.checked.Checked.{Checked}
use Rattle.flu_deps.specs.declared.valid.Valid.{Valid}
use Rattle.flu_deps.specs.Checking.{program_of}
use Rattle.flu_deps.specs.Validated.{plan_of}
use Rattle.flu_selected.specs.Gathering.{IsRead}
use Rattle.flu_readers.specs.Reading.{reads}
use Rattle.flu_combine.specs.Combined.{IsReadBeside}
use Rattle.flu_lines.specs.Jobs.{program_read}
use Rattle.flu_lines.specs.declared.refusals.JobRead.TheVariants as read
use Rattle.flu_lines.specs.declared.refusals.Refusal.{Refusal}
use Rattle.flu_lines.specs.declared.refusals.Refusal.TheVariants as refusals
use Rattle.flu_lines.specs.declared.parts.NodeDefect.{NodeDefect}
use Rattle.flu_lines.specs.declared.parts.FileDefect.{FileDefect}
use Rattle.flu_lines.specs.declared.parts.PartRefusal.{PartRefusal}
use Rattle.flu_lines.specs.declared.parts.PartRefusal.TheVariants as parts
use Rattle.flu_words.specs.Parts.{PartCommand, Partial, Combine, part_in}
use Rattle.flu_command.specs.Wants.{job_wanted}
use Rattle.flu_command.specs.Causes.{HasJobFault, HasConflict, HasPlanDefect}
use Rattle.flu_top.specs.Ending.{Call, WroteNothing}
use Rattle.flu_parts.specs.declared.stops.Stop.{Stop}
use Rattle.flu_parts.specs.declared.stops.Stop.TheVariants as stops
use Rattle.flu_parts.specs.Planned.{texts_of, IsNodeApart}
use Rattle.flu_parts.specs.Written.{AreNoSources, IsTextOf, IsWritten}
use Rattle.flu_parts.specs.Causes.{IsNodeDefect, IsFileDefect, IsSourceDefect, IsReadFaultBehind, HasNodeDefect, HasFileDefect, HasSourceDefect, HasFailedRead}

-- ---- behind the job and the plan
-- the node that the command names has this defect, and this is its name
abbrev pub IsNodeStop : PartCommand → Program → List Node → List ℕ → NodeDefect → Type 0
IsNodeStop (Partial job plan node) p nodes name why = (name ≡ node) × IsNodeDefect p nodes node why
IsNodeStop (Combine job plan partials) p nodes name why = ⊥

-- a file that it names has this defect: it stands at a place, and this is its name
abbrev pub IsFileStop : PartCommand → Program → List Node → List ℕ → FileDefect → Option Contents → Option Contents → Type 0
IsFileStop (Partial job plan node) p nodes name why left now = ⊥
IsFileStop (Combine job plan partials) p nodes name why left now =
    (place : ℕ) × (place < length partials) × (slice_index_or partials place [] ≡ name)
    × WhereTold left now (λ was is. IsFileDefect p nodes partials was place why)

-- why it stopped behind its job and its plan
abbrev pub IsStop : PartCommand → Program → List Node → Call → Stop → Type 0
IsStop command p nodes c (stops.Node name why) = IsNodeStop command p nodes name.now why × WroteNothing c
IsStop command p nodes c (stops.File name why) = IsFileStop command p nodes name.now why c.left c.left_after × WroteNothing c
IsStop command p nodes c (stops.Source fault) =
    (fault.source < length p.sources) × WhereTold c.left c.left_after (λ left now. IsSourceDefect command p nodes left fault) × WroteNothing c
IsStop command p nodes c stops.ReadFault = IsReadFaultBehind command p nodes c.left c.left_after c.counts c.counts_after × WroteNothing c
IsStop command p nodes c stops.WriteFault =
    (text : List ℕ) × WhereTold c.left c.left_after (IsTextOf command p nodes text) × WhereTold c.taken c.taken_after (AppendsPart text)
    × Rose c.count c.count_after
IsStop command p nodes c stops.NoMemory = WroteNothing c

-- how it ended behind them
abbrev pub IsEndBehind : PartCommand → Program → List Node → Call → Result (Unit {0}) Stop → Type 0
IsEndBehind command p nodes c (Ok done) =
    (text : List ℕ) × WhereTold c.left c.left_after (IsTextOf command p nodes text) × WhereTold c.taken c.taken_after (AppendsAll text)
IsEndBehind command p nodes c (Err stop) = IsStop command p nodes c stop

-- a name that it reads behind them, of what the names have left
abbrev pub IsReadBehind : PartCommand → Program → List Node → Contents → List ℕ → Type 0
IsReadBehind (Partial job plan node) p nodes left name = (w : ℕ) × IsNodeApart p nodes node w × IsRead p (reads p nodes w) name
IsReadBehind (Combine job plan partials) p nodes left name =
    AreNoSources partials p × (Contains partials name ⊎ IsReadBeside p nodes partials left name)

-- it reads no others
abbrev pub LeavesBehind : PartCommand → Program → List Node → Contents → Contents → Type 0
LeavesBehind command p nodes left now = (other : List ℕ) → ¬ IsReadBehind command p nodes left other → now other ≡ left other

-- the refusal of what stopped it there
abbrev pub refusal_of_stop : Checked → Valid → Stop → PartRefusal
refusal_of_stop checked valid (stops.Node name why) = parts.Node checked valid name why
refusal_of_stop checked valid (stops.File name why) = parts.File checked valid name why
refusal_of_stop checked valid (stops.Source fault) = parts.Command (refusals.SourceFault (read.Accepted checked) fault)
refusal_of_stop checked valid stops.ReadFault = parts.Command refusals.ReadFault
refusal_of_stop checked valid stops.WriteFault = parts.Command refusals.WriteFault
refusal_of_stop checked valid stops.NoMemory = parts.Command refusals.NoMemory

-- ---- the whole command
-- what is true of a call that was refused for a reason that other commands have too
abbrev pub IsStopped : Call → PartCommand → Refusal → Type 0
IsStopped c command (refusals.BadWords bad) = ⊥
IsStopped c command (refusals.JobFault fault text) = HasJobFault (job_wanted (texts_of command)) c.left c.left_after fault × WroteNothing c
IsStopped c command (refusals.Conflict fault) = HasConflict (texts_of command) c.left c.left_after fault × WroteNothing c
IsStopped c command (refusals.PlanDefect defect) = HasPlanDefect (texts_of command) c.left c.left_after defect × WroteNothing c
IsStopped c command (refusals.SourceFault job fault) = HasSourceDefect command c.left c.left_after (program_read job) fault × WroteNothing c
IsStopped c command refusals.ReadFault = HasFailedRead command c.left c.left_after c.counts c.counts_after × WroteNothing c
IsStopped c command refusals.WriteFault =
    (text : List ℕ) × WhereTold c.left c.left_after (IsWritten command text) × WhereTold c.taken c.taken_after (AppendsPart text) × Rose c.count c.count_after
IsStopped c command refusals.NoMemory = WroteNothing c
IsStopped c command (refusals.SaveDefect defect) = ⊥
IsStopped c command refusals.PutFault = ⊥
IsStopped c command (refusals.TraceFault fault) = ⊥

-- how the command ended
abbrev pub IsEnding : Call → PartCommand → Result (Unit {0}) PartRefusal → Type 0
IsEnding c command (Ok done) =
    (text : List ℕ) × WhereTold c.left c.left_after (IsWritten command text) × WhereTold c.taken c.taken_after (AppendsAll text)
IsEnding c command (Err (parts.Command refusal)) = IsStopped c command refusal
IsEnding c command (Err (parts.Node checked valid name why)) =
    HasNodeDefect command c.left c.left_after (program_of checked) (plan_of valid).nodes name.now why × WroteNothing c
IsEnding c command (Err (parts.File checked valid name why)) =
    HasFileDefect command c.left c.left_after (program_of checked) (plan_of valid).nodes name.now why × WroteNothing c

-- a call was refused for its words, before anything was done
pub record IsRefused (c : Call) (at : ℕ) (ended : Result (Unit {0}) PartRefusal) : Type 0 where
  pub words : ended ≡ Err (parts.Command (refusals.BadWords (record { at = at })))
  pub files : c.left_after ≡ c.left
  pub nothing : WroteNothing c

-- how a call with some words ended: they are a part command, or they are none
pub record Ends (words : List (List ℕ)) (c : Call) (ended : Result (Unit {0}) PartRefusal) : Type 0 where
  pub how : ((command : PartCommand) × (part_in words ≡ Ok command) × IsEnding c command ended)
      ⊎ ((at : ℕ) × (part_in words ≡ Err at) × IsRefused c at ended)
