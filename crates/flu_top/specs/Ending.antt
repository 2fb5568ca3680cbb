-- How a command ends.
use Rattle.std.specs.Prelude.{◌≡◌, ℕ, List, Option, Some, Result, Ok, Err, ◌⊎◌}
use Rattle.flu_outside.specs.Outside.{Contents, Rose}
use Rattle.flu_streams.specs.declared.faults.SourceFault.{SourceFault}
use Rattle.flu_lines.specs.declared.refusals.JobRead.{JobRead}
use Rattle.flu_lines.specs.declared.refusals.Refusal.{Refusal}
use Rattle.flu_lines.specs.declared.refusals.Refusal.TheVariants as refusals
use Rattle.flu_words.specs.Words.{Command, command_in}
use Rattle.flu_lines.specs.declared.products.Said.{Said}
use Rattle.flu_command.specs.Wants.{want, job_wanted, how_read, save_named}
use Rattle.flu_lines.specs.Products.{line_said}
use Rattle.flu_top.specs.Products.{MaySay}
use Rattle.flu_command.specs.Causes.{HasJobFault, HasConflict, HasPlanDefect, HasSaveDefect, HasSourceFault, HasTraceFault}
use Rattle.flu_command.specs.Done.{IsDone, WhereKnown, Wrote, WroteSome, WroteForMemory, WroteForPut, WrotePart}
use Rattle.flu_lines.specs.Jobs.{program_read}
use Rattle.flu_command.specs.ReadFaults.{HasReadFault}

-- what a call finds, and what it leaves: the files with their counts of takes and of puts, and out with its count
pub record Call : Type 0 where
  pub left : Option Contents
  pub left_after : Option Contents
  pub counts : List ℕ → ℕ
  pub counts_after : List ℕ → ℕ
  pub puts : List ℕ → ℕ
  pub puts_after : List ℕ → ℕ
  pub taken : Option (List ℕ)
  pub taken_after : Option (List ℕ)
  pub count : ℕ
  pub count_after : ℕ

abbrev pub call : Option Contents → Option Contents → (List ℕ → ℕ) → (List ℕ → ℕ) → (List ℕ → ℕ) → (List ℕ → ℕ) → Option (List ℕ) → Option (List ℕ) → ℕ → ℕ
    → Call
call left left_after counts counts_after puts puts_after taken taken_after count count_after =
    record {
      left = left;
      left_after = left_after;
      counts = counts;
      counts_after = counts_after;
      puts = puts;
      puts_after = puts_after;
      taken =
          taken;
      taken_after = taken_after;
      count = count;
      count_after = count_after;
    }

-- nothing was written to out
abbrev pub WroteNothing : Call → Type 0
WroteNothing c = c.taken_after ≡ c.taken

-- a defect of a source refused it, once this was written
pub record HasDefectMet (c : Call) (command : Command) (job : JobRead) (fault : SourceFault) : Type 0 where
  pub text : List ℕ
  pub why : HasSourceFault command c.left c.left_after (program_read job) fault text
  pub wrote : Wrote (how_read command) text c.taken c.taken_after

-- a file failed
pub record HasReadFailure (c : Call) (command : Command) : Type 0 where
  pub why : HasReadFault command c.left c.left_after c.counts c.counts_after
  pub wrote : WroteSome (how_read command) command c.left c.left_after c.taken c.taken_after

-- there was something to write, and out failed
pub record HasWriteFault (c : Call) (command : Command) : Type 0 where
  pub rose : Rose c.count c.count_after
  pub partly : WrotePart (how_read command) command c.left c.left_after c.taken c.taken_after

-- a checkpoint could not be put
pub record HasPutFault (c : Call) (command : Command) : Type 0 where
  pub name : List ℕ
  pub named : save_named command ≡ Some name
  pub rose : Rose (c.puts name) (c.puts_after name)
  pub wrote : WroteForPut command c.left c.left_after c.taken c.taken_after

-- all was written, and this is to be said
pub record HasAll (c : Call) (command : Command) (said : Option Said) : Type 0 where
  pub done : WhereKnown (job_wanted command) c.left c.left_after (IsDone command c.taken c.taken_after (line_said said))
  pub may_say : MaySay (want command).says said

-- what is true of a call of a command that was refused
abbrev pub IsStopped : Call → Command → Refusal → Type 0
IsStopped c command (refusals.BadWords bad) = ⊥
IsStopped c command (refusals.JobFault fault text) = HasJobFault (job_wanted command) c.left c.left_after fault × WroteNothing c
IsStopped c command (refusals.Conflict fault) = HasConflict command c.left c.left_after fault × WroteNothing c
IsStopped c command (refusals.PlanDefect defect) = HasPlanDefect command c.left c.left_after defect × WroteNothing c
IsStopped c command (refusals.SourceFault job fault) = HasDefectMet c command job fault
IsStopped c command refusals.ReadFault = HasReadFailure c command
IsStopped c command refusals.WriteFault = HasWriteFault c command
IsStopped c command refusals.NoMemory = WroteForMemory (how_read command) command c.left c.left_after c.taken c.taken_after
IsStopped c command (refusals.SaveDefect defect) = HasSaveDefect command c.left c.left_after defect × WroteNothing c
IsStopped c command refusals.PutFault = HasPutFault c command
IsStopped c command (refusals.TraceFault fault) = HasTraceFault command c.left c.left_after fault × WroteNothing c

-- what is true of a call of a command that was done or refused
abbrev pub IsEnding : Call → Command → Result (Option Said) Refusal → Type 0
IsEnding c command (Ok said) = HasAll c command said
IsEnding c command (Err refusal) = IsStopped c command refusal

-- a call was refused for its words, before anything was done
pub record IsRefused (c : Call) (at : ℕ) (ended : Result (Option Said) Refusal) : Type 0 where
  pub words : ended ≡ Err (refusals.BadWords (record { at = at }))
  pub files : c.left_after ≡ c.left
  pub nothing : WroteNothing c

-- how a call with some words ended: they are a command, or they are not one
pub record Ends (words : List (List ℕ)) (c : Call) (ended : Result (Option Said) Refusal) : Type 0 where
  pub how : ((command : Command) × (command_in words ≡ Ok command) × IsEnding c command ended) ⊎ ((at : ℕ) × (command_in words ≡ Err at) × IsRefused c at ended)
