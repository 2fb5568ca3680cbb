-- The statuses and their numbers.
use Rattle.std.specs.Prelude.{ℕ}
use Rattle.flu_lines.specs.declared.statuses.Status.{Status}
use Rattle.flu_lines.specs.declared.statuses.Status.TheVariants as statuses

-- the number of a status, with which the program exits
abbrev pub code : Status → ℕ
code statuses.Done = 0
code statuses.BadWords = 2
code statuses.JobFault = 3
code statuses.Conflict = 4
code statuses.PlanDefect = 5
code statuses.SourceFault = 6
code statuses.ReadFault = 7
code statuses.WriteFault = 8
code statuses.NoMemory = 9
code statuses.SaveDefect = 11
code statuses.PutFault = 12
code statuses.TraceFault = 13
code statuses.PartialDefect = 14
