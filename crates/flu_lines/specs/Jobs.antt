-- A job that was read.
use Rattle.flu_model.specs.declared.jobs.Program.{Program}
use Rattle.flu_deps.specs.Checking.{program_of}
use Rattle.flu_lines.specs.declared.refusals.JobRead.{JobRead}
use Rattle.flu_lines.specs.declared.refusals.JobRead.TheVariants as read

-- the program of a job that was read
abbrev pub program_read : JobRead → Program
program_read (read.Unchecked p) = p
program_read (read.Accepted checked) = program_of checked
