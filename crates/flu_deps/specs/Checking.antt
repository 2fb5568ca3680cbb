-- The job of a `Checked`.
use Rattle.flu_model.specs.declared.jobs.Program.{Program}
use Rattle.flu_deps.specs.declared.checked.Checked.{Checked}

abbrev pub program_of : Checked → Program
program_of c = c.program
