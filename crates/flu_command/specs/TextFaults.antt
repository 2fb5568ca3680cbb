-- The first fault of a text, if it is not the text of a job or of a plan: the readers check it in an order.
use Rattle.std.specs.Prelude.{◌≡◌, ℕ, List, Err}
use Rattle.flu_model.specs.declared.jobs.Program.{Program}
use Rattle.flu_parse.specs.declared.faults.JobFault.{JobFault}
use Rattle.flu_parse.specs.Reading.{job_in}
use Rattle.flu_plan.specs.declared.fault.PlanFault.{PlanFault}
use Rattle.flu_plan.specs.Reading.{plan_in}

-- this is the first fault of some bytes as the text of a job
abbrev pub IsFirstJobFault : List ℕ → JobFault → Type 0
IsFirstJobFault bytes fault = job_in bytes ≡ Err fault

-- this is the first fault of some bytes as the text of a plan of a program
abbrev pub IsFirstTextFault : Program → List ℕ → PlanFault → Type 0
IsFirstTextFault p bytes fault = plan_in p bytes ≡ Err fault
