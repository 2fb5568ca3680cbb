-- WHAT A SEED AND A TRACE DETERMINE: the texts of a job and a plan, the sources and a seed have one run on the net, and a trace ends in
-- one way, whichever program of the job's text is taken.
use Rattle.std.specs.Prelude.{◌≡◌, ℕ, List}
use Rattle.flu_outside.specs.Outside.{Contents}
use Rattle.flu_model.specs.declared.jobs.Program.{Program}
use Rattle.flu_trace.specs.Replaying.{Ending}
use Rattle.flu_words.specs.Words.{Command}
use Rattle.flu_command.specs.Behind.{Named, HasJob}
use Rattle.flu_command.specs.Replaying.{ReplaysTo}
use Rattle.flu_command.specs.Simulating.{IsLineOfRun, IsTraceOfRun}
use Rattle.flu_command.specs.Wants.{job_wanted}

-- `simulate JOB PLAN SEED` says one line of steps
abbrev pub OneLineOfARun : Type 0
OneLineOfARun =
    (job plan : List ℕ) (seed : ℕ) (left : Contents) (p q : Program) (line other : List ℕ) → HasJob (Named job) left p → HasJob (Named job) left q
    → IsLineOfRun job plan seed left p line → IsLineOfRun job plan seed left q other → other ≡ line

-- and with `--trace` it writes one trace
abbrev pub OneTraceOfARun : Type 0
OneTraceOfARun =
    (job plan : List ℕ) (seed : ℕ) (left : Contents) (p q : Program) (text other : List ℕ) → HasJob (Named job) left p → HasJob (Named job) left q
    → IsTraceOfRun job plan seed left p text → IsTraceOfRun job plan seed left q other → other ≡ text

-- the trace that `replay` reads ends in one way
abbrev pub OneEndingOfATrace : Type 0
OneEndingOfATrace =
    (command : Command) (left : Contents) (p q : Program) (trace : List ℕ) (a b : Ending) → HasJob (job_wanted command) left p → HasJob (job_wanted command) left q
    → ReplaysTo command trace left p a → ReplaysTo command trace left q b → b ≡ a
