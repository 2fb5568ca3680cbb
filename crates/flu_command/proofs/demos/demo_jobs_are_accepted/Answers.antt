use Rattle.flu_command.proofs.DemoAccepted.{demo_accepted}
use Rattle.flu_command.proofs.demos.demo_jobs_are_accepted.Goals as goal

pub returns : goal.returns
returns c = demo_accepted
