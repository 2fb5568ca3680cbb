use Rattle.flu_deps.specs.Checking.{program_of}
use Rattle.flu_valid.specs.Faults.{IsFirstPlanFault}
use Rattle.flu_valid.proofs.ClashLemmas.{fault_is_not_valid}
use Rattle.flu_valid.proofs.validate.Goals as goal

pub returns-in-Some-clause-valid : goal.returns-in-Some-clause-valid
returns-in-Some-clause-valid c =
    let p = program_of c.args.c.now in
    let fault : IsFirstPlanFault p c.args.plan.nodes c.in-Some.why = rw c.program.ensures at c.in-Some.ensures.first in
    (λ e. cc, λ valid. absurd (fault_is_not_valid p c.args.plan.nodes c.in-Some.why fault valid))
