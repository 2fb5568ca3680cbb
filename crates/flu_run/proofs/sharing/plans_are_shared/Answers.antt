use Rattle.flu_run.proofs.sharing.plans_are_shared.Goals as goal

pub returns : goal.returns
returns c = record { shared = c.shared.ensures.shared }
