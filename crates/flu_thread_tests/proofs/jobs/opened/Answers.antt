use Rattle.std.proofs.Common.{sym, subst}
use Rattle.flu_model.specs.Sorts.{IsStateOf}
use Rattle.flu_model.specs.Contents.{Contents}
use Rattle.flu_deps.specs.Checking.{program_of}
use Rattle.flu_thread_tests.proofs.jobs.opened.Goals as goal

pub new-requires-2-clause-sorts : goal.new-requires-2-clause-sorts
new-requires-2-clause-sorts g c =
    let families = (program_of c.args.checked.now).families in
    subst (λ (s : Contents). IsStateOf families s) (sym c.new.ensures) (λ d. tt)
