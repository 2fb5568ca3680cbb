use Rattle.std.proofs.Common.{rules, ◌≡◌, ap, sym, subst, ◌∙◌}
use Rattle.flu_model.specs.declared.jobs.Program.{Program}
use Rattle.flu_model.specs.Sorts.{IsStateOf}
use Rattle.flu_cells.specs.Holding.{held}
use Rattle.flu_deps.specs.Checking.{program_of as job_of}
use Rattle.flu_fork.specs.Lots.{job}
use Rattle.flu_live.proofs.engines.NetEngineEngine.batch.Goals as goal

pub returns-clause-sorts : goal.returns-clause-sorts
returns-clause-sorts g c =
    let same : job c.in_ok-case.case ≡ job_of c.args.self.now.checked.now = search rules in
    subst (λ (p : Program). IsStateOf p.families (held c.in_ok-state.field-0.state)) same c.in_ok-state.ensures.sorts
