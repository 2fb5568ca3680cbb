use Rattle.std.proofs.Common.{sym, subst}
use Rattle.std.proofs.lemmas.Result.{IfOk-weaker}
use Rattle.flu_model.specs.Listed.{listed}
use Rattle.flu_model.specs.Sorts.{IsStateOf}
use Rattle.flu_cells.specs.Holding.{held}
use Rattle.flu_top.proofs.backup.BackupEngine.batch.Goals as goal

pub returns-clause-sorts : goal.returns-clause-sorts
returns-clause-sorts g c =
    let p = c.args.self.now.program.now in
    let kept = c.updates_are_changes.ensures.fold p (held c.args.opening) (listed c.args.s.now) c.requires.sorts in
    IfOk-weaker c.fold.result _ _ (λ done e. subst (IsStateOf p.families) (sym e) kept) c.fold.ensures.state
