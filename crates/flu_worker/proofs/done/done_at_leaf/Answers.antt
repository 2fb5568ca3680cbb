use Rattle.std.proofs.Common.{refl, sym, subst}
use Rattle.flu_worker.specs.declared.holding.Holding.{Holding}
use Rattle.flu_worker.specs.Moving.{IsWholeOf}
use Rattle.flu_worker.proofs.Doing.{done_here}
use Rattle.flu_worker.proofs.done.done_at_leaf.Goals as goal

pub done-told-requires-clause-exact : goal.done-told-requires-clause-exact
done-told-requires-clause-exact c =
    let lot = c.in-Whole.lot in c.requires.exact lot (subst (λ (h : Holding). IsWholeOf h lot) (sym c.in-Whole.is) refl)

pub done-told-requires-clause-fits : goal.done-told-requires-clause-fits
done-told-requires-clause-fits c =
    let lot = c.in-Whole.lot in c.requires.fits lot (subst (λ (h : Holding). IsWholeOf h lot) (sym c.in-Whole.is) refl)

pub returns-else-is_err-clause-done : goal.returns-else-is_err-clause-done
returns-else-is_err-clause-done c =
    done_here c.args.case.now c.args.node c.args.x c.args.holding.now c.in-Whole.lot c.done-told.new.lot c.done-told.result c.in-Whole.is c.requires.leaf
    c.done-told.ensures.fits c.done-told.ensures.since c.done-told.ensures.upto
