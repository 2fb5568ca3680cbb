use Rattle.std.proofs.Common.{subst}
use Rattle.flu_worker.specs.declared.holding.Holding.{Holding}
use Rattle.flu_worker.specs.Moving.{IsWholeOf}
use Rattle.flu_worker.proofs.done.done_in.Goals as goal

pub returns-clause-done : goal.returns-clause-done
returns-clause-done c =
    let lot = c.whole_of-lot.result in
    record {
      lot = lot;
      was = subst (λ (h : Holding). IsWholeOf h lot) c.taken.ensures.was c.whole_of-lot.ensures;
      more = c.done.new.lot;
      fits = c.in_ok-done.ensures.fits;
      since = c.in_ok-done.ensures.since;
      upto = c.in_ok-done.ensures.upto;
      held = c.in_ok-holding.ensures;
    }
