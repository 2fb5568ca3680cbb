use Rattle.std.proofs.Common.{sym, subst}
use Rattle.std.proofs.lemmas.Bool.{false≢true}
use Rattle.flu_model.specs.Modes.{IsAccepted}
use Rattle.flu_check.specs.Faults.{IsFirstCheckFault}
use Rattle.flu_top.proofs.checking.accepted.Goals as goal

pub returns-in-Err-clause-refused : goal.returns-in-Err-clause-refused
returns-in-Err-clause-refused c = (
  c.in-Err.ensures.back,
  record {
    refused = λ accepted. false≢true (c.in-Err.ensures.accepted.1 (subst IsAccepted c.in-Err.ensures.back accepted));
    first = subst (λ p. IsFirstCheckFault p c.in-Err.fault.a c.in-Err.fault.b c.in-Err.fault.cell) (sym c.in-Err.ensures.back) c.in-Err.ensures.fault;
  },
)
