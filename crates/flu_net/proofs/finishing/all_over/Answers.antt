use Rattle.std.proofs.Common.{◌≡◌, inl, inr, sym, ap, subst, ◌∙◌, arith}
use Rattle.std.specs.Prelude.{slice_get}
use Rattle.std.proofs.lemmas.Bool.{cases_lt}
use Rattle.std.proofs.lemmas.Option.{slice_get_within, same_Some}
use Rattle.flu_lemmas.proofs.Tests.{not_both}
use Rattle.flu_net.specs.Ending.{IsOver}
use Rattle.flu_net.proofs.Readying.{at_index}
use Rattle.flu_net.proofs.finishing.all_over.Goals as goal

pub returns-then-not-finished-clause-left : goal.returns-then-not-finished-clause-left
returns-then-not-finished-clause-left c = λ _. record {
  at = c.loop-worker.worker-index;
  worker = c.worker-item.result;
  is = at_index c.args.workers.now c.loop-worker.worker-index c.worker-item.result c.loop-worker-test.true c.worker-item.is;
  rule = c.rule.ensures;
  left = λ all. not_both _ (c.finished.ensures.exact.1 all) c.if-not-finished.true;
}

pub loop-worker-preserved : goal.loop-worker-preserved
loop-worker-preserved c = λ w v lt up. elim (cases_lt w c.loop-worker.worker-index) as (λ _. IsOver v) [
  | inl before ↦ c.loop-worker.invariant w v before up
  | inr ge ↦
      let here : w ≡ c.loop-worker.worker-index = omega arith in
      let at = at_index c.args.workers.now c.loop-worker.worker-index c.worker-item.result c.loop-worker-test.true c.worker-item.is in
      subst IsOver (same_Some c.worker-item.result v (sym at ∙ ap (slice_get c.args.workers.now) (sym here) ∙ up))
      (record { all = c.finished.ensures.exact.0 c.if-not-finished.false; finished = c.finished.ensures.end c.if-not-finished.false })
]

pub returns-clause-over : goal.returns-clause-over
returns-clause-over c = λ _ w v up.
    (let within = slice_get_within c.args.workers.now w v up in
    let done = c.loop-worker-test.false in
    c.loop-worker.invariant w v (omega arith) up)
