use Rattle.std.proofs.Common.{◌≡◌, Some, inl, inr, sym, ap, subst, ◌∙◌, arith}
use Rattle.std.specs.Prelude.{slice_get}
use Rattle.std.proofs.lemmas.Bool.{cases_eq}
use Rattle.std.proofs.lemmas.Option.{slice_get_within, same_Some}
use Rattle.flu_worker.specs.Keeping.{HasRule}
use Rattle.flu_net.proofs.Readying.{at_index}
use Rattle.flu_net.proofs.workers.all_keep.Goals as goal

pub loop-w-preserved : goal.loop-w-preserved
loop-w-preserved c j v lt at = elim (cases_eq j c.loop-w.w) [
  | inl same ↦
      let here : slice_get c.args.workers.now c.loop-w.w ≡ Some c.index-workers-w.result =
      at_index c.args.workers.now c.loop-w.w c.index-workers-w.result c.loop-w-test.true c.index-workers-w.is in
      subst HasRule (same_Some c.index-workers-w.result v (sym here ∙ sym (ap (slice_get c.args.workers.now) same) ∙ at)) c.rule.ensures
  | inr other ↦ c.loop-w.invariant j v (omega arith) at
]

pub returns : goal.returns
returns c w v at =
    let within = slice_get_within c.args.workers.now w v at in
    let end = c.loop-w-test.false in
    c.loop-w.invariant w v (omega arith) at
