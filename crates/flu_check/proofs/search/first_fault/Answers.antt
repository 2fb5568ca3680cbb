use Rattle.std.proofs.Common.{arith}
use Rattle.flu_check.specs.LoopFound.{tag_at, PassesTag}
use Rattle.flu_lemmas.proofs.Numbers.{one_more}
use Rattle.flu_check.proofs.FaultLemmas.{passed_is_first, passed_none}
use Rattle.flu_check.proofs.search.first_fault.Goals as goal

pub loop-i-preserved : goal.loop-i-preserved
loop-i-preserved c =
    let p = c.args.p.now in
    let found = c.first_of_tag-found.result in (
      c.first_of_tag-found.ensures.found,
      one_more (λ k. PassesTag p (tag_at p k) found) c.loop-i.i
          (λ k lt j below d fault. c.first_of_tag-found.ensures.kept _ (c.loop-i.invariant.1 k lt j below d fault))
          c.first_of_tag-found.ensures.passed,
    )

pub returns-clause-first : goal.returns-clause-first
returns-clause-first c = passed_is_first c.args.p.now c.loop-i.found c.loop-i.invariant.0 (λ i lt. c.loop-i.invariant.1 i (omega arith))

pub returns-clause-none : goal.returns-clause-none
returns-clause-none c =
    passed_none c.args.p.now c.loop-i.found c.dependency_turns.ensures c.conflict_is_mutual.ensures (λ i lt. c.loop-i.invariant.1 i (omega arith))
