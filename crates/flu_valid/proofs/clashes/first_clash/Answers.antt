use Rattle.std.proofs.Common.{◌<◌, length, ap, arith}
use Rattle.flu_lemmas.proofs.Numbers.{one_more}
use Rattle.flu_valid.specs.LoopSearch.{NoneOfNode}
use Rattle.flu_valid.proofs.ClashLemmas.{clash_is_first, owner_is_there}
use Rattle.flu_valid.proofs.clashes.first_clash.Goals as goal

pub returns-in-Some-clause-first : goal.returns-in-Some-clause-first
returns-in-Some-clause-first c =
    clash_is_first c.args.p.now c.args.plan.now.nodes c.loop-a.a c.in-Some.clash c.requires.counted c.loop-a.invariant c.in-Some.ensures.first

pub loop-a-preserved : goal.loop-a-preserved
loop-a-preserved c = one_more (NoneOfNode c.args.p.now c.args.plan.now.nodes) c.loop-a.a c.loop-a.invariant c.in-None.ensures.none

pub returns-clause-none : goal.returns-clause-none
returns-clause-none c = λ a b k l clash.
    let there : a < length c.args.plan.now.nodes = owner_is_there c.args.p.now c.args.plan.now.nodes a k clash.first in
    c.loop-a.invariant a (omega (arith, ap length c.items.ensures)) b k l clash
