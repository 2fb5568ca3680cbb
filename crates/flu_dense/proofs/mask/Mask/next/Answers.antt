use Rattle.std.proofs.Common.{arith}
use Rattle.flu_dense.specs.Masks.{has}
use Rattle.flu_dense.proofs.BitLemmas.{none_from, first_from}
use Rattle.flu_dense.proofs.mask.Mask.next.Goals as goal

pub returns-then-rest-eq0-clause-none : goal.returns-then-rest-eq0-clause-none
unfolding has
returns-then-rest-eq0-clause-none c j le below = none_from c.args.self.bits c.args.from j c.requires c.if-rest-eq0.true le below

pub returns-else-rest-eq0-clause-found : goal.returns-else-rest-eq0-clause-found
unfolding has
returns-else-rest-eq0-clause-found c =
    let first = first_from c.args.self.bits c.args.from (omega arith) c.requires (omega arith) in
    (first.from, first.below, first.there)

pub returns-else-rest-eq0-clause-least : goal.returns-else-rest-eq0-clause-least
unfolding has
returns-else-rest-eq0-clause-least c = (first_from c.args.self.bits c.args.from (omega arith) c.requires (omega arith)).before
