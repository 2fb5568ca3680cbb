use Rattle.std.proofs.Common.{◌+◌, ◌-◌, ◌/◌, subst, arith}
use Rattle.std.specs.Ordering.{nat_cmp}
use Rattle.std.specs.BTreeMap.Range.{IsRangeOf}
use Rattle.std.specs.declared.ops.Bound.TheVariants.{Included}
use Rattle.flu_dense.proofs.PartLemmas.{none_behind, none_before_part}
use Rattle.flu_dense.proofs.sparse.Sparse.next_part.Goals as goal

pub returns-in-Some-clause-least : goal.returns-in-Some-clause-least
returns-in-Some-clause-least g c k behind before =
    let range = c.range.ensures.in_range c.new.ensures.exhausted in
    none_before_part c.args.self.now.parts (c.args.at / 4096 + 1) ((c.args.end - 1) / 4096) c.range.result _ _
    (subst (λ a. IsRangeOf nat_cmp (Included a) (Included ((c.args.end - 1) / 4096)) c.args.self.now.parts c.range.result) c.new.ensures.start
    (subst (λ b. IsRangeOf nat_cmp (Included c.new.result.start) (Included b) c.args.self.now.parts c.range.result) c.new.ensures.end range))
    c.in-Some.ensures.steps k (omega (arith, behind)) (omega (arith, before))

pub returns-in-None-clause-none : goal.returns-in-None-clause-none
returns-in-None-clause-none g c k behind before =
    let range = c.range.ensures.in_range c.new.ensures.exhausted in
    none_behind c.args.self.now.parts (c.args.at / 4096 + 1) ((c.args.end - 1) / 4096) c.range.result
    (subst (λ a. IsRangeOf nat_cmp (Included a) (Included ((c.args.end - 1) / 4096)) c.args.self.now.parts c.range.result) c.new.ensures.start
    (subst (λ b. IsRangeOf nat_cmp (Included c.new.result.start) (Included b) c.args.self.now.parts c.range.result) c.new.ensures.end range))
    c.in-None.ensures.steps.0 k (omega (arith, behind)) (omega (arith, before))
