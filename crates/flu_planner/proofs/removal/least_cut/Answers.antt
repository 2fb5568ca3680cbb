use Rattle.std.proofs.Common.{◌≡◌, length, drop, arith, ap, ◌∙◌, below_more, inl, inr}
use Rattle.std.proofs.lemmas.Bool.{cases_lt, iff_false}
use Rattle.std.proofs.lemmas.List.{take_rest}
use Rattle.flu_planner.specs.Graphs.{Graph, IsApart, rising}
use Rattle.flu_planner.specs.LoopTables.{graph_of}
use Rattle.flu_planner.proofs.Cutting.{rest_rising, never_past}
use Rattle.flu_planner.proofs.removal.least_cut.Goals as goal

pub is_apart-requires : goal.is_apart-requires
is_apart-requires c =
    let order = c.args.order.now in
    let count = c.loop-count.count in
    let others : c.in_ok-others.others.items ≡ rising (drop count order) = c.in_ok-others.ensures ∙ ap rising (take_rest order count) in
    rw (c.deref.ensures.value, others) (rest_rising order count c.requires)

pub loop-count-preserved : goal.loop-count-preserved
loop-count-preserved c =
    let order = c.args.order.now in
    let count = c.loop-count.count in
    let g : Graph = graph_of c.args.table.now in
    let others : c.in_ok-others.others.items ≡ rising (drop count order) = c.in_ok-others.ensures ∙ ap rising (take_rest order count) in
    let tells = rw (c.deref.ensures.value, others) at c.in_ok-is_apart.ensures in
    below_more (λ n. IsApart g (rising (drop n order)) → ⊥) count c.loop-count.invariant (iff_false tells c.if-branch.false)

pub returns-then-branch : goal.returns-then-branch
returns-then-branch c =
    let order = c.args.order.now in
    let count = c.loop-count.count in
    let others : c.in_ok-others.others.items ≡ rising (drop count order) = c.in_ok-others.ensures ∙ ap rising (take_rest order count) in
    let tells = rw (c.deref.ensures.value, others) at c.in_ok-is_apart.ensures in
    record { apart = tells.0 c.if-branch.true; least = c.loop-count.invariant }

pub returns : goal.returns
returns c = λ n a.
    elim (cases_lt n (length c.args.order.now)) [
      | inl lt ↦ c.loop-count.invariant n (omega arith) a
      | inr le ↦ never_past (graph_of c.args.table.now) c.args.order.now n le a
    ]
