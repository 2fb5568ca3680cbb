use Rattle.std.proofs.Common.{◌≡◌, ◌≤◌, ℕ, List, [], drop, arith, ap, ◌∙◌}
use Rattle.std.specs.Prelude.{IsTrue}
use Rattle.std.proofs.lemmas.List.{take_rest}
use Rattle.flu_lemmas.specs.Totals.{total}
use Rattle.flu_planner.specs.Graphs.{Graph, AreComponents, is_rising, rising}
use Rattle.flu_planner.specs.Cuts.{is_removed_first, removal_order, removed, remaining}
use Rattle.flu_planner.specs.Groups.{grouped}
use Rattle.flu_lemmas.specs.Counting.{times}
use Rattle.flu_planner.specs.LoopSearch.{IsFirstApart}
use Rattle.flu_planner.specs.LoopTables.{graph_of}
use Rattle.flu_lemmas.proofs.Counting.{times_in_order}
use Rattle.flu_planner.proofs.Rising.{rising_once}
use Rattle.flu_planner.proofs.Cutting.{rest_rising, parted}
use Rattle.flu_planner.proofs.groups.part.Goals as goal

order_once : (rates itags : List ℕ) → IsTrue (is_rising itags) → (k : ℕ) → times k (removal_order rates itags) ≤ 1
order_once rates itags up k = let same = times_in_order k (is_removed_first rates) itags in let once = rising_once itags up k in omega arith

pub least_cut-requires : goal.least_cut-requires
least_cut-requires c = rw (c.deref.ensures.value, c.in_ok-order.ensures) (order_once c.args.rates.now c.args.itags.now c.requires)

pub components-requires : goal.components-requires
components-requires c =
    let rates = c.args.rates.now in
    let itags = c.args.itags.now in
    let count = c.in-Some.count in
    let order : c.deref-3.result.now ≡ removal_order rates itags = c.deref-3.ensures.value ∙ c.in_ok-order.ensures in
    let others : c.in_ok-others.others.items ≡ rising (drop count c.deref-3.result.now) = c.in_ok-others.ensures
    ∙ ap rising (take_rest c.deref-3.result.now count) in
    rw (c.deref-4.ensures.value, others, order) (rest_rising (removal_order rates itags) count (order_once rates itags c.requires))

pub returns : goal.returns
returns c =
    let g : Graph = graph_of c.args.table.now in
    let rates = c.args.rates.now in
    let itags = c.args.itags.now in
    let count = c.in-Some.count in
    let components = c.in_ok-components.components.items in
    let order : c.deref-3.result.now ≡ removal_order rates itags = c.deref-3.ensures.value ∙ c.in_ok-order.ensures in
    let cut : IsFirstApart g (removal_order rates itags) count = rw (c.in-Some.is, c.deref.ensures.value, c.in_ok-order.ensures) at c.in_ok-count.ensures in
    let own : c.in_ok-own.own.items ≡ removed rates itags count = rw (c.deref-2.ensures.value, c.in_ok-order.ensures) at c.in_ok-own.ensures in
    let others : c.in_ok-others.others.items ≡ remaining rates itags count = c.in_ok-others.ensures ∙ ap rising (take_rest c.deref-3.result.now count)
    ∙ ap (λ xs. rising (drop count xs)) order in
    let are : AreComponents g rates (remaining rates itags count) components = rw (c.deref-4.ensures.value, others) at c.in_ok-components.ensures.are in
    let once : (k : ℕ) → total (times k) components ≡ times k (remaining rates itags count) =
    rw (c.deref-4.ensures.value, others) at c.in_ok-components.ensures.once in
    let left : c.in_ok-left.left.items ≡ rising (grouped rates [] [] components).0 =
    rw (c.deref-6.ensures.value, c.in_ok-groups.ensures.left, c.deref-5.ensures.value) at c.in_ok-left.ensures in
    let right : c.in_ok-right.right.items ≡ rising (grouped rates [] [] components).1 =
    rw (c.deref-7.ensures.value, c.in_ok-groups.ensures.right, c.deref-5.ensures.value) at c.in_ok-right.ensures in
    rw (own, left, right) (parted g rates itags count components (rising_once itags c.requires) cut are once)
