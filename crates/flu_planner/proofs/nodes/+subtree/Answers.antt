use Rattle.std.proofs.Common.{◌≡◌, ◌<◌, ◌+◌, ◌-◌, ◌^◌, suc, Some, [], ◌∷◌, ◌++◌, length, inl, inr, ap, subst, ◌∙◌, arith}
use Rattle.std.proofs.lemmas.Result.{IfOk-weaker}
use Rattle.std.proofs.lemmas.Grind.{common_steps}
use Rattle.std.proofs.lemmas.Nat.{pow_pos}
use Rattle.flu_planner.specs.Graphs.{Graph}
use Rattle.flu_planner.specs.Cuts.{IsWhole}
use Rattle.flu_planner.specs.Plans.{node_of}
use Rattle.flu_planner.specs.LoopSearch.{IsPartingOnce, IsSubtree}
use Rattle.flu_planner.specs.LoopTables.{graph_of}
use Rattle.flu_planner.proofs.Planting.{doubled, leaf_is, inner_is}
use Rattle.flu_planner.proofs.Agreement.{own_of, left_of, right_of}
use Rattle.flu_planner.proofs.nodes.+subtree.Goals as goal

pub returns-then-depth-eq0 : goal.returns-then-depth-eq0
returns-then-depth-eq0 t c =
    let p = c.args.p.now in
    let g : Graph = graph_of c.args.table.now in
    let rates = c.args.rates.now in
    let depth = c.args.depth in
    let number = c.args.number in
    let itags = c.args.itags.now in
    IfOk-weaker c.leaf.result _ _ (λ nodes e. leaf_is p g rates depth number itags nodes.items (inl c.if-depth-eq0.true) e) c.leaf.ensures

pub returns-in_default : goal.returns-in_default
returns-in_default t c =
    let p = c.args.p.now in
    let g : Graph = graph_of c.args.table.now in
    let rates = c.args.rates.now in
    let depth = c.args.depth in
    let number = c.args.number in
    let itags = c.args.itags.now in
    let whole : IsWhole g rates itags = rw c.in_default.is at c.in_ok-parting.ensures in
    IfOk-weaker c.leaf-in_default.result _ _ (λ nodes e. leaf_is p g rates depth number itags nodes.items (inr (inr whole)) e) c.leaf-in_default.ensures

pub subtree-requires : goal.subtree-requires
subtree-requires t c =
    let g : Graph = graph_of c.args.table.now in
    let rates = c.args.rates.now in
    let itags = c.args.itags.now in
    let own = c.in-Some.parting.own.items in
    let left = c.in-Some.parting.left.items in
    let right = c.in-Some.parting.right.items in
    let parting : IsPartingOnce g rates itags own left right = rw c.in-Some.is at c.in_ok-parting.ensures in
    let next : c.args.depth ≡ c.args.depth - 1 + 1 = omega arith in
    let double : 2 ^ (c.args.depth + 1) ≡ 2 ^ c.args.depth + 2 ^ c.args.depth = doubled c.args.depth in
    let same : 2 ^ c.args.depth ≡ 2 ^ (c.args.depth - 1 + 1) = ap (λ n. 2 ^ n) next in
    let some : 0 < 2 ^ c.args.depth = pow_pos c.args.depth in
    let room = c.requires.room in (
      omega arith,
      (
        rw c.deref.ensures.value parting.left_in_order,
        (rw c.deref.ensures.value (λ i there. c.requires.declared i (left_of g rates itags own left right parting.parting i there)), omega arith),
      ),
    )

pub subtree-requires-2 : goal.subtree-requires-2
subtree-requires-2 t c =
    let g : Graph = graph_of c.args.table.now in
    let rates = c.args.rates.now in
    let itags = c.args.itags.now in
    let own = c.in-Some.parting.own.items in
    let left = c.in-Some.parting.left.items in
    let right = c.in-Some.parting.right.items in
    let parting : IsPartingOnce g rates itags own left right = rw c.in-Some.is at c.in_ok-parting.ensures in
    let next : c.args.depth ≡ c.args.depth - 1 + 1 = omega arith in
    let double : 2 ^ (c.args.depth + 1) ≡ 2 ^ c.args.depth + 2 ^ c.args.depth = doubled c.args.depth in
    let same : 2 ^ c.args.depth ≡ 2 ^ (c.args.depth - 1 + 1) = ap (λ n. 2 ^ n) next in
    let some : 0 < 2 ^ c.args.depth = pow_pos c.args.depth in
    let room = c.requires.room in
    let few = c.in_ok-lefts.ensures.few in
    let size = c.in_ok-lefts.lefts.ok.0 in (
      omega arith,
      (
        rw c.deref-2.ensures.value parting.right_in_order,
        (rw c.deref-2.ensures.value (λ i there. c.requires.declared i (right_of g rates itags own left right parting.parting i there)), omega arith),
      ),
    )

pub node_of-requires : goal.node_of-requires
node_of-requires t c =
    let g : Graph = graph_of c.args.table.now in
    let rates = c.args.rates.now in
    let itags = c.args.itags.now in
    let own = c.in-Some.parting.own.items in
    let left = c.in-Some.parting.left.items in
    let right = c.in-Some.parting.right.items in
    let parting : IsPartingOnce g rates itags own left right = rw c.in-Some.is at c.in_ok-parting.ensures in
    rw c.deref-3.ensures.value (λ i there. c.requires.declared i (own_of g rates itags own left right parting.parting i there))

pub returns : goal.returns
returns t c =
    let g : Graph = graph_of c.args.table.now in
    let rates = c.args.rates.now in
    let itags = c.args.itags.now in
    let own = c.in-Some.parting.own.items in
    let left = c.in-Some.parting.left.items in
    let right = c.in-Some.parting.right.items in
    let parting : IsPartingOnce g rates itags own left right = rw c.in-Some.is at c.in_ok-parting.ensures in
    let p = c.args.p.now in
    let number = c.args.number in
    let lefts = c.in_ok-lefts.lefts.items in
    let rights = c.in_ok-rights.rights.items in
    let below : suc (c.args.depth - 1) ≡ c.args.depth = omega arith in
    let one : IsSubtree p g rates (c.args.depth - 1) (number + 1) left lefts = rw c.deref.ensures.value at c.in_ok-lefts.ensures in
    let size : c.len.result ≡ length lefts = grind (arith, common_steps) in
    let other : IsSubtree p g rates (c.args.depth - 1) (number + 1 + length lefts) right rights =
    rw (c.deref-2.ensures.value, size) at c.in_ok-rights.ensures in
    let node : c.in_ok-node_of.field-0 ≡ node_of p number own (Some (number + 1, number + 1 + length lefts)) =
    rw (c.deref-3.ensures.value, size) at c.in_ok-node_of.ensures in
    let first : c.push.new.self.items ≡ c.in_ok-node_of.field-0 ∷ [] = c.in_ok-push.ensures.items
    ∙ ap (λ xs. xs ++ c.in_ok-node_of.field-0 ∷ []) c.new-nodes.ensures.items in
    let nodes : c.append-2.new.self.items ≡ node_of p number own (Some (number + 1, number + 1 + length lefts)) ∷ (lefts ++ rights) =
    c.in_ok-append-2.ensures.items ∙ ap (λ xs. xs ++ rights) (c.in_ok-append.ensures.items ∙ ap (λ xs. xs ++ lefts) first)
    ∙ ap (λ node. node ∷ (lefts ++ rights)) node in
    subst (λ d. IsSubtree p g rates d number itags c.append-2.new.self.items) below
    (inner_is p g rates (c.args.depth - 1) number itags own left right lefts rights c.append-2.new.self.items parting.parting one other nodes)
