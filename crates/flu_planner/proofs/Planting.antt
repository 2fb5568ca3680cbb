-- The nodes of a subtree: how many there are, a leaf, and a node with two children.
use Rattle.std.proofs.Common.{◌≡◌, ◌<◌, ◌+◌, ◌*◌, ◌^◌, ℕ, suc, Some, None, List, [], ◌∷◌, ◌++◌, length, refl, ap, ◌∙◌, arith}
use Rattle.std.proofs.Math.Nat.{pow-suc}
use Rattle.std.proofs.lemmas.List.{length-append}
use Rattle.std.proofs.lemmas.Nat.{pow_pos}
use Rattle.flu_model.specs.declared.jobs.Program.{Program}
use Rattle.flu_model.specs.declared.plans.Node.{Node}
use Rattle.flu_planner.specs.Graphs.{Graph}
use Rattle.flu_planner.specs.Greedy.{Leaf, Inner, IsLeaf, IsParting}
use Rattle.flu_planner.specs.Plans.{node_of, nodes_from, size}
use Rattle.flu_planner.specs.LoopSearch.{IsSubtree}
use Rattle.flu_planner.proofs.PlanNodes.{count_of_nodes}

pub doubled : (d : ℕ) → 2 ^ (d + 1) ≡ 2 ^ d + 2 ^ d
doubled d =
    let next : d + 1 ≡ suc d = omega arith in
    let double : 2 ^ suc d ≡ 2 ^ d * 2 = pow-suc 2 d in
    ap (λ n. 2 ^ n) next ∙ double ∙ omega arith

pub leaf_is : (p : Program) (g : Graph) (rates : List ℕ) (depth number : ℕ) (itags : List ℕ) (nodes : List Node) → IsLeaf g rates depth itags
    → nodes ≡ node_of p number itags None ∷ [] → IsSubtree p g rates depth number itags nodes
leaf_is p g rates depth number itags nodes leaf e = record {
  tree = Leaf itags;
  greedy = (refl, leaf);
  nodes_of_tree = e;
  few = (let one : length nodes ≡ 1 = ap length e in let double = doubled depth in let some = pow_pos depth in omega arith);
}

pub inner_is : (p : Program) (g : Graph) (rates : List ℕ) (depth number : ℕ) (itags own lefts rights : List ℕ) (l r nodes : List Node)
    → IsParting g rates itags own lefts rights → IsSubtree p g rates depth (number + 1) lefts l → IsSubtree p g rates depth (number + 1 + length l) rights r
    → nodes ≡ node_of p number own (Some (number + 1, number + 1 + length l)) ∷ (l ++ r) → IsSubtree p g rates (suc depth) number itags nodes
inner_is p g rates depth number itags own lefts rights l r nodes parting left right e =
    let size_is : length l ≡ size left.tree = ap length left.nodes_of_tree ∙ count_of_nodes p (number + 1) left.tree in
    let r_is : r ≡ nodes_from p (number + 1 + size left.tree) right.tree = right.nodes_of_tree ∙ ap (λ n. nodes_from p (number + 1 + n) right.tree) size_is in
    record {
      tree = Inner own left.tree right.tree;
      greedy = (lefts, rights, parting, left.greedy, right.greedy);
      nodes_of_tree =
          e ∙ ap (λ n. node_of p number own (Some (number + 1, number + 1 + n)) ∷ (l ++ r)) size_is
          ∙ ap (λ xs. node_of p number own (Some (number + 1, number + 1 + size left.tree)) ∷ (xs ++ r)) left.nodes_of_tree
          ∙ ap (λ xs. node_of p number own (Some (number + 1, number + 1 + size left.tree)) ∷ (nodes_from p (number + 1) left.tree ++ xs)) r_is;
      few =
          (let all : length nodes ≡ suc (length (l ++ r)) = ap length e in
          let both = length-append l r in
          let a : length l < 2 ^ (depth + 1) = left.few in
          let b : length r < 2 ^ (depth + 1) = right.few in
          let next : suc depth ≡ depth + 1 = omega arith in
          let double : 2 ^ (suc depth + 1) ≡ 2 ^ (depth + 1) + 2 ^ (depth + 1) = doubled (suc depth) ∙ ap (λ n. 2 ^ n + 2 ^ n) next in
          omega arith);
    }
