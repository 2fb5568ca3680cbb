-- Itags have one greedy tree for some rates and a depth, and so a job has one greedy plan.
use Rattle.std.proofs.Common.{◌≡◌, ℕ, zero, suc, true, inl, inr, List, [], ◌∷◌, refl, sym, ap, subst, ◌∙◌, arith}
use Rattle.std.specs.Prelude.{Contains, Bool}
use Rattle.std.proofs.lemmas.Bool.{cases_order}
use Rattle.std.proofs.lemmas.Grind.{common_steps}
use Rattle.flu_model.specs.declared.jobs.Program.{Program}
use Rattle.flu_model.specs.declared.plans.Node.{Node}
use Rattle.flu_planner.specs.Graphs.{Graph, AreConnected, AreComponents, IsInTurn, comes_first, rising, dependencies}
use Rattle.flu_planner.specs.Cuts.{removed, remaining}
use Rattle.flu_planner.specs.Groups.{grouped}
use Rattle.flu_planner.specs.Greedy.{Tree, Leaf, Inner, IsParting, IsLeaf, IsGreedy}
use Rattle.flu_planner.specs.Plans.{all_itags, nodes_from, IsGreedyPlan}
use Rattle.flu_lemmas.proofs.Containing.{contains_here, contains_later, contains_cases, contains_none, only_one}
use Rattle.flu_planner.proofs.Connections.{connected_itself}
use Rattle.flu_planner.proofs.TreeParts.{remaining_in, same_component}

-- ---- lists in turn
-- each comes before all that follow it
abbrev InTurn : {X : Type 0} → (X → X → Bool) → List X → Type 0
InTurn first [] = Unit {0}
InTurn {X} first (x ∷ xs) = ((y : X) → Contains xs y → first x y ≡ true) × InTurn first xs

from_turn : (first : List ℕ → List ℕ → Bool) (cs : List (List ℕ)) → IsInTurn first cs → InTurn first cs
from_turn first [] turn = tt
from_turn first (c ∷ cs) turn = (turn.0, from_turn first cs turn.1)

turn_same : {X : Type 0} (first : X → X → Bool) → ((x y : X) → first x y ≡ true → first y x ≡ true → ⊥) → (xs ys : List X)
    → ((x : X) → Contains xs x → Contains ys x) → ((y : X) → Contains ys y → Contains xs y) → InTurn first xs → InTurn first ys → xs ≡ ys
turn_same first one_way [] [] there back a b = refl
turn_same first one_way [] (y ∷ ys) there back a b = absurd (contains_none y (back y (contains_here y ys)))
turn_same first one_way (x ∷ xs) [] there back a b = absurd (contains_none x (there x (contains_here x xs)))
turn_same {X} first one_way (x ∷ xs) (y ∷ ys) there back a b =
    let same : x ≡ y = elim (contains_cases y x ys (there x (contains_here x xs))) [
      | inl e ↦ sym e
      | inr x_later ↦ elim (contains_cases x y xs (back y (contains_here y ys))) [
        | inl e ↦ e
        | inr y_later ↦ absurd (one_way x y (a.0 y y_later) (b.0 x x_later))
      ]
    ] in
    let rest : xs ≡ ys =
    turn_same first one_way xs ys
    (λ c later. elim (contains_cases y c ys (there c (contains_later x c xs later))) [
      | inl e ↦ (let itself : first x x ≡ true = subst (λ (z : X). first x z ≡ true) (sym (same ∙ e)) (a.0 c later) in absurd (one_way x x itself itself))
      | inr more ↦ more
    ])
    (λ c later. elim (contains_cases x c xs (back c (contains_later y c ys later))) [
      | inl e ↦ (let itself : first y y ≡ true = subst (λ (z : X). first y z ≡ true) (sym (sym same ∙ e)) (b.0 c later) in absurd (one_way y y itself itself))
      | inr more ↦ more
    ])
    a.1 b.1 in
    λ i. same i ∷ rest i

-- ---- components
one_way : (rates c d : List ℕ) → comes_first rates c d ≡ true → comes_first rates d c ≡ true → ⊥
one_way rates c d e f = grind (arith, common_steps)

component_is_listed : (g : Graph) (rates itags : List ℕ) (cs ds : List (List ℕ)) → AreComponents g rates itags cs → AreComponents g rates itags ds
    → (c : List ℕ) → Contains cs c → Contains ds c
component_is_listed g rates itags cs ds one two [] there = absurd ((one.each [] there).some refl)
component_is_listed g rates itags cs ds one two (x ∷ xs) there =
    let here = one.each (x ∷ xs) there in
    let found = two.every x (here.inside x (contains_here x xs)) in
    let same : x ∷ xs ≡ found.0 = same_component g itags (x ∷ xs) found.0 x here (two.each found.0 found.1) (contains_here x xs) found.2 in
    subst (λ (d : List ℕ). Contains ds d) (sym same) found.1

components_same : (g : Graph) (rates itags : List ℕ) (cs ds : List (List ℕ)) → AreComponents g rates itags cs → AreComponents g rates itags ds → cs ≡ ds
components_same g rates itags cs ds one two =
    turn_same (comes_first rates) (one_way rates) cs ds (component_is_listed g rates itags cs ds one two) (component_is_listed g rates itags ds cs two one)
    (from_turn (comes_first rates) cs one.in_turn) (from_turn (comes_first rates) ds two.in_turn)

-- ---- a leaf has no parting
not_leaf : (g : Graph) (rates : List ℕ) (depth : ℕ) (itags own left right : List ℕ) → IsLeaf g rates (suc depth) itags
    → IsParting g rates itags own left right → ⊥
not_leaf g rates depth itags own left right (inl none) p = omega (arith, none)
not_leaf g rates depth itags own left right (inr (inl few)) p =
    let cut = p.least_cut.apart in
    let rest = remaining rates itags p.count in
    let same : cut.one ≡ cut.other = only_one itags cut.one cut.other few (remaining_in rates itags p.count cut.one cut.one_in)
    (remaining_in rates itags p.count cut.other cut.other_in) in
    cut.apart (subst (λ (k : ℕ). AreConnected g rest cut.one k) same (connected_itself g rest cut.one))
not_leaf g rates depth itags own left right (inr (inr whole)) p = whole p.count p.least_cut.apart

-- ---- a parting is the only one
record SameParts (own left right own' left' right' : List ℕ) : Type 0 where
  same_own : own ≡ own'
  same_left : left ≡ left'
  same_right : right ≡ right'

parting_same : (g : Graph) (rates itags own left right own' left' right' : List ℕ) → IsParting g rates itags own left right
    → IsParting g rates itags own' left' right' → SameParts own left right own' left' right'
parting_same g rates itags own left right own' left' right' p q =
    let count : p.count ≡ q.count = elim (cases_order p.count q.count) [
      | inl e ↦ e
      | inr differ ↦ elim differ [
        | inl lt ↦ absurd (q.least_cut.least p.count lt p.least_cut.apart)
        | inr lt ↦ absurd (p.least_cut.least q.count lt q.least_cut.apart)
      ]
    ] in
    let are : AreComponents g rates (remaining rates itags q.count) p.components =
    subst (λ (n : ℕ). AreComponents g rates (remaining rates itags n) p.components) count p.are in
    let components : p.components ≡ q.components = components_same g rates (remaining rates itags q.count) p.components q.components are q.are in
    record {
      same_own = p.own_removed ∙ ap (removed rates itags) count ∙ sym q.own_removed;
      same_left = p.left_group ∙ ap (λ cs. rising (grouped rates [] [] cs).0) components ∙ sym q.left_group;
      same_right = p.right_group ∙ ap (λ cs. rising (grouped rates [] [] cs).1) components ∙ sym q.right_group;
    }

tree_same : (g : Graph) (rates : List ℕ) (depth : ℕ) (itags : List ℕ) (a b : Tree) → IsGreedy g rates depth itags a → IsGreedy g rates depth itags b → a ≡ b
tree_same g rates depth itags (Leaf own) (Leaf own') one two = ap Leaf (one.0 ∙ sym two.0)
tree_same g rates zero itags (Leaf own) (Inner own' l' r') one two = absurd two
tree_same g rates (suc depth) itags (Leaf own) (Inner own' l' r') one two = absurd (not_leaf g rates depth itags own' two.0 two.1 one.1 two.2)
tree_same g rates zero itags (Inner own l r) b one two = absurd one
tree_same g rates (suc depth) itags (Inner own l r) (Leaf own') one two = absurd (not_leaf g rates depth itags own one.0 one.1 two.1 one.2)
tree_same g rates (suc depth) itags (Inner own l r) (Inner own' l' r') one two =
    let same = parting_same g rates itags own one.0 one.1 own' two.0 two.1 one.2 two.2 in
    let owns : own ≡ own' = same.same_own in
    let lefts : l ≡ l' = tree_same g rates depth two.0 l l' (subst (λ (xs : List ℕ). IsGreedy g rates depth xs l) same.same_left one.3) two.3 in
    let rights : r ≡ r' = tree_same g rates depth two.1 r r' (subst (λ (xs : List ℕ). IsGreedy g rates depth xs r) same.same_right one.4) two.4 in
    λ i. Inner (owns i) (lefts i) (rights i)

pub greedy_is_unique : (p : Program) (rates : List ℕ) (depth : ℕ) (a b : List Node) → IsGreedyPlan p rates depth a → IsGreedyPlan p rates depth b → a ≡ b
greedy_is_unique p rates depth a b one two =
    one.nodes_of_tree ∙ ap (nodes_from p 0) (tree_same (dependencies p) rates depth (all_itags p) one.tree two.tree one.greedy two.greedy)
    ∙ sym two.nodes_of_tree
