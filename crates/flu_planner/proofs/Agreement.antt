-- Two graphs that agree on some itags have the same components, cuts and greedy trees there.
use Rattle.std.proofs.Common.{◌≡◌, ◌≤◌, ℕ, zero, suc, List, [], ◌∷◌, inl, inr, refl, sym, ap, ◌∙◌, arith}
use Rattle.std.specs.Prelude.{Contains, ◌&&◌, nat_lt}
use Rattle.flu_lemmas.specs.Totals.{total}
use Rattle.flu_planner.specs.Graphs.{Graph, AreConnected, IsApart, IsComponent, AreComponents, is_walk}
use Rattle.flu_planner.specs.Cuts.{IsLeastCut, IsWhole, removed, remaining}
use Rattle.flu_planner.specs.Groups.{grouped}
use Rattle.flu_planner.specs.Greedy.{Tree, Leaf, Inner, IsGreedy, IsLeaf, IsParting}
use Rattle.flu_lemmas.specs.Counting.{times}
use Rattle.flu_lemmas.proofs.Containing.{contains_here, contains_later}
use Rattle.flu_lemmas.proofs.Counting.{times_if_contained, contained_if_times, times_in_order}
use Rattle.flu_planner.proofs.Cutting.{grouped_once}
use Rattle.flu_planner.proofs.Finding.{some_list}
use Rattle.flu_planner.proofs.TreeParts.{times_of_cut, remaining_in}

pub record Agree (g h : Graph) (itags : List ℕ) : Type 0 where
  pub same : (i j : ℕ) → Contains itags i → Contains itags j → g i j ≡ h i j

turned : (g h : Graph) (itags : List ℕ) → Agree g h itags → Agree h g itags
turned g h itags a = record { same = λ i j one other. sym (a.same i j one other) }

within : (g h : Graph) (itags few : List ℕ) → ((k : ℕ) → Contains few k → Contains itags k) → Agree g h itags → Agree g h few
within g h itags few inside a = record { same = λ i j one other. a.same i j (inside i one) (inside j other) }

-- ---- walks
walks_agree : (g h : Graph) (itags : List ℕ) → Agree g h itags → (i : ℕ) (walk : List ℕ) → Contains itags i → ((k : ℕ) → Contains walk k → Contains itags k)
    → is_walk g i walk ≡ is_walk h i walk
walks_agree g h itags a i [] there inside = refl
walks_agree g h itags a i (j ∷ walk) there inside =
    let next : Contains itags j = inside j (contains_here j walk) in
    ap (λ b. b && is_walk g j walk) (a.same i j there next)
    ∙ ap (λ b. h i j && b) (walks_agree g h itags a j walk next (λ k here. inside k (contains_later j k walk here)))

connected_agrees : (g h : Graph) (itags : List ℕ) → Agree g h itags → (i j : ℕ) → Contains itags i → AreConnected g itags i j → AreConnected h itags i j
connected_agrees g h itags a i j there c = record {
  walk = c.walk;
  joined = sym (walks_agree g h itags a i c.walk there c.inside) ∙ c.joined;
  inside = c.inside;
  ends = c.ends;
}

apart_agrees : (g h : Graph) (itags : List ℕ) → Agree g h itags → IsApart g itags → IsApart h itags
apart_agrees g h itags a x = record {
  one = x.one;
  other = x.other;
  one_in = x.one_in;
  other_in = x.other_in;
  apart = λ c. x.apart (connected_agrees h g itags (turned g h itags a) x.one x.other x.one_in c);
}

-- ---- components
component_agrees : (g h : Graph) (itags c : List ℕ) → Agree g h itags → IsComponent g itags c → IsComponent h itags c
component_agrees g h itags c a x = record {
  some = x.some;
  in_order = x.in_order;
  inside = x.inside;
  connected = λ i j one other. connected_agrees g h itags a i j (x.inside i one) (x.connected i j one other);
  closed = λ i j one there w. x.closed i j one there (connected_agrees h g itags (turned g h itags a) i j (x.inside i one) w);
}

components_agree : (g h : Graph) (rates itags : List ℕ) (cs : List (List ℕ)) → Agree g h itags → AreComponents g rates itags cs → AreComponents h rates itags cs
components_agree g h rates itags cs a x = record { each = λ c there. component_agrees g h itags c a (x.each c there); every = x.every; in_turn = x.in_turn }

-- ---- cuts
agree_remaining : (g h : Graph) (rates itags : List ℕ) (n : ℕ) → Agree g h itags → Agree g h (remaining rates itags n)
agree_remaining g h rates itags n a = within g h itags (remaining rates itags n) (remaining_in rates itags n) a

cut_agrees : (g h : Graph) (rates itags : List ℕ) (n : ℕ) → Agree g h itags → IsLeastCut g rates itags n → IsLeastCut h rates itags n
cut_agrees g h rates itags n a x = record {
  apart = apart_agrees g h (remaining rates itags n) (agree_remaining g h rates itags n a) x.apart;
  least = λ m less y. x.least m less (apart_agrees h g (remaining rates itags m)
      (turned g h (remaining rates itags m) (agree_remaining g h rates itags m a)) y);
}

whole_agrees : (g h : Graph) (rates itags : List ℕ) → Agree g h itags → IsWhole g rates itags → IsWhole h rates itags
whole_agrees g h rates itags a x = λ n y. x n (apart_agrees h g (remaining rates itags n)
    (turned g h (remaining rates itags n) (agree_remaining g h rates itags n a)) y)

-- ---- partings
parting_agrees : (g h : Graph) (rates itags own left right : List ℕ) → Agree g h itags → IsParting g rates itags own left right
    → IsParting h rates itags own left right
parting_agrees g h rates itags own left right a x = record {
  count = x.count;
  least_cut = cut_agrees g h rates itags x.count a x.least_cut;
  own_removed = x.own_removed;
  components = x.components;
  are = components_agree g h rates (remaining rates itags x.count) x.components (agree_remaining g h rates itags x.count a) x.are;
  left_group = x.left_group;
  right_group = x.right_group;
}

-- what stands in a part stands in the whole
module _ (g : Graph) (rates itags own left right : List ℕ) (x : IsParting g rates itags own left right) where
  grouped_in : (k : ℕ) → 1 ≤ total (times k) x.components → Contains itags k
  grouped_in k some =
      let c = some_list k x.components some in
      remaining_in rates itags x.count k ((x.are.each c.0 c.1).inside k c.2)

  pub own_of : (k : ℕ) → Contains own k → Contains itags k
  own_of k there =
      let some = times_if_contained k own there in
      let same : times k own ≡ times k (removed rates itags x.count) = ap (times k) x.own_removed in
      let cut = times_of_cut rates itags x.count k in
      contained_if_times k itags (omega (arith, some, same, cut))

  pub left_of : (k : ℕ) → Contains left k → Contains itags k
  left_of k there =
      let some = times_if_contained k left there in
      let groups = grouped rates [] [] x.components in
      let same : times k left ≡ times k groups.0 = ap (times k) x.left_group ∙ times_in_order k nat_lt groups.0 in
      let all = grouped_once k rates [] [] x.components in
      grouped_in k (omega arith)

  pub right_of : (k : ℕ) → Contains right k → Contains itags k
  right_of k there =
      let some = times_if_contained k right there in
      let groups = grouped rates [] [] x.components in
      let same : times k right ≡ times k groups.1 = ap (times k) x.right_group ∙ times_in_order k nat_lt groups.1 in
      let all = grouped_once k rates [] [] x.components in
      grouped_in k (omega arith)

-- ---- trees
leaf_agrees : (g h : Graph) (rates : List ℕ) (depth : ℕ) (itags : List ℕ) → Agree g h itags → IsLeaf g rates depth itags → IsLeaf h rates depth itags
leaf_agrees g h rates depth itags a leaf =
    elim leaf [ inl none ↦ inl none | inr more ↦ elim more [ inl few ↦ inr (inl few) | inr whole ↦ inr (inr (whole_agrees g h rates itags a whole)) ] ]

pub greedy_agrees : (g h : Graph) (rates : List ℕ) (depth : ℕ) (itags : List ℕ) (tree : Tree) → Agree g h itags → IsGreedy g rates depth itags tree
    → IsGreedy h rates depth itags tree
greedy_agrees g h rates depth itags (Leaf own) a x = (x.0, leaf_agrees g h rates depth itags a x.1)
greedy_agrees g h rates zero itags (Inner own left right) a x = absurd x
greedy_agrees g h rates (suc depth) itags (Inner own left right) a x =
    let lefts : List ℕ = x.0 in
    let rights : List ℕ = x.1 in
    let parting : IsParting g rates itags own lefts rights = x.2 in (
      lefts,
      rights,
      parting_agrees g h rates itags own lefts rights a parting,
      greedy_agrees g h rates depth lefts left (within g h itags lefts (left_of g rates itags own lefts rights parting) a) x.3,
      greedy_agrees g h rates depth rights right (within g h itags rights (right_of g rates itags own lefts rights parting) a) x.4,
    )
