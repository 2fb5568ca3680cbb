-- The itags below, above and beside a node of a valid plan.
use Rattle.std.proofs.Common.{◌≡◌, ◌<◌, ℕ, true, false, Some, None, List, length, ◌⊎◌, inl, inr, refl, sym, ap, ◌∙◌}
use Rattle.std.specs.Prelude.{◌==◌, ◌||◌, ◌&&◌, not}
use Rattle.std.proofs.lemmas.Bool.{ne_eqb, not_from_false}
use Rattle.std.proofs.lemmas.Option.{slice_get_within}
use Rattle.flu_lemmas.proofs.Places.{position_passes}
use Rattle.flu_lemmas.proofs.Tests.{and_left, and_right, both, false_if_not, not_both, not_true}
use Rattle.flu_model.specs.declared.jobs.Program.{Program}
use Rattle.flu_model.specs.declared.plans.Node.{Node}
use Rattle.flu_model.specs.Itags.{count_of_itags, tag_of_itag, is_dependent}
use Rattle.flu_model.specs.Owners.{node_owns, found_owns, owns, owner_of, is_within}
use Rattle.flu_deps.specs.Owned.{kids_at}
use Rattle.flu_deps.specs.Trees.{IsOrdered, HasNodesApart, AreApart, Siblings}
use Rattle.flu_fork.specs.LawsBelow.{LawsBelow}
use Rattle.flu_fork.specs.Settings.{Setting, IsSetting}
use Rattle.flu_fork.specs.Classes.{itag, below, above, beside}

-- ---- what an owner says
pub below_by : (p : Program) (nodes : List Node) (w i v : ℕ) → owner_of p nodes (itag i) ≡ Some v → below p nodes w i ≡ is_within nodes w v
below_by p nodes w i v e = rw e refl

pub above_by : (p : Program) (nodes : List Node) (w i v : ℕ) → owner_of p nodes (itag i) ≡ Some v → above p nodes w i ≡ (is_within nodes v w && not (v == w))
above_by p nodes w i v e = rw e refl

below_none : (p : Program) (nodes : List Node) (w i : ℕ) → owner_of p nodes (itag i) ≡ None → below p nodes w i ≡ false
below_none p nodes w i e = rw e refl

above_none : (p : Program) (nodes : List Node) (w i : ℕ) → owner_of p nodes (itag i) ≡ None → above p nodes w i ≡ false
above_none p nodes w i e = rw e refl

-- the owner of an itag
pub record OwnerOf (p : Program) (nodes : List Node) (i : ℕ) : Type 0 where
  pub node : ℕ
  pub is : owner_of p nodes (itag i) ≡ Some node
  pub there : node < length nodes
  pub owned : owns p nodes node (itag i) ≡ true

the_owner : (p : Program) (nodes : List Node) (i v : ℕ) → owner_of p nodes (itag i) ≡ Some v → OwnerOf p nodes i
the_owner p nodes i v e =
    let found = position_passes (node_owns p (itag i)) nodes v e in
    record { node = v; is = e; there = slice_get_within nodes v found.0 found.1; owned = ap (found_owns p (itag i)) found.1 ∙ found.2 }

-- what is below a node has an owner
below_owner : (p : Program) (nodes : List Node) (w i : ℕ) → below p nodes w i ≡ true → OwnerOf p nodes i
below_owner p nodes w i e =
    elim (owner_of p nodes (itag i)) as (λ o. owner_of p nodes (itag i) ≡ o → OwnerOf p nodes i) [
      | None ↦ λ none. absurd (not_both _ e (below_none p nodes w i none))
      | Some v ↦ λ some. the_owner p nodes i v some
    ] refl

module _ (laws : LawsBelow) (k : Setting) (ok : IsSetting k) where
  -- how the nodes of the plan stand to each other
  ordered : IsOrdered k.nodes
  ordered = laws.ordered k.nodes ok.one_tree

  apart : HasNodesApart k.nodes
  apart = laws.apart k.nodes ok.one_tree

  pub owner_at : (i : ℕ) → i < count_of_itags k.program → OwnerOf k.program k.nodes i
  owner_at i lt = let o = laws.owned k.program k.nodes (itag i) ok.valid lt in the_owner k.program k.nodes i o.owner o.is

  pub owner_is_below : (w i : ℕ) → owner_of k.program k.nodes (itag i) ≡ Some w → below k.program k.nodes w i ≡ true
  unfolding the_owner
  owner_is_below w i e = let o = the_owner k.program k.nodes i w e in below_by k.program k.nodes w i w e ∙ ordered.itself w o.there

  pub owner_is_there : (w i : ℕ) → owner_of k.program k.nodes (itag i) ≡ Some w → w < length k.nodes
  unfolding the_owner
  owner_is_there w i e = (the_owner k.program k.nodes i w e).there

  pub root_has_all : (i : ℕ) → i < count_of_itags k.program → below k.program k.nodes 0 i ≡ true
  root_has_all i lt = let o = owner_at i lt in below_by k.program k.nodes 0 i o.node o.is ∙ ordered.root o.node o.there

  -- what is beside a node is owned by a node apart from it
  beside_apart : (w i v : ℕ) → v < length k.nodes → owner_of k.program k.nodes (itag i) ≡ Some v → beside k.program k.nodes w i ≡ true → AreApart k.nodes w v
  beside_apart w i v lt e out =
      let outside : is_within k.nodes w v ≡ false = sym (below_by k.program k.nodes w i v e) ∙ not_true _ (and_left _ _ out) in
      let not_above : (is_within k.nodes v w && not (v == w)) ≡ false =
      sym (above_by k.program k.nodes w i v e) ∙ not_true _ (and_right (not (below k.program k.nodes w i)) _ out) in
      let differ : (v == w) ≡ false = ne_eqb v w (λ same. not_both _ (ap (λ n. is_within k.nodes n v) (sym same) ∙ ordered.itself v lt) outside) in
      (outside, false_if_not _ (λ h. not_both _ (both _ _ h (not_from_false _ differ)) not_above))

  apart_beside : (w i v : ℕ) → owner_of k.program k.nodes (itag i) ≡ Some v → AreApart k.nodes w v → beside k.program k.nodes w i ≡ true
  apart_beside w i v e out =
      both _ _ (not_from_false _ (below_by k.program k.nodes w i v e ∙ out.0))
      (not_from_false _ (above_by k.program k.nodes w i v e ∙ false_if_not _ (λ h. not_both _ (and_left _ _ h) out.1)))

  pub beside_is_not_below : (w i : ℕ) → beside k.program k.nodes w i ≡ true → below k.program k.nodes w i ≡ false
  beside_is_not_below w i out = not_true _ (and_left _ _ out)

  -- itags below a node and beside it are independent
  pub independent : (w i j : ℕ) → i < count_of_itags k.program → j < count_of_itags k.program → below k.program k.nodes w i ≡ true
      → beside k.program k.nodes w j ≡ true
      → is_dependent k.program (tag_of_itag k.program (itag i)) (tag_of_itag k.program (itag j)) ≡ false
  independent w i j hi hj inside out =
      let a = owner_at i hi in
      let b = owner_at j hj in
      let outside = beside_apart w j b.node b.there b.is out in
      let within_w : is_within k.nodes w a.node ≡ true = sym (below_by k.program k.nodes w i a.node a.is) ∙ inside in
      let apart_owners : AreApart k.nodes a.node b.node = apart.inside w a.node b.node a.there b.there within_w outside in
      ok.valid.independent a.node b.node (itag i) (itag j) hi hj a.owned b.owned ((λ t. apart_owners.0 t || apart_owners.1 t))

  -- two children of a node, in either order
  pub left_and_right : (w left right : ℕ) → kids_at k.nodes w ≡ Some (left, right) → Siblings k.nodes w left right
  left_and_right w left right e = apart.left_first w left right e

  pub right_and_left : (w left right : ℕ) → kids_at k.nodes w ≡ Some (left, right) → Siblings k.nodes w right left
  right_and_left w left right e = apart.right_first w left right e

  pub turned : (w x y : ℕ) → Siblings k.nodes w x y → Siblings k.nodes w y x
  turned w x y s = record {
    first = s.second;
    second = s.first;
    differ = λ same. s.differ (sym same);
    cover = λ v lt h. elim (s.cover v lt h) [
      | inl here ↦ inl here
      | inr (inl there) ↦ inr (inr there)
      | inr (inr there) ↦ inr (inl there)
    ];
  }

  pub kid_below : (w x y i : ℕ) → Siblings k.nodes w x y → below k.program k.nodes x i ≡ true → below k.program k.nodes w i ≡ true
  kid_below w x y i s inside =
      let o = below_owner k.program k.nodes x i inside in
      below_by k.program k.nodes w i o.node o.is ∙ apart.parent w x o.node s.first o.there (sym (below_by k.program k.nodes x i o.node o.is) ∙ inside)

  pub not_below_both : (w x y i : ℕ) → Siblings k.nodes w x y → below k.program k.nodes x i ≡ true → below k.program k.nodes y i ≡ false
  not_below_both w x y i s inside =
      let o = below_owner k.program k.nodes x i inside in
      false_if_not _ (λ h. apart.both w x y o.node s.first s.second s.differ o.there
      (sym (below_by k.program k.nodes x i o.node o.is) ∙ inside) (sym (below_by k.program k.nodes y i o.node o.is) ∙ h))

  -- what is beside a child is beside its parent or below its sibling
  pub beside_cases : (w x y i : ℕ) → i < count_of_itags k.program → Siblings k.nodes w x y → beside k.program k.nodes x i ≡ true
      → (beside k.program k.nodes w i ≡ true) ⊎ (below k.program k.nodes y i ≡ true)
  beside_cases w x y i hi s out =
      let o = owner_at i hi in
      elim (apart.cases w x y o.node s o.there (beside_apart x i o.node o.there o.is out)) [
        | inl up ↦ inl (apart_beside w i o.node o.is up)
        | inr there ↦ inr (below_by k.program k.nodes y i o.node o.is ∙ there)
      ]

  pub beside_kid : (w x y i : ℕ) → i < count_of_itags k.program → Siblings k.nodes w x y → beside k.program k.nodes w i ≡ true
      → beside k.program k.nodes x i ≡ true
  beside_kid w x y i hi s out =
      let o = owner_at i hi in
      apart_beside x i o.node o.is (apart.kid w x o.node s.first o.there (beside_apart w i o.node o.there o.is out))

  pub beside_sibling : (w x y i : ℕ) → Siblings k.nodes w x y → below k.program k.nodes y i ≡ true → beside k.program k.nodes x i ≡ true
  beside_sibling w x y i s inside =
      let o = below_owner k.program k.nodes y i inside in
      apart_beside x i o.node o.is (apart.sibling w x y o.node s o.there (sym (below_by k.program k.nodes y i o.node o.is) ∙ inside))

  -- itags below two siblings are independent
  pub across : (w x y i j : ℕ) → Siblings k.nodes w x y → i < count_of_itags k.program → j < count_of_itags k.program → below k.program k.nodes x i ≡ true
      → below k.program k.nodes y j ≡ true
      → is_dependent k.program (tag_of_itag k.program (itag i)) (tag_of_itag k.program (itag j)) ≡ false
  across w x y i j s hi hj one two = independent x i j hi hj one (beside_sibling w x y j s two)
