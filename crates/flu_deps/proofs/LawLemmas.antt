-- What the laws of conflicts, of trees and of owners rest on.
use Rattle.std.proofs.Common.{◌≡◌, ◌<◌, ℕ, zero, suc, Bool, true, false, Option, Some, None, List, length, inl, inr, refl, sym, ap, ◌∙◌, arith}
use Rattle.std.specs.Prelude.{not, ◌==◌, ◌&&◌, ◌||◌, slice_get}
use Rattle.std.proofs.lemmas.Bool.{cases_eq, or_left, or_right, or_cases, or_from}
use Rattle.std.proofs.lemmas.Option.{slice_get_within}
use Rattle.flu_lemmas.proofs.OnlyOne.{counted_at, position_of_one}
use Rattle.flu_lemmas.proofs.Places.{position_passes}
use Rattle.flu_lemmas.proofs.Searches.{eq_true}
use Rattle.flu_lemmas.proofs.Tests.{true_eq, false_if_not}
use Rattle.flu_model.specs.declared.events.Itag.{Itag}
use Rattle.flu_model.specs.declared.jobs.Program.{Program}
use Rattle.flu_model.specs.declared.modes.Mode.{Mode}
use Rattle.flu_model.specs.declared.modes.Mode.TheVariants.{None as NoMode, Add as AddMode, Raise as RaiseMode, Read as ReadMode, Own}
use Rattle.flu_model.specs.declared.plans.Node.{Node}
use Rattle.flu_model.specs.Modes.{mode_of, uses, share, modes_conflict}
use Rattle.flu_model.specs.Owners.{node_owns, found_owns, is_within}
use Rattle.flu_deps.specs.Dependencies.{ConflictIsMutual}
use Rattle.flu_deps.specs.Owned.{kids_at}
use Rattle.flu_deps.specs.Owners.{ItagsAreOwned}
use Rattle.flu_deps.specs.Trees.{AreKids, IsRooted, PathsGoUp, SubtreesAreOfChildren, NodesAreOrdered, NodesAreApart}
use Rattle.flu_deps.proofs.Trees.{are_kids, rooted}
use Rattle.flu_deps.proofs.Within.{path_root, path_step, within_itself, within_step, within_cases, within_is_later, in_root}
use Rattle.flu_deps.proofs.Within.{within_through, within_parent, on_one_line, sibling_not_within, not_in_both, within_kid}
use Rattle.flu_deps.proofs.Within.{within_root, left_first, right_first, apart_cases, apart_kid, apart_sibling, within_is_apart}

-- ---- mutual
share_turns : (m n : Mode) → share m n ≡ share n m
share_turns AddMode NoMode = refl
share_turns AddMode AddMode = refl
share_turns AddMode RaiseMode = refl
share_turns AddMode ReadMode = refl
share_turns AddMode Own = refl
share_turns RaiseMode NoMode = refl
share_turns RaiseMode AddMode = refl
share_turns RaiseMode RaiseMode = refl
share_turns RaiseMode ReadMode = refl
share_turns RaiseMode Own = refl
share_turns ReadMode NoMode = refl
share_turns ReadMode AddMode = refl
share_turns ReadMode RaiseMode = refl
share_turns ReadMode ReadMode = refl
share_turns ReadMode Own = refl
share_turns NoMode NoMode = refl
share_turns NoMode AddMode = refl
share_turns NoMode RaiseMode = refl
share_turns NoMode ReadMode = refl
share_turns NoMode Own = refl
share_turns Own NoMode = refl
share_turns Own AddMode = refl
share_turns Own RaiseMode = refl
share_turns Own ReadMode = refl
share_turns Own Own = refl

pub conflict_turns : ConflictIsMutual
conflict_turns p a b c = turns (mode_of p a c) (mode_of p b c)
  where
    turns : (m n : Mode) → modes_conflict m n ≡ modes_conflict n m
    turns m n =
        ap (λ s. uses m && uses n && not s) (share_turns m n)
        ∙ assoc (uses m) (uses n) (not (share n m))
      where
        assoc : (x y z : Bool) → (x && y && z) ≡ (y && x && z)
        assoc true true z = refl
        assoc true false z = refl
        assoc false true z = refl
        assoc false false z = refl

-- ---- trees
pub paths_go_up : PathsGoUp
paths_go_up nodes tree = record { root = path_root nodes (rooted nodes tree); child = path_step nodes (rooted nodes tree) }

from_iff : (x y : Bool) → (x ≡ true → y ≡ true) → (y ≡ true → x ≡ true) → x ≡ y
from_iff true true f g = refl
from_iff true false f g = sym (f refl)
from_iff false true f g = g refl
from_iff false false f g = refl

not_some : (kids : ℕ × ℕ) → None ≡ Some kids → ⊥
not_some kids e = cc

-- a leaf is nobody's parent
below_leaf : (nodes : List Node) → IsRooted nodes → (w : ℕ) → kids_at nodes w ≡ None → (fuel v : ℕ) → v < fuel → v < length nodes
    → is_within nodes w v ≡ true → v ≡ w
below_leaf nodes root w none zero v f lt e = absurd (omega arith)
below_leaf nodes root w none (suc fuel) v f lt e =
    elim (cases_eq v 0) [
      | inl first ↦ first ∙ within_root nodes root w (sym (ap (is_within nodes w) first) ∙ e)
      | inr other ↦
          let up = root.above v (omega arith) lt in
          let earlier = up.under.earlier in
          elim (within_cases nodes root w up.parent v up.under e) [
            | inl same ↦ same
            | inr h ↦
                let at = below_leaf nodes root w none fuel up.parent (omega arith) (omega arith) h in
                absurd (not_some up.kids (sym none ∙ ap (kids_at nodes) (sym at) ∙ up.are))
          ]
    ]

pub subtrees_are_of_children : SubtreesAreOfChildren
subtrees_are_of_children nodes tree = record { leaf = leaf; inner = inner; apart = apart }
  where
    root : IsRooted nodes
    root = rooted nodes tree

    leaf : (w v : ℕ) → v < length nodes → kids_at nodes w ≡ None → is_within nodes w v ≡ (v == w)
    leaf w v lt none =
        from_iff (is_within nodes w v) (v == w) (λ h. eq_true v w (below_leaf nodes root w none (suc v) v (omega arith) lt h))
        (λ h. ap (λ u. is_within nodes u v) (sym (true_eq v w h)) ∙ within_itself nodes root v lt)

    inner : (w left right v : ℕ) → v < length nodes → kids_at nodes w ≡ Some (left, right)
        → is_within nodes w v ≡ ((v == w) || (is_within nodes left v || is_within nodes right v))
    inner w left right v lt kids =
        let are : AreKids nodes w left right = are_kids nodes tree w left right kids in
        from_iff (is_within nodes w v) ((v == w) || (is_within nodes left v || is_within nodes right v))
        (λ h. elim (within_kid nodes root w left right v lt kids h) [
          | inl same ↦ or_left (v == w) (is_within nodes left v || is_within nodes right v) (eq_true v w same)
          | inr (inl there) ↦ or_right (v == w) (is_within nodes left v || is_within nodes right v)
              (or_left (is_within nodes left v) (is_within nodes right v) there)
          | inr (inr there) ↦ or_right (v == w) (is_within nodes left v || is_within nodes right v)
              (or_right (is_within nodes left v) (is_within nodes right v) there)
        ])
        (λ h. elim (or_cases (v == w) (is_within nodes left v || is_within nodes right v) h) [
          | inl same ↦ ap (λ u. is_within nodes u v) (sym (true_eq v w same)) ∙ within_itself nodes root v lt
          | inr below ↦ elim (or_cases (is_within nodes left v) (is_within nodes right v) below) [
            | inl there ↦ within_parent nodes root w left v are.left_under lt there
            | inr there ↦ within_parent nodes root w right v are.right_under lt there
          ]
        ])

    apart : (w left right v : ℕ) → v < length nodes → kids_at nodes w ≡ Some (left, right) → is_within nodes left v ≡ true → is_within nodes right v ≡ false
    apart w left right v lt kids h =
        let are : AreKids nodes w left right = are_kids nodes tree w left right kids in
        let before = are.in_order in
        false_if_not _ (λ g. not_in_both nodes root w left right v are.left_under are.right_under (λ same. absurd (omega arith)) lt h g)

pub nodes_are_ordered : NodesAreOrdered
nodes_are_ordered nodes tree = record {
  itself = within_itself nodes root;
  later = within_is_later nodes root;
  through = λ u w v lt h g. within_through nodes root u w v lt h g;
  root = in_root nodes root;
  line = on_one_line nodes root;
  child = within_step nodes root;
  children = λ w left right kids.
      (let are : AreKids nodes w left right = are_kids nodes tree w left right kids in
      let before = are.in_order in
      let left_there = are.left_under.there in
      let right_there = are.right_under.there in
      or_from (is_within nodes left right) (is_within nodes right left)
      (false_if_not _ (λ h. sibling_not_within nodes root w left right are.left_under are.right_under (λ same. absurd (omega arith)) h))
      (false_if_not _ (λ h. sibling_not_within nodes root w right left are.right_under are.left_under (λ same. absurd (omega arith)) h)));
}
  where
    root : IsRooted nodes
    root = rooted nodes tree

pub nodes_are_apart : NodesAreApart
nodes_are_apart nodes tree = record {
  left_first = λ w left right e. left_first nodes root w left right e (are_kids nodes tree w left right e);
  right_first = λ w left right e. right_first nodes root w left right e (are_kids nodes tree w left right e);
  parent = within_parent nodes root;
  both = not_in_both nodes root;
  cases = apart_cases nodes root;
  kid = apart_kid nodes root;
  sibling = apart_sibling nodes root;
  inside = within_is_apart nodes root;
}
  where
    root : IsRooted nodes
    root = rooted nodes tree

-- ---- owners
found_node : (p : Program) (i : Itag) (o : Option Node) {other : Option Node} → other ≡ o → found_owns p i o ≡ true
    → (node : Node) × (other ≡ Some node) × (node_owns p i node ≡ true)
found_node p i None same e = cc
found_node p i (Some node) same e = (node, same, e)

pub itags_are_owned : ItagsAreOwned
itags_are_owned p nodes i valid lt =
    let one = valid.one_owner i lt in
    let first = counted_at (node_owns p i) nodes one in
    let found = position_passes (node_owns p i) nodes first.0 first.1 in
    record {
      owner = first.0;
      is = first.1;
      there = slice_get_within nodes first.0 found.0 found.1;
      alone = λ w. (
        (λ owned. (let node = found_node p i (slice_get nodes w) refl owned in position_of_one (node_owns p i) nodes w node.0 one node.1 node.2)),
        (λ is. (let at = position_passes (node_owns p i) nodes w is in ap (found_owns p i) at.1 ∙ at.2)),
      );
    }
