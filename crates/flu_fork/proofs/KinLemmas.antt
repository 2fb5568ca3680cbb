-- Whose itags are whose: by the owners in a valid plan, and by how nodes stand to each other.
use Rattle.std.proofs.Common.{◌≡◌, ◌<◌, ℕ, Bool, true, false, Some, None, length, inl, inr, refl, sym, ap, ◌∙◌, arith}
use Rattle.std.specs.Prelude.{◌==◌, ◌||◌, ◌&&◌, not}
use Rattle.std.proofs.lemmas.Bool.{cases_Bool}
use Rattle.flu_lemmas.proofs.Numbers.{same_turns}
use Rattle.flu_lemmas.proofs.Searches.{eq_true}
use Rattle.flu_lemmas.proofs.Tests.{and_left, and_right, false_if_not, not_both, not_true, true_eq}
use Rattle.flu_model.specs.Itags.{count_of_itags}
use Rattle.flu_model.specs.Owners.{is_within}
use Rattle.flu_deps.specs.Owned.{kids_at}
use Rattle.flu_deps.specs.Owners.{IsOwned}
use Rattle.flu_deps.specs.Trees.{IsUnder, IsOrdered, HasSubtrees}
use Rattle.flu_fork.specs.LawsBelow.{LawsBelow}
use Rattle.flu_fork.specs.Settings.{Setting, IsSetting}
use Rattle.flu_fork.specs.Classes.{itag}
use Rattle.flu_fork.specs.Texts.{InOneOf, InNone, InFirst, InSecond, InThird}
use Rattle.flu_fork.specs.Kin.{own_at, below_at, above_at, IsOfNode, IsOfKids, IsOfRoot, ItagsAreOfNodes, ItagsAreOfKids, ItagsAreOfTheRoot}
use Rattle.flu_fork.proofs.Sides.{below_by, above_by, owner_is_below, root_has_all, left_and_right}

-- ---- tests
one_of_three : (whole a b c : Bool) → whole ≡ (a || (b || c)) → (a ≡ true → b ≡ false) → (a ≡ true → c ≡ false) → (b ≡ true → c ≡ false)
    → InOneOf whole a b c
one_of_three whole true true c e ab ac bc = absurd (not_both true refl (ab refl))
one_of_three whole true false true e ab ac bc = absurd (not_both true refl (ac refl))
one_of_three whole true false false e ab ac bc = InFirst e refl refl refl
one_of_three whole false true true e ab ac bc = absurd (not_both true refl (bc refl))
one_of_three whole false true false e ab ac bc = InSecond e refl refl refl
one_of_three whole false false true e ab ac bc = InThird e refl refl refl
one_of_three whole false false false e ab ac bc = InNone e refl refl refl

-- what is over a child, where it is the node or over it, is not the child
over_child : (over same mine : Bool) → (same ≡ true → over ≡ false) → (mine ≡ true → over ≡ true)
    → ((same || over) && not same) ≡ (mine || (over && not mine))
over_child true true mine f g = absurd (not_both true refl (f refl))
over_child false true true f g = absurd (not_both false (g refl) refl)
over_child false true false f g = refl
over_child true false true f g = refl
over_child true false false f g = refl
over_child false false true f g = absurd (not_both false (g refl) refl)
over_child false false false f g = refl

some_number : {a b : ℕ} → Some a ≡ Some b → a ≡ b
some_number e = cc

module _ (laws : LawsBelow) (k : Setting) (ok : IsSetting k) where
  ordered : IsOrdered k.nodes
  ordered = laws.ordered k.nodes ok.one_tree

  subtrees : HasSubtrees k.nodes
  subtrees = laws.subtrees k.nodes ok.one_tree

  owned : (i : ℕ) → i < count_of_itags k.program → IsOwned k.program k.nodes (itag i)
  owned i lt = laws.owned k.program k.nodes (itag i) ok.valid lt

  -- a node owns an itag where it is its owner
  own_by : (w i : ℕ) (lt : i < count_of_itags k.program) → own_at k w i ≡ ((owned i lt).owner == w)
  own_by w i lt =
      let o = owned i lt in
      elim (cases_Bool (o.owner == w)) [
        | inl h ↦ (o.alone w).1 (o.is ∙ ap (λ (v : ℕ). Some v) (true_eq o.owner w h)) ∙ sym h
        | inr h ↦ false_if_not _ (λ mine. not_both _ (eq_true o.owner w (some_number (sym o.is ∙ (o.alone w).0 mine))) h) ∙ sym h
      ]

  below_of_node : (w i : ℕ) (lt : i < count_of_itags k.program) → below_at k w i ≡ is_within k.nodes w (owned i lt).owner
  below_of_node w i lt = below_by k.program k.nodes w i (owned i lt).owner (owned i lt).is

  above_of_node : (w i : ℕ) (lt : i < count_of_itags k.program)
      → above_at k w i ≡ (is_within k.nodes (owned i lt).owner w && not ((owned i lt).owner == w))
  above_of_node w i lt = above_by k.program k.nodes w i (owned i lt).owner (owned i lt).is

  pub above_not_below : (w i : ℕ) → i < count_of_itags k.program → above_at k w i ≡ true → below_at k w i ≡ false
  above_not_below w i lt over =
      false_if_not _ (λ inside.
      (let o = owned i lt in
      let up = sym (above_of_node w i lt) ∙ over in
      let here = ordered.later w o.owner o.there (sym (below_of_node w i lt) ∙ inside) in
      let size = o.there in
      let there = ordered.later o.owner w (omega arith) (and_left _ _ up) in
      not_both _ (eq_true o.owner w (omega arith)) (not_true _ (and_right (is_within k.nodes o.owner w) _ up))))

  pub own_below : (w i : ℕ) → i < count_of_itags k.program → own_at k w i ≡ true → below_at k w i ≡ true
  own_below w i lt mine = owner_is_below laws k ok w i (((owned i lt).alone w).0 mine)

  pub leaf_owns : (w i : ℕ) → i < count_of_itags k.program → kids_at k.nodes w ≡ None → below_at k w i ≡ own_at k w i
  leaf_owns w i lt leaf = below_of_node w i lt ∙ subtrees.leaf w (owned i lt).owner (owned i lt).there leaf ∙ sym (own_by w i lt)

  pub of_node : (w i : ℕ) → i < count_of_itags k.program → IsOfNode k w i
  of_node w i lt = record { owner = (owned i lt).alone w; own = own_below w i lt; leaf = leaf_owns w i lt; above = above_not_below w i lt }

  -- ---- a child
  module _ (w x i : ℕ) (under : IsUnder k.nodes w x) (lt : i < count_of_itags k.program) where
    there : w < length k.nodes
    there = let a = under.there in let b = under.earlier in omega arith

    not_within : is_within k.nodes x w ≡ false
    not_within = false_if_not _ (λ h. (let a = ordered.later x w there h in let b = under.earlier in omega arith))

    own_not_below : own_at k w i ≡ true → below_at k x i ≡ false
    own_not_below mine =
        below_of_node x i lt ∙ ap (is_within k.nodes x) (true_eq (owned i lt).owner w (sym (own_by w i lt) ∙ mine)) ∙ not_within

    -- over the child are its parent and what is over its parent
    above_child : above_at k x i ≡ (own_at k w i || above_at k w i)
    above_child =
        let o = owned i lt in
        let over = is_within k.nodes o.owner w in
        above_of_node x i lt
        ∙ ap (λ b. b && not (o.owner == x)) (ordered.child o.owner w x under ∙ ap (λ b. b || over) (same_turns x o.owner))
        ∙ over_child over (o.owner == x) (o.owner == w)
        (λ same. ap (λ v. is_within k.nodes v w) (true_eq o.owner x same) ∙ not_within)
        (λ mine. ap (λ v. is_within k.nodes v w) (true_eq o.owner w mine) ∙ ordered.itself w there)
        ∙ (λ j. (sym (own_by w i lt) j || sym (above_of_node w i lt) j))

    not_below_child : (own_at k w i || above_at k w i) ≡ true → below_at k x i ≡ false
    not_below_child up = above_not_below x i lt (above_child ∙ up)

  -- ---- two children
  module _ (w left right i : ℕ) (kids : kids_at k.nodes w ≡ Some (left, right)) (lt : i < count_of_itags k.program) where
    under_left : IsUnder k.nodes w left
    under_left = (left_and_right laws k ok w left right kids).first

    under_right : IsUnder k.nodes w right
    under_right = (left_and_right laws k ok w left right kids).second

    apart : below_at k left i ≡ true → below_at k right i ≡ false
    apart inside =
        below_of_node right i lt ∙ subtrees.apart w left right (owned i lt).owner (owned i lt).there kids (sym (below_of_node left i lt) ∙ inside)

    parts : InOneOf (below_at k w i) (own_at k w i) (below_at k left i) (below_at k right i)
    parts =
        one_of_three (below_at k w i) (own_at k w i) (below_at k left i) (below_at k right i)
        (below_of_node w i lt ∙ subtrees.inner w left right (owned i lt).owner (owned i lt).there kids
        ∙ (λ j. (sym (own_by w i lt) j || (sym (below_of_node left i lt) j || sym (below_of_node right i lt) j))))
        (own_not_below w left i under_left lt) (own_not_below w right i under_right lt) apart

    pub of_kids : IsOfKids k w left right i
    of_kids = record {
      parts = parts;
      above_left = above_child w left i under_left lt;
      above_right = above_child w right i under_right lt;
      not_left = not_below_child w left i under_left lt;
      not_right = not_below_child w right i under_right lt;
      below_left = λ inside. elim parts [
        | InNone a b c d ↦ absurd (not_both _ inside c)
        | InFirst a b c d ↦ a
        | InSecond a b c d ↦ a
        | InThird a b c d ↦ a
      ];
      below_right = λ inside. elim parts [
        | InNone a b c d ↦ absurd (not_both _ inside d)
        | InFirst a b c d ↦ a
        | InSecond a b c d ↦ a
        | InThird a b c d ↦ a
      ];
      apart = apart;
    }

  pub of_root : (i : ℕ) → i < count_of_itags k.program → IsOfRoot k i
  of_root i lt =
      let o = owned i lt in
      record {
        below = root_has_all laws k ok i lt;
        above = above_of_node 0 i lt ∙ false_if_not _ (λ h.
            (let size = o.there in
            let le = ordered.later o.owner 0 (omega arith) (and_left _ _ h) in
            not_both _ (eq_true o.owner 0 (omega arith)) (not_true _ (and_right (is_within k.nodes o.owner 0) _ h))));
      }

pub nodes_law : LawsBelow → ItagsAreOfNodes
nodes_law laws k w i ok lt = of_node laws k ok w i lt

pub kids_law : LawsBelow → ItagsAreOfKids
kids_law laws k w left right i ok kids lt = of_kids laws k ok w left right i kids lt

pub root_law : LawsBelow → ItagsAreOfTheRoot
root_law laws k i ok lt = of_root laws k ok i lt
