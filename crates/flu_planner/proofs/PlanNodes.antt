-- The nodes of a tree in preorder: where they stand, which is the parent of which, and what they own.
use Rattle.std.proofs.Common.{◌≡◌, ◌<◌, ◌≤◌, ◌+◌, ℕ, zero, suc, Bool, true, false, inl, inr, Option, Some, None, List, []}
use Rattle.std.proofs.Common.{◌∷◌, ◌++◌, map, length, refl, sym, ap, subst, ◌∙◌, arith, append_assoc, length-append}
use Rattle.std.specs.Prelude.{◌==◌, ◌||◌, Contains}
use Rattle.std.specs.List.{list_all, list_any}
use Rattle.std.proofs.lemmas.Bool.{cases_lt, cases_eq, cases_Bool, or_left, or_right, ne_eqb}
use Rattle.std.proofs.lemmas.List.Folds.{list_any-append, list_all-append}
use Rattle.std.proofs.lemmas.List.Elements.{Contains-append_left, Contains-append_right}
use Rattle.flu_lemmas.proofs.Tests.{both, true_eq}
use Rattle.flu_lemmas.proofs.Searches.{eq_true, list_any-map}
use Rattle.flu_lemmas.proofs.Places.{slice_get-behind, position_behind}
use Rattle.flu_model.specs.declared.jobs.Program.{Program}
use Rattle.flu_model.specs.declared.plans.Pred.{Pred}
use Rattle.flu_model.specs.declared.plans.Node.{Node}
use Rattle.flu_model.specs.Itags.{count_of_itags}
use Rattle.flu_model.specs.Owners.{matches, node_owns, found_owns, owns, is_kid, parent_of, climb, is_within}
use Rattle.flu_planner.specs.Greedy.{Tree, Leaf, Inner}
use Rattle.flu_planner.specs.Plans.{pred_of, node_of, size, nodes_from}
use Rattle.flu_lemmas.proofs.Containing.{contains_here, contains_later, contains_cases, contains_none}
use Rattle.flu_planner.proofs.TreeItags.{owned_in}
use Rattle.flu_planner.proofs.PlanTags.{number, matches_itself, matches_only}

-- ---- lists
regroup_left : {X : Type 0} (before left right after : List X) (x : X)
    → before ++ ((x ∷ (left ++ right)) ++ after) ≡ (before ++ x ∷ []) ++ (left ++ (right ++ after))
regroup_left [] left right after x = ap (λ l. x ∷ l) (append_assoc left right after)
regroup_left (y ∷ ys) left right after x = ap (λ l. y ∷ l) (regroup_left ys left right after x)

regroup_right : {X : Type 0} (before left right after : List X) (x : X) → before ++ ((x ∷ (left ++ right)) ++ after) ≡ (before ++ x ∷ left) ++ (right ++ after)
regroup_right [] left right after x = ap (λ l. x ∷ l) (append_assoc left right after)
regroup_right (y ∷ ys) left right after x = ap (λ l. y ∷ l) (regroup_right ys left right after x)

-- ---- the nodes of a tree
pub count_of_nodes : (p : Program) (w : ℕ) (t : Tree) → length (nodes_from p w t) ≡ size t
count_of_nodes p w (Leaf own) = omega arith
count_of_nodes p w (Inner own left right) =
    let one = count_of_nodes p (w + 1) left in
    let two = count_of_nodes p (w + 1 + size left) right in
    let parts : length (nodes_from p (w + 1) left ++ nodes_from p (w + 1 + size left) right) ≡ length (nodes_from p (w + 1) left) + length
    (nodes_from p (w + 1 + size left) right) = length-append (nodes_from p (w + 1) left) (nodes_from p (w + 1 + size left) right) in
    omega (arith, one, two, parts)

pub some_nodes : (t : Tree) → 1 ≤ size t
some_nodes (Leaf own) = omega arith
some_nodes (Inner own left right) = omega arith

abbrev has_kid : ℕ → Node → Bool
has_kid v node = is_kid v node.kids

not_kids : (v a b : ℕ) → (a ≡ v → ⊥) → (b ≡ v → ⊥) → is_kid v (Some (a, b)) ≡ false
not_kids v a b one two = ap (λ c. c || (b == v)) (ne_eqb a v one) ∙ ne_eqb b v two

-- the children of the nodes of a tree are nodes below its root
no_kid_outside : (p : Program) (w : ℕ) (t : Tree) (v : ℕ) → (w < v → v < w + size t → ⊥) → list_any (has_kid v) (nodes_from p w t) ≡ false
no_kid_outside p w (Leaf own) v outside = refl
no_kid_outside p w (Inner own left right) v outside =
    let some_left = some_nodes left in
    let some_right = some_nodes right in
    let here : is_kid v (Some (w + 1, w + 1 + size left)) ≡ false =
    not_kids v (w + 1) (w + 1 + size left) (λ e. outside (omega (arith, e)) (omega (arith, e, some_left)))
    (λ e. outside (omega (arith, e, some_left)) (omega (arith, e, some_right))) in
    ap (λ b. b || list_any (has_kid v) (nodes_from p (w + 1) left ++ nodes_from p (w + 1 + size left) right)) here
    ∙ list_any-append (has_kid v) (nodes_from p (w + 1) left) (nodes_from p (w + 1 + size left) right)
    ∙ ap (λ b. b || list_any (has_kid v) (nodes_from p (w + 1 + size left) right))
    (no_kid_outside p (w + 1) left v (λ lt less. outside (omega (arith, lt)) (omega (arith, less))))
    ∙ no_kid_outside p (w + 1 + size left) right v (λ lt less. outside (omega (arith, lt, some_left)) (omega (arith, less)))

-- the nodes of a tree stand among others, from number w on, and no earlier one has a child below its root
pub record IsPlaced (p : Program) (nodes : List Node) (w : ℕ) (t : Tree) : Type 0 where
  pub before : List Node
  pub after : List Node
  pub is : nodes ≡ before ++ (nodes_from p w t ++ after)
  pub place : length before ≡ w
  pub clear : (v : ℕ) → w < v → v < w + size t → list_any (has_kid v) before ≡ false

pub root_is_placed : (p : Program) (t : Tree) → IsPlaced p (nodes_from p 0 t ++ []) 0 t
root_is_placed p t = record { before = []; after = []; is = refl; place = refl; clear = λ v lt less. refl }

pub placed_within : (p : Program) (nodes : List Node) (w : ℕ) (t : Tree) → IsPlaced p nodes w t → w + size t ≤ length nodes
placed_within p nodes w t at =
    let here = count_of_nodes p w t in
    let one = length-append at.before (nodes_from p w t ++ at.after) in
    let two = length-append (nodes_from p w t) at.after in
    let all : length nodes ≡ length (at.before ++ (nodes_from p w t ++ at.after)) = ap length at.is in
    let place = at.place in
    omega (arith, here, one, two, all, place)

pub left_is_placed : (p : Program) (nodes : List Node) (w : ℕ) (own : List ℕ) (left right : Tree) → IsPlaced p nodes w (Inner own left right)
    → IsPlaced p nodes (w + 1) left
left_is_placed p nodes w own left right at =
    let root = node_of p w own (Some (w + 1, w + 1 + size left)) in
    let some_right = some_nodes right in
    record {
      before = at.before ++ root ∷ [];
      after = nodes_from p (w + 1 + size left) right ++ at.after;
      is = at.is ∙ regroup_left at.before (nodes_from p (w + 1) left) (nodes_from p (w + 1 + size left) right) at.after root;
      place = (let long = length-append at.before (root ∷ []) in let place = at.place in omega (arith, long, place));
      clear = λ v lt less.
          list_any-append (has_kid v) at.before (root ∷ [])
          ∙ ap (λ b. b || list_any (has_kid v) (root ∷ [])) (at.clear v (omega (arith, lt)) (omega (arith, less)))
          ∙ ap (λ b. b || false) (not_kids v (w + 1) (w + 1 + size left) (λ e. omega (arith, e, lt)) (λ e. omega (arith, e, less)));
    }

pub right_is_placed : (p : Program) (nodes : List Node) (w : ℕ) (own : List ℕ) (left right : Tree) → IsPlaced p nodes w (Inner own left right)
    → IsPlaced p nodes (w + 1 + size left) right
right_is_placed p nodes w own left right at =
    let root = node_of p w own (Some (w + 1, w + 1 + size left)) in
    let some_left = some_nodes left in
    record {
      before = at.before ++ root ∷ nodes_from p (w + 1) left;
      after = at.after;
      is = at.is ∙ regroup_right at.before (nodes_from p (w + 1) left) (nodes_from p (w + 1 + size left) right) at.after root;
      place = (let long = length-append at.before (root ∷ nodes_from p (w + 1) left) in let here = count_of_nodes p (w + 1) left in let place =
          at.place in omega (arith, long, here, place));
      clear = λ v lt less.
          list_any-append (has_kid v) at.before (root ∷ nodes_from p (w + 1) left)
          ∙ ap (λ b. b || list_any (has_kid v) (root ∷ nodes_from p (w + 1) left)) (at.clear v (omega (arith, lt)) (omega (arith, less)))
          ∙ ap (λ b. b || list_any (has_kid v) (nodes_from p (w + 1) left))
          (not_kids v (w + 1) (w + 1 + size left) (λ e. omega (arith, e, lt, some_left)) (λ e. omega (arith, e, lt)))
          ∙ no_kid_outside p (w + 1) left v (λ one two. omega (arith, lt, two));
    }

-- ---- parents
root_of : Program → ℕ → Tree → Node
root_of p w (Leaf own) = node_of p w own None
root_of p w (Inner own left right) = node_of p w own (Some (w + 1, w + 1 + size left))

parent_is : (p : Program) (nodes : List Node) (w : ℕ) (own : List ℕ) (left right : Tree) (v : ℕ) → IsPlaced p nodes w (Inner own left right) → w < v
    → v < w + size (Inner own left right) → is_kid v (Some (w + 1, w + 1 + size left)) ≡ true → parent_of nodes v ≡ Some w
parent_is p nodes w own left right v at lt less kid =
    let root = node_of p w own (Some (w + 1, w + 1 + size left)) in
    ap (λ ns. parent_of ns v) at.is
    ∙ position_behind (has_kid v) at.before ((nodes_from p (w + 1) left ++ nodes_from p (w + 1 + size left) right) ++ at.after) root (at.clear v lt less) kid
    ∙ ap Some at.place

pub left_parent : (p : Program) (nodes : List Node) (w : ℕ) (own : List ℕ) (left right : Tree) → IsPlaced p nodes w (Inner own left right)
    → parent_of nodes (w + 1) ≡ Some w
left_parent p nodes w own left right at =
    let some_left = some_nodes left in
    parent_is p nodes w own left right (w + 1) at (omega arith) (omega (arith, some_left)) (or_left (w + 1 == w + 1) _ (eq_true (w + 1) (w + 1) refl))

pub right_parent : (p : Program) (nodes : List Node) (w : ℕ) (own : List ℕ) (left right : Tree) → IsPlaced p nodes w (Inner own left right)
    → parent_of nodes (w + 1 + size left) ≡ Some w
right_parent p nodes w own left right at =
    let v = w + 1 + size left in
    let some_left = some_nodes left in
    let some_right = some_nodes right in
    parent_is p nodes w own left right v at (omega (arith, some_left)) (omega (arith, some_right)) (or_right (w + 1 == v) (v == v) (eq_true v v refl))

-- ---- climbing
abbrev is_met : ℕ → ℕ → List Node → Option ℕ → Bool
is_met w n nodes at = list_any (λ u. u == w) (climb n nodes at)

met_more : (w n m : ℕ) (nodes : List Node) (at : Option ℕ) → n ≤ m → is_met w n nodes at ≡ true → is_met w m nodes at ≡ true
met_more w zero m nodes at le e = cc
met_more w (suc n) zero nodes at le e = absurd (omega arith)
met_more w (suc n) (suc m) nodes None le e = cc
met_more w (suc n) (suc m) nodes (Some v) le e =
    elim (cases_Bool (v == w)) [
      | inl here ↦ or_left (v == w) (is_met w m nodes (parent_of nodes v)) here
      | inr there ↦ or_right (v == w) (is_met w m nodes (parent_of nodes v))
          (met_more w n m nodes (parent_of nodes v) (omega arith) (sym (ap (λ b. b || is_met w n nodes (parent_of nodes v)) there) ∙ e))
    ]

met_here : (w n : ℕ) (nodes : List Node) → is_met w (suc n) nodes (Some w) ≡ true
met_here w n nodes = or_left (w == w) (is_met w n nodes (parent_of nodes w)) (eq_true w w refl)

met_up : (x w n : ℕ) (nodes : List Node) (at : Option ℕ) → parent_of nodes x ≡ Some w → is_met x n nodes at ≡ true → is_met w (suc n) nodes at ≡ true
met_up x w zero nodes at up e = cc
met_up x w (suc n) nodes None up e = cc
met_up x w (suc n) nodes (Some v) up e =
    elim (cases_Bool (v == x)) [
      | inl here ↦ or_right (v == w) (is_met w (suc n) nodes (parent_of nodes v))
          (ap (is_met w (suc n) nodes) (ap (parent_of nodes) (true_eq v x here) ∙ up) ∙ met_here w n nodes)
      | inr there ↦ or_right (v == w) (is_met w (suc n) nodes (parent_of nodes v))
          (met_up x w n nodes (parent_of nodes v) up (sym (ap (λ b. b || is_met x n nodes (parent_of nodes v)) there) ∙ e))
    ]

root_is_met : (p : Program) (nodes : List Node) (w : ℕ) (t : Tree) → IsPlaced p nodes w t → (v : ℕ) → w ≤ v → v < w + size t
    → is_met w (size t) nodes (Some v) ≡ true
root_is_met p nodes w (Leaf own) at v le lt = let same : v ≡ w = omega (arith, le, lt) in
    or_left (v == w) (is_met w 0 nodes (parent_of nodes v)) (eq_true v w same)
root_is_met p nodes w (Inner own left right) at v le lt =
    elim (cases_eq w v) [
      | inl same ↦ subst (λ (u : ℕ). is_met w (size (Inner own left right)) nodes (Some u) ≡ true) same
          (met_more w 1 (size (Inner own left right)) nodes (Some w) (omega arith) (met_here w 0 nodes))
      | inr other ↦ elim (cases_lt v (w + 1 + size left)) [
        | inl in_left ↦
            met_more w (suc (size left)) (size (Inner own left right)) nodes (Some v) (omega arith)
            (met_up (w + 1) w (size left) nodes (Some v) (left_parent p nodes w own left right at)
            (root_is_met p nodes (w + 1) left (left_is_placed p nodes w own left right at) v (omega (arith, le, other)) in_left))
        | inr in_right ↦
            met_more w (suc (size right)) (size (Inner own left right)) nodes (Some v) (omega arith)
            (met_up (w + 1 + size left) w (size right) nodes (Some v) (right_parent p nodes w own left right at)
            (root_is_met p nodes (w + 1 + size left) right (right_is_placed p nodes w own left right at) v in_right (omega (arith, lt))))
      ]
    ]

-- each node of a tree is within its root
pub within_root : (p : Program) (nodes : List Node) (w : ℕ) (t : Tree) → IsPlaced p nodes w t → (v : ℕ) → w ≤ v → v < w + size t → is_within nodes w v ≡ true
within_root p nodes w t at v le lt =
    let long = placed_within p nodes w t at in
    met_more w (size t) (length nodes) nodes (Some v) (omega (arith, long)) (root_is_met p nodes w t at v le lt)

-- ---- owners
pub node_owns_is : (p : Program) (w : ℕ) (own : List ℕ) (kids : Option (ℕ × ℕ)) (i : ℕ)
    → node_owns p (number i) (node_of p w own kids) ≡ list_any (λ j. matches p (pred_of p j) (number i)) own
node_owns_is p w own kids i = list_any-map (λ pred. matches p pred (number i)) (pred_of p) own

pub owned_is_found : (p : Program) (i : ℕ) (own : List ℕ) → Contains own i → list_any (λ j. matches p (pred_of p j) (number i)) own ≡ true
owned_is_found p i [] there = absurd (contains_none i there)
owned_is_found p i (j ∷ own) there =
    elim (contains_cases j i own there) [
      | inl same ↦ or_left (matches p (pred_of p j) (number i)) _ (subst (λ (k : ℕ). matches p (pred_of p k) (number i) ≡ true) (sym same) (matches_itself p i))
      | inr later ↦ or_right (matches p (pred_of p j) (number i)) _ (owned_is_found p i own later)
    ]

-- these itags are those of the job
abbrev pub AreOfJob : Program → List ℕ → Type 0
AreOfJob p itags = (i : ℕ) → Contains itags i → i < count_of_itags p

pub found_is_owned : (p : Program) (i : ℕ) (own : List ℕ) → i < count_of_itags p → AreOfJob p own
    → list_any (λ j. matches p (pred_of p j) (number i)) own ≡ true → Contains own i
found_is_owned p i [] in_job all e = cc
found_is_owned p i (j ∷ own) in_job all e =
    elim (cases_Bool (matches p (pred_of p j) (number i))) [
      | inl here ↦ subst (λ (k : ℕ). Contains (j ∷ own) k) (matches_only p i j in_job (all j (contains_here j own)) here) (contains_here j own)
      | inr there ↦
          contains_later j i own
          (found_is_owned p i own in_job (λ k inside. all k (contains_later j k own inside))
          (sym (ap (λ b. b || list_any (λ j. matches p (pred_of p j) (number i)) own) there) ∙ e))
    ]

-- node w is the root
root_owns : (p : Program) (nodes : List Node) (i : ℕ) (before after : List Node) (w : ℕ) (own : List ℕ) (kids : Option (ℕ × ℕ))
    → nodes ≡ before ++ (node_of p w own kids ∷ after) → length before ≡ w → owns p nodes w (number i) ≡ list_any (λ j. matches p (pred_of p j) (number i)) own
root_owns p nodes i before after w own kids is place =
    ap (λ ns. owns p ns w (number i)) is
    ∙ ap (λ v. owns p (before ++ (node_of p w own kids ∷ after)) v (number i)) (sym place)
    ∙ ap (found_owns p (number i)) (slice_get-behind before (node_of p w own kids) after)
    ∙ node_owns_is p w own kids i

-- what a node of a tree owns is among the itags of the tree
pub owned_by_node : (p : Program) (nodes : List Node) (w : ℕ) (t : Tree) → IsPlaced p nodes w t → (v i : ℕ) → w ≤ v → v < w + size t → i < count_of_itags p
    → AreOfJob p (owned_in t) → owns p nodes v (number i) ≡ true → Contains (owned_in t) i
owned_by_node p nodes w (Leaf own) at v i le lt in_job all e =
    let same : w ≡ v = omega (arith, le, lt) in
    found_is_owned p i own in_job all (sym (root_owns p nodes i at.before at.after w own None at.is at.place) ∙ ap (λ u. owns p nodes u (number i)) same ∙ e)
owned_by_node p nodes w (Inner own left right) at v i le lt in_job all e =
    elim (cases_eq w v) [
      | inl same ↦
          (let kids = Some (w + 1, w + 1 + size left) in
          let rest = (nodes_from p (w + 1) left ++ nodes_from p (w + 1 + size left) right) ++ at.after in
          Contains-append_left own (owned_in left ++ owned_in right) i
          (found_is_owned p i own in_job (λ j there. all j (Contains-append_left own (owned_in left ++ owned_in right) j there))
          (sym (root_owns p nodes i at.before rest w own kids at.is at.place) ∙ ap (λ u. owns p nodes u (number i)) same ∙ e)))
      | inr other ↦ elim (cases_lt v (w + 1 + size left)) [
        | inl in_left ↦
            Contains-append_right own (owned_in left ++ owned_in right) i
            (Contains-append_left (owned_in left) (owned_in right) i
            (owned_by_node p nodes (w + 1) left (left_is_placed p nodes w own left right at) v i (omega (arith, le, other)) in_left in_job
            (λ j there. all j (Contains-append_right own (owned_in left ++ owned_in right) j
            (Contains-append_left (owned_in left) (owned_in right) j there))) e))
        | inr in_right ↦
            Contains-append_right own (owned_in left ++ owned_in right) i
            (Contains-append_right (owned_in left) (owned_in right) i
            (owned_by_node p nodes (w + 1 + size left) right (right_is_placed p nodes w own left right at) v i in_right (omega (arith, lt)) in_job
            (λ j there. all j (Contains-append_right own (owned_in left ++ owned_in right) j
            (Contains-append_right (owned_in left) (owned_in right) j there))) e))
      ]
    ]

-- ---- a test of all predicates
preds_pass : (p : Program) (test : Pred → Bool) → ((i : ℕ) → i < count_of_itags p → test (pred_of p i) ≡ true) → (own : List ℕ) → AreOfJob p own
    → list_all test (map (pred_of p) own) ≡ true
preds_pass p test pass [] all = refl
preds_pass p test pass (i ∷ own) all =
    both (test (pred_of p i)) _ (pass i (all i (contains_here i own))) (preds_pass p test pass own (λ j there. all j (contains_later i j own there)))

-- what holds of the predicate of each itag of the job holds of all predicates of the nodes
pub each_pred : (p : Program) (test : Pred → Bool) → ((i : ℕ) → i < count_of_itags p → test (pred_of p i) ≡ true) → (w : ℕ) (t : Tree)
    → AreOfJob p (owned_in t) → list_all (λ (node : Node). list_all test node.preds) (nodes_from p w t) ≡ true
each_pred p test pass w (Leaf own) all = both (list_all test (map (pred_of p) own)) true (preds_pass p test pass own all) refl
each_pred p test pass w (Inner own left right) all =
    both (list_all test (map (pred_of p) own)) _ (preds_pass p test pass own
    (λ j there. all j (Contains-append_left own (owned_in left ++ owned_in right) j there)))
    (list_all-append (λ (node : Node). list_all test node.preds) (nodes_from p (w + 1) left) (nodes_from p (w + 1 + size left) right)
    ∙ both (list_all (λ (node : Node). list_all test node.preds) (nodes_from p (w + 1) left)) _
    (each_pred p test pass (w + 1) left (λ j there. all j (Contains-append_right own (owned_in left ++ owned_in right) j
    (Contains-append_left (owned_in left) (owned_in right) j there))))
    (each_pred p test pass (w + 1 + size left) right (λ j there. all j (Contains-append_right own (owned_in left ++ owned_in right) j
    (Contains-append_right (owned_in left) (owned_in right) j there)))))
