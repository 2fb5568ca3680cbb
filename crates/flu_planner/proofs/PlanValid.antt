-- A greedy plan is valid for its job.
use Rattle.std.proofs.Common.{◌≡◌, ◌<◌, ◌≤◌, ◌+◌, ℕ, zero, suc, true, false, cond, inl, inr, Option}
use Rattle.std.proofs.Common.{Some, None, List, [], ◌++◌, refl, sym, ap, subst, ◌∙◌, arith}
use Rattle.std.specs.Prelude.{count_by, Contains}
use Rattle.std.specs.List.{list_any}
use Rattle.std.proofs.lemmas.Bool.{cases_lt, cases_eq, or_left, or_right, true≢false}
use Rattle.std.proofs.lemmas.List.{append-nil}
use Rattle.std.proofs.lemmas.List.Elements.{Contains-append_left, Contains-append_right}
use Rattle.std.proofs.lemmas.List.Sums.{sum_by-cons, sum_by-append}
use Rattle.flu_lemmas.proofs.Tests.{false_if_not}
use Rattle.flu_model.specs.declared.jobs.Program.{Program}
use Rattle.flu_model.specs.declared.plans.Node.{Node}
use Rattle.flu_model.specs.Itags.{count_of_itags}
use Rattle.flu_model.specs.Owners.{matches, node_owns, found_owns, owns, is_within, are_related}
use Rattle.flu_model.specs.Validity.{IsValid}
use Rattle.flu_planner.specs.Graphs.{dependencies}
use Rattle.flu_planner.specs.Greedy.{Tree, Leaf, Inner, IsGreedy}
use Rattle.flu_planner.specs.Plans.{all_itags, pred_of, node_of, size, nodes_from, IsGreedyPlan}
use Rattle.flu_lemmas.proofs.Places.{slice_get-within}
use Rattle.flu_lemmas.specs.Counting.{times}
use Rattle.flu_lemmas.proofs.Counting.{times_if_contained, contained_if_times, times_append}
use Rattle.flu_planner.proofs.TreeParts.{parted_times, parted_apart}
use Rattle.flu_planner.proofs.TreeItags.{owned_in, AreOnce, parts_once, owned_times, owned_is_given, all_once, all_within, all_have}
use Rattle.flu_planner.proofs.PlanTags.{number}
use Rattle.flu_planner.proofs.PlanNodes.{count_of_nodes, IsPlaced, root_is_placed, left_is_placed, right_is_placed}
use Rattle.flu_planner.proofs.PlanNodes.{within_root, node_owns_is, owned_is_found, AreOfJob, found_is_owned, owned_by_node}

-- ---- each itag has one owner
counted_root : (p : Program) (w : ℕ) (own : List ℕ) (kids : Option (ℕ × ℕ)) (i : ℕ) → i < count_of_itags p → AreOfJob p own → times i own ≤ 1
    → cond (node_owns p (number i) (node_of p w own kids)) 1 0 ≡ times i own
counted_root p w own kids i in_job all few =
    elim (cases_lt 0 (times i own)) [
      | inl some ↦
          (let there = contained_if_times i own (omega (arith, some)) in
          ap (λ b. cond b 1 0) (node_owns_is p w own kids i ∙ owned_is_found p i own there) ∙ omega (arith, few, some))
      | inr none ↦
          ap (λ b. cond b 1 0) (node_owns_is p w own kids i
          ∙ false_if_not (list_any (λ j. matches p (pred_of p j) (number i)) own)
          (λ found. (let some = times_if_contained i own (found_is_owned p i own in_job all found) in omega (arith, some, none))))
          ∙ omega (arith, none)
    ]

counted : (p : Program) (w : ℕ) (t : Tree) (i : ℕ) → i < count_of_itags p → AreOfJob p (owned_in t) → times i (owned_in t) ≤ 1
    → count_by (node_owns p (number i)) (nodes_from p w t) ≡ times i (owned_in t)
counted p w (Leaf own) i in_job all few =
    let root = node_of p w own None in
    let step = sum_by-cons (λ n. cond (node_owns p (number i) n) 1 0) root [] in
    let here = counted_root p w own None i in_job all few in
    omega (arith, step, here)
counted p w (Inner own left right) i in_job all few =
    let kids : Option (ℕ × ℕ) = Some (w + 1, w + 1 + size left) in
    let root = node_of p w own kids in
    let ls = nodes_from p (w + 1) left in
    let rs = nodes_from p (w + 1 + size left) right in
    let step = sum_by-cons (λ n. cond (node_owns p (number i) n) 1 0) root (ls ++ rs) in
    let split = sum_by-append (λ n. cond (node_owns p (number i) n) 1 0) ls rs in
    let first = times_append i own (owned_in left ++ owned_in right) in
    let second = times_append i (owned_in left) (owned_in right) in
    let here = counted_root p w own kids i in_job (λ j there. all j (Contains-append_left own (owned_in left ++ owned_in right) j there))
    (omega (arith, few, first)) in
    let one = counted p (w + 1) left i in_job (λ j there. all j (Contains-append_right own (owned_in left ++ owned_in right) j
    (Contains-append_left (owned_in left) (owned_in right) j there))) (omega (arith, few, first, second)) in
    let two = counted p (w + 1 + size left) right i in_job (λ j there. all j
    (Contains-append_right own (owned_in left ++ owned_in right) j (Contains-append_right (owned_in left) (owned_in right) j there)))
    (omega (arith, few, first, second)) in
    omega (arith, step, split, first, second, here, one, two)

-- ---- the itags of unrelated nodes are independent
unrelated : (nodes : List Node) (a b : ℕ) → are_related nodes a b ≡ false → is_within nodes a b ≡ true → ⊥
unrelated nodes a b e within = true≢false (sym (or_left (is_within nodes a b) (is_within nodes b a) within) ∙ e)

unrelated_back : (nodes : List Node) (a b : ℕ) → are_related nodes a b ≡ false → is_within nodes b a ≡ true → ⊥
unrelated_back nodes a b e within = true≢false (sym (or_right (is_within nodes a b) (is_within nodes b a) within) ∙ e)

module _ (p : Program) (rates : List ℕ) (nodes : List Node) where
  independent : (depth : ℕ) (itags : List ℕ) (w : ℕ) (t : Tree) → IsGreedy (dependencies p) rates depth itags t → AreOnce itags → AreOfJob p itags
      → IsPlaced p nodes w t →
      (a b i j : ℕ) → w ≤ a → a < w + size t → w ≤ b → b < w + size t → i < count_of_itags p → j < count_of_itags p →
      owns p nodes a (number i) ≡ true → owns p nodes b (number j) ≡ true → are_related nodes a b ≡ false → dependencies p i j ≡ false
  independent depth itags w (Leaf own) greedy once all at a b i j la ha lb hb in_i in_j one two apart =
      let same : w ≡ a = omega (arith, la, ha) in
      absurd (unrelated nodes a b apart (subst (λ (u : ℕ). is_within nodes u b ≡ true) same (within_root p nodes w (Leaf own) at b lb hb)))
  independent zero itags w (Inner own left right) greedy once all at a b i j la ha lb hb in_i in_j one two apart = absurd greedy
  independent (suc depth) itags w (Inner own left right) greedy once all at a b i j la ha lb hb in_i in_j one two apart =
      let lefts = greedy.0 in
      let rights = greedy.1 in
      let parting = greedy.2 in
      let few = parts_once (dependencies p) rates itags own lefts rights once parting in
      let in_lefts : AreOfJob p lefts = λ k there.
      (let parts = parted_times (dependencies p) rates itags own lefts rights once parting k in
      let some = times_if_contained k lefts there in
      all k (contained_if_times k itags (omega (arith, parts, some)))) in
      let in_rights : AreOfJob p rights = λ k there.
      (let parts = parted_times (dependencies p) rates itags own lefts rights once parting k in
      let some = times_if_contained k rights there in
      all k (contained_if_times k itags (omega (arith, parts, some)))) in
      let at_left = left_is_placed p nodes w own left right at in
      let at_right = right_is_placed p nodes w own left right at in
      let of_left : (v k : ℕ) → w + 1 ≤ v → v < w + 1 + size left → k < count_of_itags p → owns p nodes v (number k) ≡ true → Contains lefts k =
      λ v k lo hi in_k owned.
      owned_is_given (dependencies p) rates depth lefts left greedy.3 few.0 k
      (owned_by_node p nodes (w + 1) left at_left v k lo hi in_k
      (λ x there. in_lefts x (owned_is_given (dependencies p) rates depth lefts left greedy.3 few.0 x there)) owned) in
      let of_right : (v k : ℕ) → w + 1 + size left ≤ v → v < w + 1 + size left + size right → k < count_of_itags p → owns p nodes v
      (number k) ≡ true → Contains rights k = λ v k lo hi in_k owned.
      owned_is_given (dependencies p) rates depth rights right greedy.4 few.1 k
      (owned_by_node p nodes (w + 1 + size left) right at_right v k lo hi in_k
      (λ x there. in_rights x (owned_is_given (dependencies p) rates depth rights right greedy.4 few.1 x there)) owned) in
      elim (cases_eq w a) [
        | inl same ↦ absurd (unrelated nodes a b apart (subst (λ (u : ℕ). is_within nodes u b ≡ true) same
            (within_root p nodes w (Inner own left right) at b lb hb)))
        | inr a_below ↦ elim (cases_eq w b) [
          | inl same ↦ absurd (unrelated_back nodes a b apart (subst (λ (u : ℕ). is_within nodes u a ≡ true) same
              (within_root p nodes w (Inner own left right) at a la ha)))
          | inr b_below ↦ elim (cases_lt a (w + 1 + size left)) [
            | inl a_left ↦ elim (cases_lt b (w + 1 + size left)) [
              | inl b_left ↦
                  independent depth lefts (w + 1) left greedy.3 few.0 in_lefts at_left a b i j (omega (arith, la, a_below)) a_left
                  (omega (arith, lb, b_below)) b_left in_i in_j one two apart
              | inr b_right ↦
                  (parted_apart (dependencies p) rates itags own lefts rights once parting i j
                  (of_left a i (omega (arith, la, a_below)) a_left in_i one)
                  (of_right b j b_right (omega (arith, hb)) in_j two)).0
            ]
            | inr a_right ↦ elim (cases_lt b (w + 1 + size left)) [
              | inl b_left ↦
                  (parted_apart (dependencies p) rates itags own lefts rights once parting j i
                  (of_left b j (omega (arith, lb, b_below)) b_left in_j two)
                  (of_right a i a_right (omega (arith, ha)) in_i one)).1
              | inr b_right ↦
                  independent depth rights (w + 1 + size left) right greedy.4 few.1 in_rights at_right a b i j a_right (omega (arith, ha)) b_right
                  (omega (arith, hb)) in_i in_j one two apart
            ]
          ]
        ]
      ]

-- the nodes of a greedy tree of all itags
tree_is_valid : (p : Program) (rates : List ℕ) (depth : ℕ) (t : Tree) → IsGreedy (dependencies p) rates depth (all_itags p) t → IsValid p (nodes_from p 0 t)
tree_is_valid p rates depth t greedy =
    let nodes = nodes_from p 0 t in
    let same : nodes ++ [] ≡ nodes = append-nil nodes in
    let at : IsPlaced p nodes 0 t = subst (λ (ns : List Node). IsPlaced p ns 0 t) same (root_is_placed p t) in
    let long = count_of_nodes p 0 t in
    let owned : AreOfJob p (owned_in t) = λ i there. all_within p i (owned_is_given (dependencies p) rates depth (all_itags p) t greedy (all_once p) i there) in
    record {
      one_owner = λ i in_job.
          (let all = owned_times (dependencies p) rates depth (all_itags p) t greedy (all_once p) i.0 in
          let once = all_have p i.0 in_job in
          counted p 0 t i.0 in_job owned (omega (arith, all, once)) ∙ all ∙ once);
      independent = λ a b i j in_i in_j one two apart.
          (let ha = slice_get-within (found_owns p i) refl nodes a one in
          let hb = slice_get-within (found_owns p j) refl nodes b two in
          independent p rates nodes depth (all_itags p) 0 t greedy (all_once p) (all_within p) at a b i.0 j.0
          (omega arith) (omega (arith, ha, long)) (omega arith) (omega (arith, hb, long)) in_i in_j one two apart);
    }

pub greedy_is_valid : (p : Program) (rates : List ℕ) (depth : ℕ) (nodes : List Node) → IsGreedyPlan p rates depth nodes → IsValid p nodes
greedy_is_valid p rates depth nodes plan = subst (λ (ns : List Node). IsValid p ns) (sym plan.nodes_of_tree) (tree_is_valid p rates depth plan.tree plan.greedy)
