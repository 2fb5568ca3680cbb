-- The nodes of a greedy plan keep the rules of plans.
use Rattle.std.proofs.Common.{◌≡◌, ◌<◌, ◌≤◌, ◌+◌, ◌^◌, ℕ, zero, suc, Bool, true, false, Some, None, List, [], ◌∷◌}
use Rattle.std.proofs.Common.{◌++◌, map, length, refl, sym, ap, subst, ◌∙◌, arith, append_assoc, length-append}
use Rattle.std.specs.Prelude.{nat_lt, nat_le, ◌==◌, ◌||◌, not, sum_by}
use Rattle.std.specs.List.{list_all, list_any, range_with_len}
use Rattle.std.specs.Fmt.{decimal}
use Rattle.std.proofs.lemmas.Fmt.{decimal_injective}
use Rattle.std.proofs.lemmas.List.{append-nil, length-map, map-append}
use Rattle.std.proofs.lemmas.List.Sums.{sum_by-cons, sum_by-append}
use Rattle.flu_lemmas.proofs.Tests.{and_left, and_right, both, true_eq, le_true, false_if_not}
use Rattle.flu_lemmas.proofs.Searches.{eq_true}
use Rattle.flu_lemmas.proofs.Ranges.{range_append}
use Rattle.flu_model.specs.declared.events.Itag.{Itag}
use Rattle.flu_model.specs.declared.jobs.Program.{Program}
use Rattle.flu_model.specs.declared.plans.Pred.{Pred}
use Rattle.flu_model.specs.declared.plans.Node.{Node}
use Rattle.flu_model.specs.Contents.{key_count}
use Rattle.flu_model.specs.Itags.{itags, count_of_itags, tag_of_itag}
use Rattle.flu_model.specs.Owners.{is_keyed}
use Rattle.flu_model.specs.PlanRules.{are_subtrees, is_tree, depths_below, count_of_predicates, are_small_keys}
use Rattle.flu_model.specs.Rules.{are_distinct, is_same_text, tag_fits}
use Rattle.flu_plan.specs.Kept.{KeepsRules}
use Rattle.flu_planner.specs.Graphs.{Graph, dependencies}
use Rattle.flu_planner.specs.Greedy.{Tree, Leaf, Inner, IsGreedy}
use Rattle.flu_planner.specs.Plans.{all_itags, own_keys, pred_of, name_of, node_of, size, nodes_from, IsGreedyPlan}
use Rattle.flu_planner.proofs.TreeItags.{owned_in, AreOnce, owned_times, owned_is_given, all_once, all_within, few_numbers}
use Rattle.flu_planner.proofs.PlanTags.{number}
use Rattle.flu_planner.proofs.PlanNodes.{count_of_nodes, AreOfJob, each_pred}

-- ---- the tree
-- the nodes of a tree before others
grouped_nodes : (p : Program) (w : ℕ) (left right : Tree) (rest : List Node)
    → (nodes_from p (w + 1) left ++ nodes_from p (w + 1 + size left) right) ++ rest ≡ nodes_from p
    (w + 1) left ++ (nodes_from p (w + 1 + size left) right ++ rest)
grouped_nodes p w left right rest = append_assoc (nodes_from p (w + 1) left) (nodes_from p (w + 1 + size left) right) rest

subtrees_of : (p : Program) (w : ℕ) (t : Tree) (wanted : List ℕ) (rest : List Node) → are_subtrees (w + size t) wanted rest ≡ true
    → are_subtrees w (w ∷ wanted) (nodes_from p w t ++ rest) ≡ true
subtrees_of p w (Leaf own) wanted rest e = both (w == w) (are_subtrees (w + 1) wanted rest) (eq_true w w refl) e
subtrees_of p w (Inner own left right) wanted rest e =
    let v = w + 1 + size left in
    let ends : v + size right ≡ w + size (Inner own left right) = omega arith in
    both (w == w) _ (eq_true w w refl)
    (ap (are_subtrees (w + 1) ((w + 1) ∷ v ∷ wanted)) (grouped_nodes p w left right rest)
    ∙ subtrees_of p (w + 1) left (v ∷ wanted) (nodes_from p v right ++ rest)
    (subtrees_of p v right wanted rest (ap (λ n. are_subtrees n wanted rest) ends ∙ e)))

pub nodes_are_tree : (p : Program) (t : Tree) → is_tree (nodes_from p 0 t) ≡ true
nodes_are_tree p t = ap (are_subtrees 0 (0 ∷ [])) (sym (append-nil (nodes_from p 0 t))) ∙ subtrees_of p 0 t [] [] refl

-- ---- the depth
abbrev is_few : ℕ → Bool
is_few d = nat_le d 6

shallow_from : (p : Program) (g : Graph) (rates : List ℕ) (depth : ℕ) (itags : List ℕ) (w : ℕ) (t : Tree) (d : ℕ) (wanted : List ℕ) (rest : List Node)
    → IsGreedy g rates depth itags t → d + depth ≤ 6 → list_all is_few (depths_below wanted rest) ≡ true
    → list_all is_few (depths_below (d ∷ wanted) (nodes_from p w t ++ rest)) ≡ true
shallow_from p g rates depth itags w (Leaf own) d wanted rest greedy le e = both (nat_le d 6) _ (le_true d 6 (omega (arith, le))) e
shallow_from p g rates zero itags w (Inner own left right) d wanted rest greedy le e = absurd greedy
shallow_from p g rates (suc depth) itags w (Inner own left right) d wanted rest greedy le e =
    let v = w + 1 + size left in
    both (nat_le d 6) _ (le_true d 6 (omega (arith, le)))
    (ap (λ ns. list_all is_few (depths_below ((d + 1) ∷ (d + 1) ∷ wanted) ns)) (grouped_nodes p w left right rest)
    ∙ shallow_from p g rates depth greedy.0 (w + 1) left (d + 1) ((d + 1) ∷ wanted) (nodes_from p v right ++ rest) greedy.3 (omega (arith, le))
    (shallow_from p g rates depth greedy.1 v right (d + 1) wanted rest greedy.4 (omega (arith, le)) e))

-- ---- how many nodes
most : ℕ → ℕ
most zero = 1
most (suc depth) = 1 + most depth + most depth

most_more : (d e : ℕ) → d ≤ e → most d ≤ most e
unfolding most
most_more zero zero le = omega arith
most_more zero (suc e) le = omega arith
most_more (suc d) zero le = absurd (omega arith)
most_more (suc d) (suc e) le = let rest = most_more d e (omega arith) in omega (arith, rest)

most_is : most 6 ≡ 127
unfolding most
most_is = refl

size_within : (g : Graph) (rates : List ℕ) (depth : ℕ) (itags : List ℕ) (t : Tree) → IsGreedy g rates depth itags t → size t ≤ most depth
unfolding most
size_within g rates zero itags (Leaf own) greedy = omega arith
size_within g rates (suc depth) itags (Leaf own) greedy = omega arith
size_within g rates zero itags (Inner own left right) greedy = absurd greedy
size_within g rates (suc depth) itags (Inner own left right) greedy =
    let one = size_within g rates depth greedy.0 left greedy.3 in
    let two = size_within g rates depth greedy.1 right greedy.4 in
    omega (arith, one, two)

pub few_nodes : (g : Graph) (rates : List ℕ) (depth : ℕ) (itags : List ℕ) (t : Tree) → depth ≤ 6 → IsGreedy g rates depth itags t → size t ≤ 127
few_nodes g rates depth itags t le greedy =
    let within = size_within g rates depth itags t greedy in
    let more = most_more depth 6 le in
    let is = most_is in
    omega (arith, within, more, is)

-- ---- names
same_texts : (a b : List ℕ) → is_same_text a b ≡ true → a ≡ b
same_texts [] [] e = refl
same_texts [] (y ∷ ys) e = cc
same_texts (x ∷ xs) [] e = cc
same_texts (x ∷ xs) (y ∷ ys) e =
    let first : x ≡ y = true_eq x y (and_left (x == y) _ e) in
    let rest : xs ≡ ys = same_texts xs ys (and_right (x == y) _ e) in
    λ i. first i ∷ rest i

same_names : (v w : ℕ) → v < 2 ^ 64 → w < 2 ^ 64 → is_same_text (name_of v) (name_of w) ≡ true → v ≡ w
same_names v w lv lw e = decimal_injective v w lv lw (same_texts (decimal v) (decimal w) e)

abbrev name : Node → List ℕ
name node = node.name

names_are : (p : Program) (w : ℕ) (t : Tree) → map name (nodes_from p w t) ≡ map name_of (range_with_len w (size t))
names_are p w (Leaf own) = refl
names_are p w (Inner own left right) =
    let more : size (Inner own left right) ≡ suc (size left + size right) = omega arith in
    ap (λ l. name_of w ∷ l)
    (map-append name (nodes_from p (w + 1) left) (nodes_from p (w + 1 + size left) right)
    ∙ ap (λ l. l ++ map name (nodes_from p (w + 1 + size left) right)) (names_are p (w + 1) left)
    ∙ ap (λ l. map name_of (range_with_len (w + 1) (size left)) ++ l) (names_are p (w + 1 + size left) right)
    ∙ sym (map-append name_of (range_with_len (w + 1) (size left)) (range_with_len (w + 1 + size left) (size right)))
    ∙ ap (map name_of) (sym (range_append (w + 1) (size left) (size right))))
    ∙ ap (λ n. map name_of (range_with_len w n)) (sym more)

not_among : (w lo n : ℕ) → w < lo → lo + n ≤ 2 ^ 64 → list_any (is_same_text (name_of w)) (map name_of (range_with_len lo n)) ≡ false
not_among w lo zero lt le = refl
not_among w lo (suc n) lt le =
    ap (λ b. b || list_any (is_same_text (name_of w)) (map name_of (range_with_len (lo + 1) n)))
    (false_if_not (is_same_text (name_of w) (name_of lo)) (λ e. (let same = same_names w lo (omega arith) (omega arith) e in omega (arith, same, lt))))
    ∙ not_among w (lo + 1) n (omega arith) (omega arith)

names_differ : (lo n : ℕ) → lo + n ≤ 2 ^ 64 → are_distinct is_same_text (map name_of (range_with_len lo n)) ≡ true
names_differ lo zero le = refl
names_differ lo (suc n) le =
    both (not (list_any (is_same_text (name_of lo)) (map name_of (range_with_len (lo + 1) n)))) _
    (ap not (not_among lo (lo + 1) n (omega arith) (omega arith))) (names_differ (lo + 1) n (omega arith))

-- ---- predicates
count_of_preds : Node → ℕ
count_of_preds node = length node.preds

preds_are : (p : Program) (w : ℕ) (t : Tree) → sum_by count_of_preds (nodes_from p w t) ≡ length (owned_in t)
unfolding count_of_preds
preds_are p w (Leaf own) =
    let root : Node = node_of p w own None in
    let step : sum_by count_of_preds (root ∷ []) ≡ count_of_preds root + 0 = sum_by-cons count_of_preds root [] in
    let long : length (map (pred_of p) own) ≡ length own = length-map own (pred_of p) in
    omega (arith, step, long)
preds_are p w (Inner own left right) =
    let root : Node = node_of p w own (Some (w + 1, w + 1 + size left)) in
    let ls = nodes_from p (w + 1) left in
    let rs = nodes_from p (w + 1 + size left) right in
    let step = sum_by-cons count_of_preds root (ls ++ rs) in
    let split = sum_by-append count_of_preds ls rs in
    let long : length (map (pred_of p) own) ≡ length own = length-map own (pred_of p) in
    let one = preds_are p (w + 1) left in
    let two = preds_are p (w + 1 + size left) right in
    let first : length (own ++ (owned_in left ++ owned_in right)) ≡ length own + length (owned_in left ++ owned_in right) =
    length-append own (owned_in left ++ owned_in right) in
    let second : length (owned_in left ++ owned_in right) ≡ length (owned_in left) + length (owned_in right) = length-append (owned_in left) (owned_in right) in
    omega (arith, step, split, long, one, two, first, second)

count_is : (p : Program) (t : Tree) → count_of_predicates (nodes_from p 0 t) ≡ length (owned_in t)
unfolding count_of_preds
count_is p t = preds_are p 0 t

-- ---- keys
small_own_key : (keyed : Bool) (key : ℕ) → nat_lt key key_count ≡ true → are_small_keys (own_keys keyed key) ≡ true
small_own_key true key e = e
small_own_key false key e = refl

-- the tags of a job's itags are those of declared kinds, with keys in range
abbrev pub TagsFit : Type 0
TagsFit = (p : Program) (i : Itag) → i.0 < count_of_itags p → tag_fits p.kinds (tag_of_itag p i) ≡ true

small_keys : TagsFit → (p : Program) (i : ℕ) → i < count_of_itags p → are_small_keys (pred_of p i).keys ≡ true
small_keys fits p i lt =
    let t = tag_of_itag p (number i) in
    small_own_key (is_keyed p.kinds t.kind) t.key (and_right (nat_lt t.kind (length p.kinds)) (nat_lt t.key key_count) (fits p (number i) lt))

-- ---- the whole
tree_keeps_rules : TagsFit → (p : Program) (rates : List ℕ) (depth : ℕ) (t : Tree) → depth ≤ 6 → IsGreedy (dependencies p) rates depth (all_itags p) t
    → KeepsRules (nodes_from p 0 t)
tree_keeps_rules fits p rates depth t le greedy =
    let g = dependencies p in
    let itags = all_itags p in
    let nodes = nodes_from p 0 t in
    let few = few_nodes g rates depth itags t le greedy in
    let long = count_of_nodes p 0 t in
    let same = append-nil nodes in
    let once : AreOnce (owned_in t) = λ i. (let all = owned_times g rates depth itags t greedy (all_once p) i in let one =
    all_once p i in omega (arith, all, one)) in
    let owned : AreOfJob p (owned_in t) = λ i there. all_within p i (owned_is_given g rates depth itags t greedy (all_once p) i there) in
    record {
      one_tree = nodes_are_tree p t;
      own_names = ap (are_distinct is_same_text) (names_are p 0 t) ∙ names_differ 0 (size t) (omega (arith, few));
      few_nodes = omega (arith, few, long);
      few_predicates = (let count = count_is p t in let number = few_numbers (count_of_itags p) (owned_in t) once owned in let all =
          p.few_itags in omega (arith, count, number, all));
      shallow = ap (λ ns. list_all is_few (depths_below (0 ∷ []) ns)) (sym same)
          ∙ shallow_from p g rates depth itags 0 t 0 [] [] greedy (omega (arith, le)) refl;
      small_keys = each_pred p (λ (pred : Pred). are_small_keys pred.keys) (small_keys fits p) 0 t owned;
    }

pub greedy_keeps_rules : TagsFit → (p : Program) (rates : List ℕ) (depth : ℕ) (nodes : List Node) → depth ≤ 6 → IsGreedyPlan p rates depth nodes
    → KeepsRules nodes
greedy_keeps_rules fits p rates depth nodes le plan =
    subst (λ (ns : List Node). KeepsRules ns) (sym plan.nodes_of_tree) (tree_keeps_rules fits p rates depth plan.tree le plan.greedy)
