-- A greedy plan has a text: its predicates name kinds and sources of the job, and its names are names of the language.
use Rattle.std.proofs.Common.{◌≡◌, ◌<◌, ◌≤◌, ◌+◌, ℕ, Bool, true, List, [], ◌∷◌, map, length, refl, sym, subst, ◌∙◌, arith}
use Rattle.std.specs.Prelude.{nat_lt, slice_get, is_some, IsTrue}
use Rattle.std.specs.Fmt.{digits}
use Rattle.std.specs.List.{list_all}
use Rattle.std.proofs.lemmas.Bool.{agree_below_at}
use Rattle.std.proofs.lemmas.List.Folds.{list_all-append}
use Rattle.flu_lemmas.proofs.Tests.{and_left, both, true_lt, lt_true, all_at}
use Rattle.flu_lemmas.proofs.Places.{slice_get-is_some}
use Rattle.flu_model.specs.declared.events.Tag.{Tag}
use Rattle.flu_model.specs.declared.jobs.Source.{Source}
use Rattle.flu_model.specs.declared.jobs.Program.{Program}
use Rattle.flu_model.specs.declared.plans.Node.{Node}
use Rattle.flu_model.specs.Contents.{key_count}
use Rattle.flu_model.specs.Itags.{itags, count_of_itags, tag_of_itag, source_of_itag}
use Rattle.flu_model.specs.Listing.{tag, tags_of_source, itags_of_sources}
use Rattle.flu_model.specs.Owners.{pred_fits, nodes_fit}
use Rattle.flu_names.specs.Names.{is_name}
use Rattle.flu_planner.specs.Graphs.{dependencies}
use Rattle.flu_planner.specs.Greedy.{Tree, Leaf, Inner, IsGreedy}
use Rattle.flu_planner.specs.Plans.{all_itags, pred_of, name_of, size, nodes_from, IsGreedyPlan}
use Rattle.flu_planner.proofs.TreeItags.{owned_in, owned_is_given, all_once, all_within}
use Rattle.flu_planner.proofs.PlanTags.{number}
use Rattle.flu_planner.proofs.PlanNodes.{AreOfJob, each_pred}
use Rattle.flu_planner.proofs.PlanRules.{TagsFit, few_nodes}

-- ---- kinds and sources
of_source : (n b : ℕ) (ts : List Tag) → n < b → list_all (λ (e : Tag × ℕ). nat_lt e.1 b) (map (λ t. (t, n)) ts) ≡ true
of_source n b [] lt = refl
of_source n b (t ∷ ts) lt = both (nat_lt n b) _ (lt_true n b lt) (of_source n b ts lt)

sources_within : (n b : ℕ) (ss : List Source) → n + length ss ≤ b → list_all (λ (e : Tag × ℕ). nat_lt e.1 b) (itags_of_sources n ss) ≡ true
sources_within n b [] le = refl
sources_within n b (s ∷ ss) le =
    list_all-append (λ (e : Tag × ℕ). nat_lt e.1 b) (map (λ t. (t, n)) (tags_of_source s)) (itags_of_sources (n + 1) ss)
    ∙ both (list_all (λ (e : Tag × ℕ). nat_lt e.1 b) (map (λ t. (t, n)) (tags_of_source s))) _ (of_source n b (tags_of_source s) (omega arith))
    (sources_within (n + 1) b ss (omega arith))

pub source_of_job : (p : Program) (i : ℕ) → i < count_of_itags p → source_of_itag p (number i) < length p.sources
source_of_job p i lt =
    true_lt (source_of_itag p (number i)) (length p.sources) (all_at (λ (e : Tag × ℕ). nat_lt e.1 (length p.sources)) (itags p) i (tag 0 0, 0)
    (sources_within 0 (length p.sources) p.sources (omega arith)) lt)

kind_of_job : TagsFit → (p : Program) (i : ℕ) → i < count_of_itags p → (tag_of_itag p (number i)).kind < length p.kinds
kind_of_job fits p i lt =
    let t = tag_of_itag p (number i) in
    true_lt t.kind (length p.kinds) (and_left (nat_lt t.kind (length p.kinds)) (nat_lt t.key key_count) (fits p (number i) lt))

pred_names : TagsFit → (p : Program) (i : ℕ) → i < count_of_itags p → pred_fits p (pred_of p i) ≡ true
pred_names fits p i lt =
    let t = tag_of_itag p (number i) in
    let s = source_of_itag p (number i) in
    both (is_some (slice_get p.kinds t.kind)) (is_some (slice_get p.sources s)) (slice_get-is_some p.kinds t.kind (kind_of_job fits p i lt))
    (slice_get-is_some p.sources s (source_of_job p i lt))

-- ---- names
abbrev is_named : ℕ → Bool
is_named w = is_name (name_of w)

pub name_is : (w : ℕ) → w < 127 → is_name (name_of w) ≡ true
unfolding digits
name_is w lt = agree_below_at is_named (λ w. true) 127 w refl lt

names_are : (p : Program) (w : ℕ) (t : Tree) → w + size t ≤ 127 → list_all (λ (node : Node). is_name node.name) (nodes_from p w t) ≡ true
names_are p w (Leaf own) le = both (is_name (name_of w)) true (name_is w (omega (arith, le))) refl
names_are p w (Inner own left right) le =
    both (is_name (name_of w)) _ (name_is w (omega (arith, le)))
    (list_all-append (λ (node : Node). is_name node.name) (nodes_from p (w + 1) left) (nodes_from p (w + 1 + size left) right)
    ∙ both (list_all (λ (node : Node). is_name node.name) (nodes_from p (w + 1) left)) _ (names_are p (w + 1) left (omega (arith, le)))
    (names_are p (w + 1 + size left) right (omega (arith, le))))

-- ---- the whole
pub tree_is_owned : (p : Program) (rates : List ℕ) (depth : ℕ) (t : Tree) → IsGreedy (dependencies p) rates depth (all_itags p) t → AreOfJob p (owned_in t)
tree_is_owned p rates depth t greedy = λ i there. all_within p i (owned_is_given (dependencies p) rates depth (all_itags p) t greedy (all_once p) i there)

abbrev HasText : Program → List Node → Type 0
HasText p nodes = IsTrue (nodes_fit p nodes) × IsTrue (list_all (λ (node : Node). is_name node.name) nodes)

pub greedy_has_text : TagsFit → (p : Program) (rates : List ℕ) (depth : ℕ) (nodes : List Node) → depth ≤ 6 → IsGreedyPlan p rates depth nodes
    → IsTrue (nodes_fit p nodes) × IsTrue (list_all (λ (node : Node). is_name node.name) nodes)
greedy_has_text fits p rates depth nodes le plan =
    let few = few_nodes (dependencies p) rates depth (all_itags p) plan.tree le plan.greedy in
    subst (λ (ns : List Node). HasText p ns) (sym plan.nodes_of_tree) (
      each_pred p (pred_fits p) (pred_names fits p) 0 plan.tree (tree_is_owned p rates depth plan.tree plan.greedy),
      names_are p 0 plan.tree
          (omega (arith, few)),
    )
