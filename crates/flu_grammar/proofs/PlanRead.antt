-- The plan that is read is what its text means.
use Rattle.std.proofs.Common.{◌≡◌, ℕ, zero, suc, ◌+◌, ◌<◌, true, List, [], ◌∷◌, ◌++◌, map, length}
use Rattle.std.proofs.Common.{Option, Some, None, Ok, refl, sym, ap, subst, ◌∙◌, append_assoc, arith}
use Rattle.std.specs.Prelude.{not, ◌==◌, slice_get}
use Rattle.std.specs.List.{list_any, flat_map, AllByRecursion}
use Rattle.std.specs.Str.{bytes_eq}
use Rattle.std.proofs.lemmas.List.{append-nil, length-map}
use Rattle.flu_lemmas.specs.Items.{Pairs}
use Rattle.flu_lemmas.proofs.Elements.{fails_at}
use Rattle.flu_lemmas.proofs.Loops.{bind_ok, then_ok}
use Rattle.flu_lemmas.proofs.Places.{slice_get-there}
use Rattle.flu_lemmas.proofs.Tests.{not_true, not_both, true_eq}
use Rattle.flu_lemmas.proofs.Bytes.{bytes_itself}
use Rattle.flu_model.specs.declared.jobs.Program.{Program}
use Rattle.flu_model.specs.declared.plans.Node.{Node}
use Rattle.flu_text.specs.declared.written.WrittenSpan.{WrittenSpan}
use Rattle.flu_layout.specs.Spelling.{name_of}
use Rattle.flu_plan.specs.declared.fault.PlanFault.TheVariants as f
use Rattle.flu_plan.specs.declared.written.WrittenNode.{WrittenNode}
use Rattle.flu_plan.specs.declared.drafts.DraftNode.{DraftNode}
use Rattle.flu_plan.specs.declared.drafts.Visit.{Visit}
use Rattle.flu_plan.specs.Faults.{◌>>=◌, ◌>>◌, unless, each}
use Rattle.flu_plan.specs.Resolving.{with_name, names_of, node_of, nodes_of}
use Rattle.flu_plan.specs.Shape.{kids_at, visit, with_visits, walk, preorder, is_met, below, all_below, children_of}
use Rattle.flu_plan.specs.Limits.{within_limits}
use Rattle.flu_plan.specs.Numbering.{number_of, planned_kids, planned_node, planned_found, planned_at, planned}
use Rattle.flu_plan.specs.Reading.{tree_in, resolved}
use Rattle.flu_plan.specs.Kept.{KeepsRules}
use Rattle.flu_grammar.specs.Means.{AllDiffer, IfWritten}
use Rattle.flu_grammar.specs.Plans.{MeansChild, MeansKids, MeansNode, HasSome, MeansPlan}
use Rattle.flu_grammar.proofs.Lists.{some_same, get_below, get_map, get_unmap, differ_none, differ_push, met_at, pairs_left, pairs_right, pairs_length}
use Rattle.flu_grammar.proofs.Looks.{ok_same, passed, Finds, found_each}
use Rattle.flu_grammar.proofs.PlanParts.{preds_mean, node_drawn, KidNamed, kids_named}

-- ---- the names of nodes

abbrev pub written_name : List ℕ → WrittenNode → List ℕ
written_name text v = name_of text v.name

name_added : (text : List ℕ) (names more : List (List ℕ)) (v : WrittenNode) → with_name text names v ≡ Ok more → AllDiffer names
    → (more ≡ names ++ written_name text v ∷ []) × AllDiffer more
unfolding with_name
name_added text names more v e d =
    let name = written_name text v in
    let look = passed (not (list_any (bytes_eq name) names)) (f.NotATree name) (Ok (names ++ name ∷ [])) more e in
    let is : names ++ name ∷ [] ≡ more = ok_same (names ++ name ∷ []) more look.1 in
    let none = not_true (list_any (bytes_eq name) names) look.0 in
    let new : (i : ℕ) → slice_get names i ≡ Some name → ⊥ = λ i here. not_both (bytes_eq name name) (bytes_itself name)
    (fails_at (bytes_eq name) names i name none here) in
    (sym is, subst (λ (l : List (List ℕ)). AllDiffer l) is (differ_push names name new d))

pub names_added : (text : List ℕ) (names : List (List ℕ)) (vs : List WrittenNode) (all : List (List ℕ)) → each (with_name text) names vs ≡ Ok all
    → AllDiffer names → (all ≡ names ++ map (written_name text) vs) × AllDiffer all
unfolding each
names_added text names [] all e d =
    let same = ok_same names all e in
    (sym same ∙ sym (append-nil names), subst (λ (l : List (List ℕ)). AllDiffer l) same d)
names_added text names (v ∷ vs) all e d =
    let first = bind_ok (with_name text names v) (λ t. each (with_name text) t vs) all e in
    let one = name_added text names first.0 v first.1 d in
    let more = names_added text first.0 vs all first.2 one.1 in
    (more.0 ∙ ap (λ l. l ++ map (written_name text) vs) one.0 ∙ append_assoc names (written_name text v ∷ []) (map (written_name text) vs), more.1)

-- ---- the nodes below the root are nodes

abbrev pub KidsBelow : ℕ → Option (ℕ × ℕ) → Type 0
KidsBelow n None = Unit {0}
KidsBelow n (Some kids) = (kids.0 < n) × (kids.1 < n)

abbrev pub IsNode : ℕ → Visit → Type 0
IsNode n v = v.node < n

visits_below : (n d : ℕ) (kids : Option (ℕ × ℕ)) (wanted : List Visit) → KidsBelow n kids → AllByRecursion (IsNode n) wanted
    → AllByRecursion (IsNode n) (with_visits d kids wanted)
visits_below n d None wanted low all = all
visits_below n d (Some kids) wanted low all = (low.0, (low.1, all))

walk_below : (drafts : List DraftNode) (n : ℕ) → ((v : ℕ) → KidsBelow n (kids_at drafts v)) → (k : ℕ) (wanted : List Visit)
    → AllByRecursion (IsNode n) wanted → (i : ℕ) (x : Visit) → slice_get (walk drafts k wanted) i ≡ Some x → x.node < n
unfolding walk
walk_below drafts n low zero wanted all i x e = absurd cc
walk_below drafts n low (suc k) [] all i x e = absurd cc
walk_below drafts n low (suc k) (v ∷ wanted) all zero x e = subst (λ (y : Visit). y.node < n) (some_same v x e) all.0
walk_below drafts n low (suc k) (v ∷ wanted) all (suc i) x e =
    walk_below drafts n low k (with_visits v.depth (kids_at drafts v.node) wanted) (visits_below n v.depth (kids_at drafts v.node) wanted
    (low v.node) all.1) i x e

-- all are met
pub each_met : (text : List ℕ) (order : List Visit) (v : ℕ) (ds : List DraftNode) (m : ℕ) → each (below text order) v ds ≡ Ok m
    → (i : ℕ) (d : DraftNode) → slice_get ds i ≡ Some d → is_met order (v + i) ≡ true
unfolding each below
each_met text order v [] m e i d here = absurd cc
each_met text order v (x ∷ ds) m e zero d here =
    let first = bind_ok (unless (is_met order v) (f.NotATree (name_of text x.name)) >> Ok (v + 1)) (λ t. each (below text order) t ds) m e in
    let look = passed (is_met order v) (f.NotATree (name_of text x.name)) (Ok (v + 1)) first.0 first.1 in
    ap (is_met order) (omega arith) ∙ look.0
each_met text order v (x ∷ ds) m e (suc i) d here =
    let first = bind_ok (unless (is_met order v) (f.NotATree (name_of text x.name)) >> Ok (v + 1)) (λ t. each (below text order) t ds) m e in
    let look = passed (is_met order v) (f.NotATree (name_of text x.name)) (Ok (v + 1)) first.0 first.1 in
    let next : v + 1 ≡ first.0 = ok_same (v + 1) first.0 look.1 in
    ap (is_met order) (omega arith) ∙ each_met text order first.0 ds m first.2 i d here

-- ---- the nodes of the plan, by their numbers

pub aligned : (text : List ℕ) (o : List Visit) (drafts : List DraftNode) (order : List Visit)
    → ((i : ℕ) (x : Visit) → slice_get order i ≡ Some x → x.node < length drafts) → (k : ℕ) (x : Visit) (d : DraftNode) → slice_get order k ≡ Some x
    → slice_get drafts x.node ≡ Some d → slice_get (flat_map (planned_at text o drafts) order) k ≡ Some (planned_node text o d)
aligned text o drafts [] low k x d here is = absurd cc
aligned text o drafts (y ∷ order) low zero x d here is =
    let same : y ≡ x = some_same y x here in
    ap (λ (z : Option DraftNode). slice_get (planned_found text o z ++ flat_map (planned_at text o drafts) order) 0)
    (ap (λ (v : Visit). slice_get drafts v.node) same ∙ is)
aligned text o drafts (y ∷ order) low (suc k) x d here is =
    let there = slice_get-there drafts y.node (low 0 y refl) in
    ap (λ (z : Option DraftNode). slice_get (planned_found text o z ++ flat_map (planned_at text o drafts) order) (suc k)) there.1
    ∙ aligned text o drafts order (λ i v e. low (suc i) v e) k x d here is

-- a node of the plan is one of the drafts
pub record FromDraft (text : List ℕ) (o : List Visit) (drafts : List DraftNode) (node : Node) : Type 0 where
  pub place : ℕ
  pub draft : DraftNode
  pub here : slice_get drafts place ≡ Some draft
  pub is : planned_node text o draft ≡ node

pub from_draft : (text : List ℕ) (o : List Visit) (drafts : List DraftNode) (order : List Visit)
    → ((i : ℕ) (x : Visit) → slice_get order i ≡ Some x → x.node < length drafts) → (k : ℕ) (node : Node)
    → slice_get (flat_map (planned_at text o drafts) order) k ≡ Some node → FromDraft text o drafts node
from_draft text o drafts [] low k node here = absurd cc
from_draft text o drafts (y ∷ order) low zero node here =
    let there = slice_get-there drafts y.node (low 0 y refl) in
    let is = sym (ap (λ (z : Option DraftNode). slice_get (planned_found text o z ++ flat_map (planned_at text o drafts) order) 0) there.1) ∙ here in
    record { place = y.node; draft = there.0; here = there.1; is = some_same (planned_node text o there.0) node is }
from_draft text o drafts (y ∷ order) low (suc k) node here =
    let there = slice_get-there drafts y.node (low 0 y refl) in
    let is = sym (ap (λ (z : Option DraftNode). slice_get (planned_found text o z ++ flat_map (planned_at text o drafts) order) (suc k)) there.1) ∙ here in
    from_draft text o drafts order (λ i v e. low (suc i) v e) k node is

-- ---- the meaning

-- drafts of written nodes, in an order in which all are met
pub record IsRead (p : Program) (text : List ℕ) (written : List WrittenNode) (names : List (List ℕ)) (drafts : List DraftNode) (o : List Visit) : Type 0 where
  pub names_are : names ≡ map (written_name text) written
  pub pairs : Pairs (Finds (node_of p text names)) written drafts
  pub met : (i : ℕ) (d : DraftNode) → slice_get drafts i ≡ Some d → is_met o i ≡ true
  pub low : (i : ℕ) (x : Visit) → slice_get o i ≡ Some x → x.node < length drafts

module _ (p : Program) (text : List ℕ) (written : List WrittenNode) (names : List (List ℕ)) (drafts : List DraftNode) (o : List Visit)
    (read : IsRead p text written names drafts o) where
  numbered : (i : ℕ) (d : DraftNode) → slice_get drafts i ≡ Some d → slice_get (planned text o drafts) (number_of o i) ≡ Some (planned_node text o d)
  numbered i d here =
      let at = met_at (λ (x : Visit). i == x.node) o (read.met i d here) in
      let same : i ≡ (at.0).node = true_eq i (at.0).node at.2 in
      aligned text o drafts o read.low (number_of o i) at.0 d at.1 (ap (slice_get drafts) (sym same) ∙ here)

  -- what has a name among the nodes is a node of the plan
  child_means : (s : WrittenSpan) (v : ℕ) → slice_get names v ≡ Some (name_of text s) → MeansChild text (planned text o drafts) s (number_of o v)
  child_means s v here =
      let one = get_unmap (written_name text) written v (name_of text s) (ap (λ (l : List (List ℕ)). slice_get l v) (sym read.names_are) ∙ here) in
      let two = pairs_left (Finds (node_of p text names)) written drafts read.pairs v one.0 one.1 in
      let drawn = node_drawn p text names one.0 two.0 two.2 in
      (planned_node text o two.0, numbered v two.0 two.1, ap (name_of text) drawn.name ∙ one.2)

  kids_mean : (v : Option (WrittenSpan × WrittenSpan)) (kids : Option (ℕ × ℕ)) → IfWritten (KidNamed text names) v kids
      → IfWritten (MeansKids text (planned text o drafts)) v (planned_kids o kids)
  kids_mean None None h = tt
  kids_mean None (Some kids) h = absurd h
  kids_mean (Some spans) None h = absurd h
  kids_mean (Some spans) (Some kids) h = (child_means spans.0 kids.0 h.0, child_means spans.1 kids.1 h.1)

  node_means : (v : WrittenNode) (d : DraftNode) → node_of p text names v ≡ Ok d → MeansNode p text (planned text o drafts) v (planned_node text o d)
  node_means v d e =
      let drawn = node_drawn p text names v d e in
      record {
        name = ap (name_of text) drawn.name;
        preds = preds_mean p text v.preds d.preds drawn.preds;
        kids = kids_mean v.kids d.kids (kids_named text names v.kids d.kids drawn.kids);
      }

  pub read_planned : (i : ℕ) (v : WrittenNode) → slice_get written i ≡ Some v → HasSome (planned text o drafts) (λ node. MeansNode p text
      (planned text o drafts) v node)
  read_planned i v here =
      let two = pairs_left (Finds (node_of p text names)) written drafts read.pairs i v here in
      (number_of o i, planned_node text o two.0, numbered i two.0 two.1, node_means v two.0 two.2)

  pub read_written : (k : ℕ) (node : Node) → slice_get (planned text o drafts) k ≡ Some node
      → HasSome written (λ v. MeansNode p text (planned text o drafts) v node)
  read_written k node here =
      let draft = from_draft text o drafts o read.low k node here in
      let two = pairs_right (Finds (node_of p text names)) written drafts read.pairs draft.place draft.draft draft.here in
      (draft.place, two.0, two.1, subst (λ (n : Node). MeansNode p text (planned text o drafts) two.0 n) draft.is (node_means two.0 draft.draft two.2))

  pub read_root : (rest : List Visit) (d : ℕ) → o ≡ visit 0 d ∷ rest → (first : WrittenNode) → slice_get written 0 ≡ Some first
      → MeansChild text (planned text o drafts) first.name 0
  read_root rest d is first here =
      let name = ap (λ (l : List (List ℕ)). slice_get l 0) read.names_are ∙ get_map (written_name text) written 0 first here in
      subst (λ (n : ℕ). MeansChild text (planned text o drafts) first.name n) (ap (λ (l : List Visit). number_of l 0) is) (child_means first.name 0 name)

-- ---- the whole

-- the children of drafts are drafts
drafts_below : (p : Program) (text : List ℕ) (names : List (List ℕ)) (written : List WrittenNode) (drafts : List DraftNode)
    → Pairs (Finds (node_of p text names)) written drafts → (v : ℕ) → KidsBelow (length names) (kids_at drafts v)
drafts_below p text names [] [] h v = tt
drafts_below p text names [] (d ∷ drafts) h v = absurd h
drafts_below p text names (w ∷ written) [] h v = absurd h
drafts_below p text names (w ∷ written) (d ∷ drafts) h zero =
    let drawn = node_drawn p text names w d h.0 in low w.kids d.kids (kids_named text names w.kids d.kids drawn.kids)
  where
    low : (s : Option (WrittenSpan × WrittenSpan)) (kids : Option (ℕ × ℕ)) → IfWritten (KidNamed text names) s kids → KidsBelow (length names) kids
    low None None h = tt
    low None (Some kids) h = absurd h
    low (Some spans) None h = absurd h
    low (Some spans) (Some kids) h = (get_below names kids.0 (name_of text spans.0) h.0, get_below names kids.1 (name_of text spans.1) h.1)
drafts_below p text names (w ∷ written) (d ∷ drafts) h (suc v) = drafts_below p text names written drafts h.1 v

first_visit : (drafts : List DraftNode) → 0 < length drafts → (rest : List Visit) × (preorder drafts ≡ visit 0 0 ∷ rest)
unfolding walk
first_visit [] some = absurd (omega arith)
first_visit (d ∷ drafts) some = (walk (d ∷ drafts) (length drafts) (with_visits 0 (kids_at (d ∷ drafts) 0) []), refl)

pub resolved_means : (p : Program) (text : List ℕ) (written : List WrittenNode) (plan : List Node) → 0 < length written → KeepsRules plan
    → resolved p text written ≡ Ok plan → MeansPlan p text written plan
unfolding resolved tree_in
resolved_means p text written plan some rules e =
    let names = bind_ok (names_of text written) (λ names. nodes_of p text names written >>= λ ds. tree_in text ds) plan e in
    let ds = bind_ok (nodes_of p text names.0 written) (λ ds. tree_in text ds) plan names.2 in
    let o = preorder ds.0 in
    let one = then_ok (children_of text ds.0) (all_below text o ds.0 >> (within_limits o ds.0 >> Ok (planned text o ds.0))) plan ds.2 in
    let two = then_ok (all_below text o ds.0) (within_limits o ds.0 >> Ok (planned text o ds.0)) plan one.2 in
    let three = then_ok (within_limits o ds.0) (Ok (planned text o ds.0)) plan two.2 in
    let is : planned text o ds.0 ≡ plan = ok_same (planned text o ds.0) plan three.2 in
    let named = names_added text [] written names.0 names.1 differ_none in
    let pairs = found_each (node_of p text names.0) written ds.0 ds.1 in
    let many : length ds.0 ≡ length written = pairs_length (Finds (node_of p text names.0)) written ds.0 pairs in
    let as_many : length names.0 ≡ length ds.0 = ap length named.0 ∙ length-map written (written_name text) ∙ sym many in
    let below : (v : ℕ) → KidsBelow (length ds.0) (kids_at ds.0 v) = λ v. subst (λ (n : ℕ). KidsBelow n (kids_at ds.0 v)) as_many
    (drafts_below p text names.0 written ds.0 pairs v) in
    let there : 0 < length ds.0 = omega arith in
    let first = first_visit ds.0 there in
    let read : IsRead p text written names.0 ds.0 o = record {
      names_are = named.0;
      pairs = pairs;
      met = λ i d here. (let zero_more : i ≡ 0 + i = omega arith in ap (is_met o) zero_more ∙ each_met text o 0 ds.0 two.0 two.1 i d here);
      low = walk_below ds.0 (length ds.0) below (length ds.0) (visit 0 0 ∷ []) (there, tt);
    } in
    let means : MeansPlan p text written (planned text o ds.0) = record {
      own_names = subst (λ (l : List (List ℕ)). AllDiffer l) named.0 named.1;
      root = read_root p text written names.0 ds.0 o read first.0 0 first.1;
      each_written = read_planned p text written names.0 ds.0 o read;
      each_planned = read_written p text written names.0 ds.0 o read;
      rules = subst (λ (l : List Node). KeepsRules l) (sym is) rules;
    } in
    subst (λ (l : List Node). MeansPlan p text written l) is means
