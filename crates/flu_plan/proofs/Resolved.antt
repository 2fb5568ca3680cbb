-- What is known of nodes whose names are looked up.
use Rattle.std.proofs.Common.{◌≡◌, ℕ, zero, suc, ◌<◌, Bool, true, false, List, [], ◌∷◌, ◌++◌, map, length, Option, Some, None, Ok, refl, sym, ap, subst, ◌∙◌}
use Rattle.std.proofs.Common.{append_assoc}
use Rattle.std.specs.Prelude.{not, ◌==◌}
use Rattle.std.specs.List.{list_any, flat_map, position}
use Rattle.std.specs.Str.{bytes_eq}
use Rattle.std.proofs.lemmas.List.{append-nil, length-map}
use Rattle.std.proofs.lemmas.List.Quantifiers.{position-Some}
use Rattle.flu_lemmas.proofs.Bytes.{bytes_itself}
use Rattle.flu_lemmas.proofs.Searches.{eq_true}
use Rattle.flu_model.specs.declared.jobs.Program.{Program}
use Rattle.flu_text.specs.declared.written.WrittenSpan.{WrittenSpan}
use Rattle.flu_plan.specs.declared.fault.PlanFault.{PlanFault}
use Rattle.flu_plan.specs.declared.fault.PlanFault.TheVariants as f
use Rattle.flu_plan.specs.declared.written.WrittenNode.{WrittenNode}
use Rattle.flu_plan.specs.declared.drafts.DraftNode.{DraftNode}
use Rattle.flu_plan.specs.Faults.{◌>>=◌, unless, each, found_of_each}
use Rattle.flu_layout.specs.Spelling.{name_of}
use Rattle.flu_plan.specs.Resolving.{with_name, names_of, known, kid_of, kids_of, node_of, nodes_of, pred_of}
use Rattle.flu_plan.specs.Shape.{name_at, with_child, with_kids, with_kids_of, children_of, kids_at}
use Rattle.flu_plan.proofs.Finds.{ok_same, Pairs, collected, pairs_length}
use Rattle.flu_lemmas.proofs.Loops.{bind_ok, then_ok}
use Rattle.flu_plan.proofs.Distinct.{In, Distinct, in_nil, in_found, distinct_none, distinct_cons, distinct_last}

-- a look that passes
pub unless_ok : (b : Bool) (fault : PlanFault) (u : Unit {0}) → unless b fault ≡ Ok u → b ≡ true
unless_ok true fault u e = refl
unless_ok false fault u e = absurd cc

not_found : (b : Bool) → not b ≡ true → b ≡ false
not_found true e = absurd cc
not_found false e = refl

-- an element that no test finds is not there
pub absent : {X : Type 0} (same : X → X → Bool) → ((x : X) → same x x ≡ true) → (x : X) (xs : List X) → not (list_any (same x) xs) ≡ true → In x xs → ⊥
absent same itself x xs e h =
    let yes = in_found same itself x xs h in let no = not_found (list_any (same x) xs) e in let bad : true ≡ false = sym yes ∙ no in (cc)

-- ---- names

abbrev pub name_written : List ℕ → WrittenNode → List ℕ
name_written text w = name_of text w.name

abbrev pub name_drafted : List ℕ → DraftNode → List ℕ
name_drafted text node = name_of text node.name

name_added : (text : List ℕ) (names more : List (List ℕ)) (w : WrittenNode) → with_name text names w ≡ Ok more → Distinct names
    → (more ≡ names ++ name_written text w ∷ []) × Distinct more
unfolding with_name
name_added text names more w e d =
    let name = name_written text w in
    let look = then_ok (unless (not (list_any (bytes_eq name) names)) (f.NotATree name)) (Ok (names ++ name ∷ [])) more e in
    let is : more ≡ names ++ name ∷ [] = sym (ok_same (names ++ name ∷ []) more look.2) in
    let new = absent bytes_eq bytes_itself name names (unless_ok (not (list_any (bytes_eq name) names)) (f.NotATree name) look.0 look.1) in
    (is, subst (λ (l : List (List ℕ)). Distinct l) (sym is) (distinct_last name names d new))

pub names_added : (text : List ℕ) (names : List (List ℕ)) (written : List WrittenNode) (all : List (List ℕ)) → each (with_name text) names written ≡ Ok all
    → Distinct names → (all ≡ names ++ map (name_written text) written) × Distinct all
unfolding each
names_added text names [] all e d =
    let same = ok_same names all e in
    (sym same ∙ sym (append-nil names), subst (λ (l : List (List ℕ)). Distinct l) same d)
names_added text names (w ∷ written) all e d =
    let first = bind_ok (with_name text names w) (λ t. each (with_name text) t written) all e in
    let one = name_added text names first.0 w first.1 d in
    let more = names_added text first.0 written all first.2 one.1 in
    (more.0 ∙ ap (λ l. l ++ map (name_written text) written) one.0 ∙ append_assoc names (name_written text w ∷ []) (map (name_written text) written), more.1)

-- ---- children within bounds

unfoldable pub KidsBelow : ℕ → Option (ℕ × ℕ) → Type 0
KidsBelow n None = Unit {0}
KidsBelow n (Some kids) = (kids.0 < n) × (kids.1 < n)

pub known_ok : (at : ℕ) (o : Option ℕ) (v : ℕ) → known at o ≡ Ok v → o ≡ Some v
known_ok at None v e = absurd cc
known_ok at (Some n) v e = ap (λ (x : ℕ). Some x) (ok_same n v e)

kid_below : (text : List ℕ) (names : List (List ℕ)) (s : WrittenSpan) (v : ℕ) → kid_of text names s ≡ Ok v → v < length names
kid_below text names s v e = (position-Some (bytes_eq (name_of text s)) names v [] (known_ok s.from (position (bytes_eq (name_of text s)) names) v e)).0

kids_below : (text : List ℕ) (names : List (List ℕ)) (written : Option (WrittenSpan × WrittenSpan)) (kids : Option (ℕ × ℕ))
    → kids_of text names written ≡ Ok kids → KidsBelow (length names) kids
unfolding KidsBelow
kids_below text names None kids e = let same : None ≡ kids = ok_same None kids e in subst (λ (k : Option (ℕ × ℕ)). KidsBelow (length names) k) same tt
kids_below text names (Some spans) kids e =
    let left = bind_ok (kid_of text names spans.0) (λ l. kid_of text names spans.1 >>= λ r. Ok (Some (l, r))) kids e in
    let right = bind_ok (kid_of text names spans.1) (λ r. Ok (Some (left.0, r))) kids left.2 in
    let same : Some (left.0, right.0) ≡ kids = ok_same (Some (left.0, right.0)) kids right.2 in
    subst (λ (k : Option (ℕ × ℕ)). KidsBelow (length names) k) same (kid_below text names spans.0 left.0 left.1, kid_below text names spans.1 right.0 right.1)

pub node_known : (p : Program) (text : List ℕ) (names : List (List ℕ)) (w : WrittenNode) (node : DraftNode) → node_of p text names w ≡ Ok node
    → (node.name ≡ w.name) × KidsBelow (length names) node.kids
unfolding node_of
node_known p text names w node e =
    let preds = bind_ok (found_of_each (pred_of p text) w.preds) (λ q. kids_of text names w.kids >>= λ k. Ok (record { name = w.name; preds = q; kids = k }))
    node e in
    let kids = bind_ok (kids_of text names w.kids) (λ k. Ok (record { name = w.name; preds = preds.0; kids = k })) node preds.2 in
    let same = ok_same (record { name = w.name; preds = preds.0; kids = kids.0 }) node kids.2 in
    (sym (ap (λ (n : DraftNode). n.name) same), subst (λ (n : DraftNode). KidsBelow (length names) n.kids) same (kids_below text names w.kids kids.0 kids.1))

nodes_named : (p : Program) (text : List ℕ) (names : List (List ℕ)) (written : List WrittenNode) (nodes : List DraftNode)
    → Pairs (node_of p text names) written nodes → map (name_drafted text) nodes ≡ map (name_written text) written
unfolding Pairs
nodes_named p text names [] [] h = refl
nodes_named p text names [] (n ∷ nodes) h = absurd h
nodes_named p text names (w ∷ written) [] h = absurd h
nodes_named p text names (w ∷ written) (n ∷ nodes) h =
    ap (λ s. name_of text s ∷ map (name_drafted text) nodes) (node_known p text names w n h.0).0
    ∙ ap (λ l. name_written text w ∷ l) (nodes_named p text names written nodes h.1)

nodes_below : (p : Program) (text : List ℕ) (names : List (List ℕ)) (written : List WrittenNode) (nodes : List DraftNode) (v : ℕ)
    → Pairs (node_of p text names) written nodes → KidsBelow (length names) (kids_at nodes v)
unfolding Pairs KidsBelow
nodes_below p text names [] [] v h = tt
nodes_below p text names [] (n ∷ nodes) v h = absurd h
nodes_below p text names (w ∷ written) [] v h = absurd h
nodes_below p text names (w ∷ written) (n ∷ nodes) zero h = (node_known p text names w n h.0).1
nodes_below p text names (w ∷ written) (n ∷ nodes) (suc v) h = nodes_below p text names written nodes v h.1

-- names that differ, and children that are nodes
pub record Known (text : List ℕ) (nodes : List DraftNode) : Type 0 where
  pub own_names : Distinct (map (name_drafted text) nodes)
  pub below : (v : ℕ) → KidsBelow (length nodes) (kids_at nodes v)

pub nodes_known : (p : Program) (text : List ℕ) (written : List WrittenNode) (names : List (List ℕ)) (nodes : List DraftNode)
    → names_of text written ≡ Ok names → nodes_of p text names written ≡ Ok nodes → Known text nodes
nodes_known p text written names nodes named found =
    let all = names_added text [] written names named (distinct_none (List ℕ)) in
    let ones = collected (node_of p text names) [] written nodes found in
    let pairs = subst (λ (l : List DraftNode). Pairs (node_of p text names) written l) (sym ones.1) ones.2 in
    let same : map (name_drafted text) nodes ≡ names = nodes_named p text names written nodes pairs ∙ sym all.0 in
    let many : length names ≡ length nodes = ap length all.0 ∙ length-map written (name_written text)
    ∙ sym (pairs_length (node_of p text names) written nodes pairs) in
    record {
      own_names = subst (λ (l : List (List ℕ)). Distinct l) (sym same) all.1;
      below = λ v. subst (λ (n : ℕ). KidsBelow n (kids_at nodes v)) many (nodes_below p text names written nodes v pairs);
    }

-- ---- children

abbrev pub kid_list : Option (ℕ × ℕ) → List ℕ
kid_list None = []
kid_list (Some kids) = kids.0 ∷ kids.1 ∷ []

abbrev pub kids_of_draft : DraftNode → List ℕ
kids_of_draft node = kid_list node.kids

abbrev pub children : List DraftNode → List ℕ
children nodes = flat_map kids_of_draft nodes

child_added : (text : List ℕ) (nodes : List DraftNode) (cs more : List ℕ) (v : ℕ) → with_child text nodes cs v ≡ Ok more → Distinct cs
    → (more ≡ cs ++ v ∷ []) × Distinct more
unfolding with_child
child_added text nodes cs more v e d =
    let look = then_ok (unless (not (list_any (λ u. v == u) cs)) (f.NotATree (name_at text nodes v))) (Ok (cs ++ v ∷ [])) more e in
    let is : more ≡ cs ++ v ∷ [] = sym (ok_same (cs ++ v ∷ []) more look.2) in
    let new = absent (λ a b. a == b) (λ n. eq_true n n refl) v cs
    (unless_ok (not (list_any (λ u. v == u) cs)) (f.NotATree (name_at text nodes v)) look.0 look.1) in
    (is, subst (λ (l : List ℕ). Distinct l) (sym is) (distinct_last v cs d new))

kids_added : (text : List ℕ) (nodes : List DraftNode) (cs more : List ℕ) (kids : Option (ℕ × ℕ)) → with_kids_of text nodes cs kids ≡ Ok more → Distinct cs
    → (more ≡ cs ++ kid_list kids) × Distinct more
kids_added text nodes cs more None e d =
    let same = ok_same cs more e in
    (sym same ∙ sym (append-nil cs), subst (λ (l : List ℕ). Distinct l) same d)
kids_added text nodes cs more (Some kids) e d =
    let left = bind_ok (with_child text nodes cs kids.0) (λ t. with_child text nodes t kids.1) more e in
    let one = child_added text nodes cs left.0 kids.0 left.1 d in
    let two = child_added text nodes left.0 more kids.1 left.2 one.1 in
    (two.0 ∙ ap (λ l. l ++ kids.1 ∷ []) one.0 ∙ append_assoc cs (kids.0 ∷ []) (kids.1 ∷ []), two.1)

pub children_added : (text : List ℕ) (nodes : List DraftNode) (cs : List ℕ) (rest : List DraftNode) (all : List ℕ)
    → each (with_kids text nodes) cs rest ≡ Ok all → Distinct cs → (all ≡ cs ++ children rest) × Distinct all
unfolding each with_kids
children_added text nodes cs [] all e d =
    let same = ok_same cs all e in
    (sym same ∙ sym (append-nil cs), subst (λ (l : List ℕ). Distinct l) same d)
children_added text nodes cs (node ∷ rest) all e d =
    let first = bind_ok (with_kids_of text nodes cs node.kids) (λ t. each (with_kids text nodes) t rest) all e in
    let one = kids_added text nodes cs first.0 node.kids first.1 d in
    let more = children_added text nodes first.0 rest all first.2 one.1 in
    (more.0 ∙ ap (λ l. l ++ children rest) one.0 ∙ append_assoc cs (kid_list node.kids) (children rest), more.1)

-- the root and all children differ
pub children_differ : (text : List ℕ) (nodes : List DraftNode) (all : List ℕ) → children_of text nodes ≡ Ok all → Distinct (0 ∷ children nodes)
children_differ text nodes all e =
    let added = children_added text nodes (0 ∷ []) nodes all e (distinct_cons 0 [] (in_nil 0) (distinct_none ℕ)) in
    subst (λ (l : List ℕ). Distinct l) added.0 added.1
