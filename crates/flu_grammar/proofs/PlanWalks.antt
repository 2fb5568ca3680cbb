-- The nodes of a text, as they are found where they mean a plan, and the walk over them, which meets them in the order of the plan.
use Rattle.std.proofs.Common.{◌≡◌, ℕ, zero, suc, ◌+◌, ◌≤◌, true, List, [], ◌∷◌, map, length, Option, Some, None, Ok, refl, sym, ap, subst, ◌∙◌, arith}
use Rattle.std.specs.Prelude.{◌==◌, slice_get}
use Rattle.std.specs.List.{position}
use Rattle.std.specs.Str.{bytes_eq}
use Rattle.flu_lemmas.specs.Items.{Pairs}
use Rattle.flu_lemmas.proofs.Tests.{and_left, and_right, true_eq}
use Rattle.flu_model.specs.declared.jobs.Program.{Program}
use Rattle.flu_model.specs.declared.plans.Node.{Node}
use Rattle.flu_model.specs.PlanRules.{with_kids as tree_kids, are_subtrees, with_depths, depths_below}
use Rattle.flu_text.specs.declared.written.WrittenSpan.{WrittenSpan}
use Rattle.flu_layout.specs.Spelling.{name_of}
use Rattle.flu_plan.specs.declared.written.WrittenNode.{WrittenNode}
use Rattle.flu_plan.specs.declared.drafts.DraftNode.{DraftNode}
use Rattle.flu_plan.specs.declared.drafts.Visit.{Visit}
use Rattle.flu_plan.specs.Faults.{◌>>=◌, found_of_each}
use Rattle.flu_plan.specs.Resolving.{known, pred_of, kid_of, kids_of, node_of}
use Rattle.flu_plan.specs.Shape.{kids_of_node, kids_at, with_visits, walk}
use Rattle.flu_plan.specs.Numbering.{planned_pred}
use Rattle.flu_grammar.specs.Means.{AllDiffer, IfWritten}
use Rattle.flu_grammar.specs.Plans.{MeansChild, MeansKids, MeansPlan}
use Rattle.flu_grammar.proofs.Lists.{some_same, get_map, get_unmap, pairs_made}
use Rattle.flu_grammar.proofs.Looks.{binds, finds_each}
use Rattle.flu_grammar.proofs.PlanRead.{written_name}
use Rattle.flu_grammar.proofs.PlanFound.{named_found, preds_found}

-- a written node, by its place, and a node of the plan, by its number, have one name
pub record SameName (names : List (List ℕ)) (plan : List Node) (place number : ℕ) : Type 0 where
  pub name : List ℕ
  pub written : slice_get names place ≡ Some name
  pub node : Node
  pub planned : slice_get plan number ≡ Some node
  pub is : node.name ≡ name

abbrev pub SameKids : List (List ℕ) → List Node → ℕ × ℕ → ℕ × ℕ → Type 0
SameKids names plan places numbers = SameName names plan places.0 numbers.0 × SameName names plan places.1 numbers.1

-- what is found of a written node is a node of the plan
pub record Fits (text : List ℕ) (names : List (List ℕ)) (plan : List Node) (d : DraftNode) (n : Node) : Type 0 where
  pub name : name_of text d.name ≡ n.name
  pub preds : map planned_pred d.preds ≡ n.preds
  pub kids : IfWritten (SameKids names plan) d.kids n.kids

pub record FitsAt (text : List ℕ) (names : List (List ℕ)) (plan : List Node) (d : DraftNode) : Type 0 where
  pub number : ℕ
  pub node : Node
  pub planned : slice_get plan number ≡ Some node
  pub fits : Fits text names plan d node

module _ (p : Program) (text : List ℕ) (written : List WrittenNode) (plan : List Node) (means : MeansPlan p text written plan) where
  abbrev the_names : List (List ℕ)
  the_names = map (written_name text) written

  -- a child of the plan is found by its name
  child_found : (s : WrittenSpan) (u : ℕ) → MeansChild text plan s u → (a : ℕ) × (kid_of text the_names s ≡ Ok a) × SameName the_names plan a u
  child_found s u child =
      let one = means.each_planned u child.0 child.1 in
      let named : name_of text (one.1).name ≡ name_of text s = sym (one.3).name ∙ child.2 in
      let there : slice_get the_names one.0 ≡ Some (name_of text s) = get_map (written_name text) written one.0 one.1 one.2 ∙ ap (λ
      (x : List ℕ). Some x) named in
      let own : AllDiffer (map (λ (x : List ℕ). x) the_names) = λ i j x a b. (
      let first = get_unmap (λ (y : List ℕ). y) the_names i x a in
      let second = get_unmap (λ (y : List ℕ). y) the_names j x b in
      means.own_names i j x (first.1 ∙ ap (λ (y : List ℕ). Some y) first.2) (second.1 ∙ ap (λ (y : List ℕ). Some y) second.2)) in
      let at : position (bytes_eq (name_of text s)) the_names ≡ Some one.0 =
      named_found (λ (x : List ℕ). x) the_names (name_of text s) one.0 own (name_of text s, there, refl) in
      (one.0, ap (known s.from) at, record { name = name_of text s; written = there; node = child.0; planned = child.1; is = child.2 })

  kids_found : (s : Option (WrittenSpan × WrittenSpan)) (numbers : Option (ℕ × ℕ)) → IfWritten (MeansKids text plan) s numbers
      → (places : Option (ℕ × ℕ)) × (kids_of text the_names s ≡ Ok places) × IfWritten (SameKids the_names plan) places numbers
  kids_found None None h = (None, refl, tt)
  kids_found None (Some n) h = absurd h
  kids_found (Some s) None h = absurd h
  kids_found (Some s) (Some n) h =
      let left = child_found s.0 n.0 h.0 in
      let right = child_found s.1 n.1 h.1 in (
        Some (left.0, right.0),
        binds (kid_of text the_names s.0) (λ l. kid_of text the_names s.1 >>= λ r. Ok (Some (l, r))) left.0 (Some (left.0, right.0)) left.1
            (binds (kid_of text the_names s.1) (λ r. Ok (Some (left.0, r))) right.0 (Some (left.0, right.0)) right.1 refl),
        (left.2, right.2),
      )

  -- what is found of a written node
  abbrev IsDraft : WrittenNode → DraftNode → Type 0
  IsDraft v d = (node_of p text the_names v ≡ Ok d) × FitsAt text the_names plan d

  draft_found : (i : ℕ) (v : WrittenNode) → slice_get written i ≡ Some v → (d : DraftNode) × IsDraft v d
  unfolding node_of
  draft_found i v here =
      let one = means.each_written i v here in
      let node = one.1 in
      let is = one.3 in
      let preds = preds_found p text v.preds node.preds is.preds in
      let kids = kids_found v.kids node.kids is.kids in
      let d : DraftNode = record { name = v.name; preds = preds.drafts; kids = kids.0 } in (
        d,
        (
          binds (found_of_each (pred_of p text) v.preds) (λ q. kids_of text the_names v.kids >>= λ k. Ok (record { name = v.name; preds = q; kids = k }))
              preds.drafts d (finds_each (pred_of p text) v.preds preds.drafts preds.found)
              (binds (kids_of text the_names v.kids) (λ k. Ok (record { name = v.name; preds = preds.drafts; kids = k })) kids.0 d kids.1 refl),
          record { number = one.0; node = node; planned = one.2; fits = record { name = sym is.name; preds = preds.are; kids = kids.2 } },
        ),
      )

  pub drafts_found : (drafts : List DraftNode) × Pairs IsDraft written drafts
  drafts_found = pairs_made IsDraft written draft_found

-- ---- what is known of the nodes that are found

pub record AreFound (text : List ℕ) (names : List (List ℕ)) (plan : List Node) (drafts : List DraftNode) : Type 0 where
  pub own_names : AllDiffer names
  pub plan_names : AllDiffer (map (λ (n : Node). n.name) plan)
  pub named : names ≡ map (λ (d : DraftNode). name_of text d.name) drafts
  pub fits : (a : ℕ) (d : DraftNode) → slice_get drafts a ≡ Some d → FitsAt text names plan d
  pub all : (u : ℕ) (n : Node) → slice_get plan u ≡ Some n → (a : ℕ) × SameName names plan a u

module _ (text : List ℕ) (names : List (List ℕ)) (plan : List Node) (drafts : List DraftNode) (found : AreFound text names plan drafts) where
  -- a name stands at one place, and has one number
  pub one_place : (a b u : ℕ) → SameName names plan a u → SameName names plan b u → a ≡ b
  one_place a b u one two =
      let node : one.node ≡ two.node = some_same one.node two.node (sym one.planned ∙ two.planned) in
      let name : two.name ≡ one.name = sym two.is ∙ ap (λ (n : Node). n.name) (sym node) ∙ one.is in
      found.own_names a b one.name one.written (two.written ∙ ap (λ (x : List ℕ). Some x) name)

  pub one_number : (a u v : ℕ) → SameName names plan a u → SameName names plan a v → u ≡ v
  one_number a u v one two =
      let name : one.name ≡ two.name = some_same one.name two.name (sym one.written ∙ two.written) in
      found.plan_names u v one.name (get_map (λ (n : Node). n.name) plan u one.node one.planned ∙ ap (λ (x : List ℕ). Some x) one.is)
      (get_map (λ (n : Node). n.name) plan v two.node two.planned ∙ ap (λ (x : List ℕ). Some x) (two.is ∙ sym name))

  -- the node of a place has the number of its name
  pub place_fits : (a : ℕ) (d : DraftNode) (here : slice_get drafts a ≡ Some d) → SameName names plan a (found.fits a d here).number
  place_fits a d here =
      let at = found.fits a d here in record {
        name = name_of text d.name;
        written = ap (λ (l : List (List ℕ)). slice_get l a) found.named ∙ get_map (λ (x : DraftNode). name_of text x.name) drafts a d here;
        node = at.node;
        planned = at.planned;
        is = sym at.fits.name;
      }

  pub draft_at : (a u : ℕ) (n : Node) → SameName names plan a u → slice_get plan u ≡ Some n → (d : DraftNode) × (slice_get drafts a ≡ Some d)
      × Fits text names plan d n
  draft_at a u n same there =
      let one = get_unmap (λ (x : DraftNode). name_of text x.name) drafts a same.name (ap (λ (l : List (List ℕ)). slice_get l a) (sym found.named)
      ∙ same.written) in
      let at = found.fits a one.0 one.1 in
      let number : at.number ≡ u = one_number a at.number u (place_fits a one.0 one.1) same in
      let node : at.node ≡ n = some_same at.node n (sym at.planned ∙ ap (slice_get plan) number ∙ there) in
      (one.0, one.1, subst (λ (x : Node). Fits text names plan one.0 x) node at.fits)

  -- ---- the walk

  abbrev IsAt : ℕ → Visit → Type 0
  IsAt u x = SameName names plan x.node u

  abbrev pub Follows : ℕ → List Visit → List Node → Type 0
  Follows w [] [] = Unit {0}
  Follows w [] (n ∷ rest) = ⊥
  Follows w (x ∷ order) [] = ⊥
  Follows w (x ∷ order) (n ∷ rest) = SameName names plan x.node w × Follows (w + 1) order rest

  kids_wanted : (d : ℕ) (places numbers : Option (ℕ × ℕ)) (wanted : List ℕ) (visits : List Visit) → IfWritten (SameKids names plan) places numbers
      → Pairs IsAt wanted visits → Pairs IsAt (tree_kids numbers wanted) (with_visits d places visits)
  kids_wanted d None None wanted visits h all = all
  kids_wanted d None (Some n) wanted visits h all = absurd h
  kids_wanted d (Some a) None wanted visits h all = absurd h
  kids_wanted d (Some a) (Some n) wanted visits h all = (h.0, (h.1, all))

  kids_depths : (d : ℕ) (places numbers : Option (ℕ × ℕ)) (visits : List Visit) → IfWritten (SameKids names plan) places numbers
      → map (λ (x : Visit). x.depth) (with_visits d places visits) ≡ with_depths d numbers (map (λ (x : Visit). x.depth) visits)
  kids_depths d None None visits h = refl
  kids_depths d None (Some n) visits h = absurd h
  kids_depths d (Some a) None visits h = absurd h
  kids_depths d (Some a) (Some n) visits h = refl

  -- what is walked are the nodes of the plan from a number on, with their depths
  pub record Walks (w : ℕ) (order visits : List Visit) (rest : List Node) : Type 0 where
    pub follows : Follows w order rest
    pub depths : map (λ (x : Visit). x.depth) order ≡ depths_below (map (λ (x : Visit). x.depth) visits) rest

  pub walks : (k w : ℕ) (wanted : List ℕ) (visits : List Visit) (rest : List Node) → are_subtrees w wanted rest ≡ true → Pairs IsAt wanted visits
      → ((i : ℕ) (n : Node) → slice_get rest i ≡ Some n → slice_get plan (w + i) ≡ Some n) → length rest ≤ k → Walks w (walk drafts k visits) visits rest
  unfolding walk
  walks zero w [] [] [] e all suffix few = record { follows = tt; depths = refl }
  walks (suc k) w [] [] [] e all suffix few = record { follows = tt; depths = refl }
  walks k w [] (x ∷ visits) rest e all suffix few = absurd all
  walks k w [] [] (n ∷ rest) e all suffix few = absurd cc
  walks k w (v ∷ wanted) [] rest e all suffix few = absurd all
  walks k w (v ∷ wanted) (x ∷ visits) [] e all suffix few = absurd cc
  walks zero w (v ∷ wanted) (x ∷ visits) (n ∷ rest) e all suffix few = absurd (omega arith)
  walks (suc k) w (v ∷ wanted) (x ∷ visits) (n ∷ rest) e all suffix few =
      let more = are_subtrees (w + 1) (tree_kids n.kids wanted) rest in
      let number : v ≡ w = true_eq v w (and_left (v == w) more e) in
      let same : SameName names plan x.node w = subst (λ (u : ℕ). SameName names plan x.node u) number all.0 in
      let draft = draft_at x.node w n same (ap (slice_get plan) (omega arith) ∙ suffix 0 n refl) in
      let kids : kids_at drafts x.node ≡ (draft.0).kids = ap kids_of_node draft.1 in
      let next = walks k (w + 1) (tree_kids n.kids wanted) (with_visits x.depth (draft.0).kids visits) rest (and_right (v == w) more e)
      (kids_wanted x.depth (draft.0).kids n.kids wanted visits (draft.2).kids all.1)
      (λ i m there. ap (slice_get plan) (omega arith) ∙ suffix (suc i) m there) (omega arith) in
      let steps : Walks (w + 1) (walk drafts k (with_visits x.depth (kids_at drafts x.node) visits)) (with_visits x.depth (draft.0).kids visits) rest =
      subst (λ (o : Option (ℕ × ℕ)). Walks (w + 1) (walk drafts k (with_visits x.depth o visits)) (with_visits x.depth (draft.0).kids visits) rest)
      (sym kids) next in
      record {
        follows = (same, steps.follows);
        depths =
            ap (λ (l : List ℕ). x.depth ∷ l) (steps.depths
            ∙ ap (λ (l : List ℕ). depths_below l rest) (kids_depths x.depth (draft.0).kids n.kids visits (draft.2).kids));
      }

  -- ---- what follows the plan, by number
  pub followed : (w : ℕ) (order : List Visit) (rest : List Node) → Follows w order rest → (i : ℕ) (x : Visit) → slice_get order i ≡ Some x
      → SameName names plan x.node (w + i)
  followed w [] rest h i x e = absurd cc
  followed w (y ∷ order) [] h i x e = absurd h
  followed w (y ∷ order) (n ∷ rest) h zero x e =
      let place : w ≡ w + 0 = omega arith in
      subst (λ (u : ℕ). SameName names plan x.node u) place (subst (λ (z : Visit). SameName names plan z.node w) (some_same y x e) h.0)
  followed w (y ∷ order) (n ∷ rest) h (suc i) x e =
      let place : w + 1 + i ≡ w + suc i = omega arith in
      subst (λ (u : ℕ). SameName names plan x.node u) place (followed (w + 1) order rest h.1 i x e)

  pub follower : (w : ℕ) (order : List Visit) (rest : List Node) → Follows w order rest → (i : ℕ) (n : Node) → slice_get rest i ≡ Some n
      → (x : Visit) × (slice_get order i ≡ Some x)
  follower w order [] h i n e = absurd cc
  follower w [] (m ∷ rest) h i n e = absurd h
  follower w (y ∷ order) (m ∷ rest) h zero n e = (y, refl)
  follower w (y ∷ order) (m ∷ rest) h (suc i) n e = follower (w + 1) order rest h.1 i n e
