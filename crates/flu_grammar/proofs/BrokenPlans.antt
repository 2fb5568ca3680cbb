-- Each fault that the reader finds in a plan text is by a rule that the text breaks.
use Rattle.std.proofs.Common.{◌≡◌, ℕ, zero, suc, ◌+◌, ◌<◌, ◌≤◌, Bool, true, false, List, [], ◌∷◌, ◌++◌, length}
use Rattle.std.proofs.Common.{Option, Some, None, Ok, Err, inl, inr, refl, sym, ap, subst, ◌∙◌, append_assoc, arith}
use Rattle.std.specs.Prelude.{not, ◌==◌, nat_lt, nat_le, slice_get}
use Rattle.std.specs.List.{list_any, flat_map, position, position_or_len}
use Rattle.std.specs.Str.{bytes_eq, is_utf8}
use Rattle.std.specs.Str.Lossy.{utf8_valid_len}
use Rattle.std.proofs.lemmas.List.{append-nil}
use Rattle.std.proofs.lemmas.Str.{IsUtf8-from_is_utf8, is_utf8-from_IsUtf8}
use Rattle.flu_lemmas.specs.Items.{Pairs}
use Rattle.flu_lemmas.specs.Loops.{◌>>=◌, ◌>>◌, each}
use Rattle.flu_lemmas.proofs.Loops.{bind_ok, collect}
use Rattle.flu_lemmas.proofs.Tests.{not_both, true_le, true_eq}
use Rattle.flu_lemmas.proofs.Totals.{sum_by-total}
use Rattle.flu_lemmas.proofs.Bytes.{bytes_itself}
use Rattle.flu_model.specs.declared.limits.What.TheVariants.{Bytes, Nodes, Predicates, Depth, Key}
use Rattle.flu_model.specs.declared.jobs.Program.{Program}
use Rattle.flu_model.specs.Contents.{key_count}
use Rattle.flu_text.specs.declared.words.Token.{Token}
use Rattle.flu_text.specs.declared.written.WrittenSpan.{WrittenSpan}
use Rattle.flu_text.specs.declared.written.WrittenNumber.{WrittenNumber}
use Rattle.flu_text.specs.declared.written.WrittenKeys.{WrittenKeys}
use Rattle.flu_text.specs.declared.written.WrittenKeys.TheVariants as ks
use Rattle.flu_text.specs.Reading.{reading, Reading as TokenReading}
use Rattle.flu_text.specs.Laws.{ReadingIsTokens, ReadingIsBadPlace}
use Rattle.flu_layout.specs.Spelling.{name_of, written_value}
use Rattle.flu_plan.specs.declared.fault.PlanFault.{PlanFault}
use Rattle.flu_plan.specs.declared.fault.PlanFault.TheVariants as f
use Rattle.flu_plan.specs.declared.written.WrittenPred.{WrittenPred}
use Rattle.flu_plan.specs.declared.written.WrittenNode.{WrittenNode}
use Rattle.flu_plan.specs.declared.drafts.DraftPred.{DraftPred}
use Rattle.flu_plan.specs.declared.drafts.DraftNode.{DraftNode}
use Rattle.flu_plan.specs.declared.drafts.Visit.{Visit}
use Rattle.flu_plan.specs.Faults.{unless}
use Rattle.flu_plan.specs.Machine.{written_in}
use Rattle.flu_plan.specs.Grammar.{FoundIsPlan, UnexpectedIsFirst}
use Rattle.flu_plan.specs.Resolving.{with_name, names_of, kind_named, source_named, known, kind_of, source_of, pred_of, kid_of, kids_of, node_of, nodes_of}
use Rattle.flu_plan.specs.Shape.{name_of_node, name_at, with_child, with_kids_of, with_kids, children_of, preorder, is_met, below, all_below}
use Rattle.flu_plan.specs.Limits.{small_key, small_keys, keys_of_pred, keys_of_node, keys_of_nodes, predicates, are_shallow, within_limits}
use Rattle.flu_plan.specs.Numbering.{planned}
use Rattle.flu_plan.specs.Reading.{text_in, found_tokens, tokens_in, tree_in, resolved, plan_in}
use Rattle.flu_grammar.specs.Means.{IfWritten}
use Rattle.flu_grammar.specs.Faults.{NoneIsNamed}
use Rattle.flu_grammar.specs.BrokenJobs.{IsWrittenKey}
use Rattle.flu_grammar.specs.BrokenPlans.{kind_name, source_name, node_names, itself, BreaksPred, pred_kind, pred_source, BreaksNode}
use Rattle.flu_grammar.specs.BrokenPlans.{in_pred, left_unknown, right_unknown, names_of_kids, child_names, placed_names, BreaksPlan}
use Rattle.flu_grammar.specs.BrokenPlans.{node_twice, in_node, child_twice, not_below, too_many_nodes, too_many_preds, too_deep, pred_key}
use Rattle.flu_grammar.specs.BrokenPlans.{IsFaultOfPlan, too_many_bytes, not_utf8, no_token, not_continued, of_nodes, PlanFaultsAreByRule}
use Rattle.flu_grammar.proofs.FaultKinds.{FaultsAre, no_fault, one_fault, faults_bind}
use Rattle.flu_grammar.proofs.Broken.{faults_found, fault_where, faults_where, faults_thens, faults_weaker}
use Rattle.flu_grammar.proofs.Broken.{at_element, element_there, fails_somewhere, not_less, not_most}
use Rattle.flu_grammar.proofs.BrokenJobs.{pairs_total}
use Rattle.flu_grammar.proofs.Faults as faults
use Rattle.flu_grammar.proofs.Lists.{some_same, get_map, get_unmap, differ_none, met_at, pairs_left, pairs_right, pairs_length, pairs_push}
use Rattle.flu_grammar.proofs.Looks.{ok_same, passed, Finds, found_each}
use Rattle.flu_grammar.proofs.PlanMachine.{machine_faults}
use Rattle.flu_grammar.proofs.PlanParts.{node_drawn, KidNamed, kids_named}
use Rattle.flu_grammar.proofs.PlanRead.{names_added}
use Rattle.flu_grammar.proofs.PlanTexts.{tokens_are}

-- ---- names that are unknown

known_where : (P : PlanFault → Type 0) (at : ℕ) (o : Option ℕ) → (o ≡ None → P (f.UnknownName at)) → FaultsAre P (known at o)
known_where P at None p e h = let same : f.UnknownName at ≡ e = cc in subst P same (p refl)
known_where P at (Some x) p e h = absurd cc

none_named : {X : Type 0} (name : X → List ℕ) (xs : List X) (s : List ℕ) → position (λ (x : X). bytes_eq s (name x)) xs ≡ None → NoneIsNamed name xs s
none_named {X} name xs s none = λ i x there same. faults.no_place (λ (z : X). bytes_eq s (name z)) xs i x none there
    (subst (λ (n : List ℕ). bytes_eq s n ≡ true) (sym same) (bytes_itself s))

module _ (p : Program) (text : List ℕ) (written : List WrittenNode) where
  abbrev names : List (List ℕ)
  names = node_names text written

  abbrev Plan : PlanFault → Type 0
  Plan fault = BreaksPlan p text written fault

  abbrev Node : WrittenNode → PlanFault → Type 0
  Node w fault = BreaksNode p text written w fault

  kind_breaks : (w : WrittenPred) (o : Option WrittenSpan) → w.kind ≡ o → FaultsAre (BreaksPred p text w) (kind_of p text o)
  kind_breaks w None is = no_fault (BreaksPred p text w) None
  kind_breaks w (Some s) is =
      faults_bind (BreaksPred p text w) (known s.from (kind_named p.kinds (name_of text s))) (λ n. Ok (Some n))
      (known_where (BreaksPred p text w) s.from (kind_named p.kinds (name_of text s))
      (λ none. pred_kind s is (none_named kind_name p.kinds (name_of text s) none))) (λ n. no_fault (BreaksPred p text w) (Some n))

  source_breaks : (w : WrittenPred) (o : Option WrittenSpan) → w.source ≡ o → FaultsAre (BreaksPred p text w) (source_of p text o)
  source_breaks w None is = no_fault (BreaksPred p text w) None
  source_breaks w (Some s) is =
      faults_bind (BreaksPred p text w) (known s.from (source_named p.sources (name_of text s))) (λ n. Ok (Some n))
      (known_where (BreaksPred p text w) s.from (source_named p.sources (name_of text s))
      (λ none. pred_source s is (none_named source_name p.sources (name_of text s) none))) (λ n. no_fault (BreaksPred p text w) (Some n))

  pred_breaks : (w : WrittenPred) → FaultsAre (BreaksPred p text w) (pred_of p text w)
  unfolding pred_of
  pred_breaks w =
      faults_bind (BreaksPred p text w) (kind_of p text w.kind) (λ kind. source_of p text w.source >>= λ source. Ok
      (record { kind = kind; keys = w.keys; source = source })) (kind_breaks w w.kind refl)
      (λ kind. faults_bind (BreaksPred p text w) (source_of p text w.source) (λ source. Ok (record { kind = kind; keys = w.keys; source = source }))
      (source_breaks w w.source refl) (λ source. no_fault (BreaksPred p text w) (record { kind = kind; keys = w.keys; source = source })))

  kids_break : (w : WrittenNode) (o : Option (WrittenSpan × WrittenSpan)) → w.kids ≡ o → FaultsAre (Node w) (kids_of text names o)
  kids_break w None is = no_fault (Node w) None
  kids_break w (Some kids) is =
      faults_bind (Node w) (kid_of text names kids.0) (λ left. kid_of text names kids.1 >>= λ right. Ok (Some (left, right)))
      (known_where (Node w) (kids.0).from (position (bytes_eq (name_of text kids.0)) names)
      (λ none. left_unknown kids.0 kids.1 is (none_named itself names (name_of text kids.0) none)))
      (λ left. faults_bind (Node w) (kid_of text names kids.1) (λ right. Ok (Some (left, right)))
      (known_where (Node w) (kids.1).from (position (bytes_eq (name_of text kids.1)) names)
      (λ none. right_unknown kids.0 kids.1 is (none_named itself names (name_of text kids.1) none)))
      (λ right. no_fault (Node w) (Some (left, right))))

  node_breaks : (w : WrittenNode) → FaultsAre (Node w) (node_of p text names w)
  unfolding node_of
  node_breaks w =
      faults_bind (Node w) (each (collect (pred_of p text)) [] w.preds) (λ preds. kids_of text names w.kids >>= λ kids. Ok
      (record { name = w.name; preds = preds; kids = kids })) preds_break
      (λ preds. faults_bind (Node w) (kids_of text names w.kids) (λ kids. Ok (record { name = w.name; preds = preds; kids = kids }))
      (kids_break w w.kids refl) (λ kids. no_fault (Node w) (record { name = w.name; preds = preds; kids = kids })))
    where
      preds_break : FaultsAre (Node w) (each (collect (pred_of p text)) [] w.preds)
      preds_break e h =
          let found = at_element (collect (pred_of p text)) [] w.preds e h in
          faults_bind (Node w) (pred_of p text found.x) (λ y. Ok (found.state ++ y ∷ []))
          (faults_weaker (Node w) (BreaksPred p text found.x) (pred_of p text found.x)
          (λ fault broken. in_pred (length found.before) found.x fault (element_there w.preds found.before found.after found.x found.is) broken)
          (pred_breaks found.x)) (λ y. no_fault (Node w) (found.state ++ y ∷ [])) e found.fault

  nodes_break : FaultsAre Plan (nodes_of p text names written)
  nodes_break e h =
      let found = at_element (collect (node_of p text names)) [] written e h in
      faults_bind Plan (node_of p text names found.x) (λ y. Ok (found.state ++ y ∷ []))
      (faults_weaker Plan (Node found.x) (node_of p text names found.x)
      (λ fault broken. in_node (length found.before) found.x fault (element_there written found.before found.after found.x found.is) broken)
      (node_breaks found.x)) (λ y. no_fault Plan (found.state ++ y ∷ [])) e found.fault

  -- ---- names that are given twice

  abbrev IsTree : PlanFault → Type 0
  IsTree (f.NotATree name) = Unit {0}
  IsTree _ = ⊥

  names_tree : FaultsAre IsTree (names_of text written)
  unfolding with_name
  names_tree e h =
      let found = at_element (with_name text) [] written e h in
      faults_where IsTree (not (list_any (bytes_eq (name_of text (found.x).name)) found.state)) (f.NotATree (name_of text (found.x).name))
      (Ok (found.state ++ name_of text (found.x).name ∷ [])) (λ fails. tt)
      (λ yes. no_fault IsTree (found.state ++ name_of text (found.x).name ∷ [])) e found.fault

  names_break : FaultsAre Plan (names_of text written)
  names_break (f.NotATree name) h = node_twice name (faults.node_twice text written name h)
  names_break (f.BadToken at) h = absurd (names_tree (f.BadToken at) h)
  names_break (f.Unexpected at) h = absurd (names_tree (f.Unexpected at) h)
  names_break (f.UnknownName at) h = absurd (names_tree (f.UnknownName at) h)
  names_break (f.OverLimit what count) h = absurd (names_tree (f.OverLimit what count) h)
  names_break f.NoMemory h = absurd (names_tree f.NoMemory h)

  -- ---- the tree of the drafts

  module _ (drafts : List DraftNode) (are : nodes_of p text names written ≡ Ok drafts) where
    abbrev Draws : WrittenNode → DraftNode → Type 0
    Draws w d = Finds (node_of p text names) w d

    pairs : Pairs Draws written drafts
    pairs = found_each (node_of p text names) written drafts are

    -- a name, and the place of its node
    abbrev IsPlaced : List ℕ → ℕ → Type 0
    IsPlaced name v = slice_get names v ≡ Some name

    name_there : (name : List ℕ) (v : ℕ) → IsPlaced name v → name_at text drafts v ≡ name
    name_there name v placed =
        let one = get_unmap (λ (w : WrittenNode). name_of text w.name) written v name placed in
        let two = pairs_left Draws written drafts pairs v one.0 one.1 in
        let drawn = node_drawn p text names one.0 two.0 two.2 in
        ap (name_of_node text) two.1 ∙ (ap (name_of text) drawn.name ∙ one.2)

    abbrev placed : List (List ℕ)
    placed = placed_names text written

    get_behind : (ns rest : List (List ℕ)) (name : List ℕ) → slice_get (ns ++ name ∷ rest) (length ns) ≡ Some name
    get_behind ns rest name = element_there (ns ++ name ∷ rest) ns rest name refl

    get_before : (ns rest : List (List ℕ)) (i : ℕ) (name : List ℕ) → slice_get ns i ≡ Some name → slice_get (ns ++ rest) i ≡ Some name
    get_before [] rest i name here = absurd cc
    get_before (x ∷ ns) rest zero name here = here
    get_before (x ∷ ns) rest (suc i) name here = get_before ns rest i name here

    get_less : (ns : List (List ℕ)) (i : ℕ) (name : List ℕ) → slice_get ns i ≡ Some name → i < length ns
    get_less [] i name here = absurd cc
    get_less (x ∷ ns) zero name here = omega arith
    get_less (x ∷ ns) (suc i) name here = let less = get_less ns i name here in omega (arith, less)

    -- one child more, behind the root and other children
    child_breaks : (ns : List (List ℕ)) (children : List ℕ) (name : List ℕ) (v : ℕ) (rest : List (List ℕ)) → Pairs IsPlaced ns children → IsPlaced name v
        → placed ≡ ns ++ name ∷ rest → FaultsAre Plan (with_child text drafts children v)
    unfolding with_child
    child_breaks ns children name v rest so_far here is =
        faults_where Plan (not (list_any (λ u. v == u) children)) (f.NotATree (name_at text drafts v)) (Ok (children ++ v ∷ []))
        (λ fails. again (list_any (λ u. v == u) children) refl fails) (λ yes. no_fault Plan (children ++ v ∷ []))
      where
        again : (b : Bool) → list_any (λ u. v == u) children ≡ b → not b ≡ false → Plan (f.NotATree (name_at text drafts v))
        again false any fails = absurd cc
        again true any fails =
            let met = met_at (λ u. v == u) children any in
            let got = pairs_right IsPlaced ns children so_far (position_or_len (λ u. v == u) children) met.0 met.1 in
            let same : got.0 ≡ name = some_same got.0 name (sym got.2 ∙ ap (slice_get names) (sym (true_eq v met.0 met.2)) ∙ here) in
            let there = got.1 ∙ ap (λ (n : List ℕ). Some n) same in
            subst (λ (n : List ℕ). Plan (f.NotATree n)) (sym (name_there name v here)) (child_twice name (record {
              first = position_or_len (λ u. v == u) children;
              second = length ns;
              apart = get_less ns (position_or_len (λ u. v == u) children) name there;
              one = ap (λ l. slice_get l (position_or_len (λ u. v == u) children)) is
                  ∙ get_before ns (name ∷ rest) (position_or_len (λ u. v == u) children) name there;
              other = ap (λ l. slice_get l (length ns)) is ∙ get_behind ns rest name;
            }))

    child_added : (ns : List (List ℕ)) (children more : List ℕ) (name : List ℕ) (v : ℕ) → Pairs IsPlaced ns children → IsPlaced name v
        → with_child text drafts children v ≡ Ok more → Pairs IsPlaced (ns ++ name ∷ []) more
    unfolding with_child
    child_added ns children more name v so_far here e =
        let one = passed (not (list_any (λ u. v == u) children)) (f.NotATree (name_at text drafts v)) (Ok (children ++ v ∷ [])) more e in
        subst (Pairs IsPlaced (ns ++ name ∷ [])) (ok_same (children ++ v ∷ []) more one.1) (pairs_push IsPlaced ns children name v so_far here)

    -- the children of one node more
    both_break : (ns : List (List ℕ)) (children : List ℕ) (s : Option (WrittenSpan × WrittenSpan)) (kids : Option (ℕ × ℕ)) (rest : List (List ℕ))
        → Pairs IsPlaced ns children → IfWritten (KidNamed text names) s kids → placed ≡ ns ++ (names_of_kids text s ++ rest)
        → FaultsAre Plan (with_kids_of text drafts children kids)
    both_break ns children None None rest so_far named is = no_fault Plan children
    both_break ns children None (Some kids) rest so_far named is = absurd named
    both_break ns children (Some spans) None rest so_far named is = absurd named
    both_break ns children (Some spans) (Some kids) rest so_far named is =
        faults_found Plan (with_child text drafts children kids.0) (λ more. with_child text drafts more kids.1)
        (child_breaks ns children (name_of text spans.0) kids.0 (name_of text spans.1 ∷ rest) so_far named.0 is)
        (λ more e. child_breaks (ns ++ name_of text spans.0 ∷ []) more (name_of text spans.1) kids.1 rest
        (child_added ns children more (name_of text spans.0) kids.0 so_far named.0 e) named.1
        (is ∙ sym (append_assoc ns (name_of text spans.0 ∷ []) (name_of text spans.1 ∷ rest))))

    both_added : (ns : List (List ℕ)) (children more : List ℕ) (s : Option (WrittenSpan × WrittenSpan)) (kids : Option (ℕ × ℕ))
        → Pairs IsPlaced ns children → IfWritten (KidNamed text names) s kids → with_kids_of text drafts children kids ≡ Ok more
        → Pairs IsPlaced (ns ++ names_of_kids text s) more
    both_added ns children more None None so_far named e =
        subst (λ l. Pairs IsPlaced l more) (sym (append-nil ns)) (subst (Pairs IsPlaced ns) (ok_same children more e) so_far)
    both_added ns children more None (Some kids) so_far named e = absurd named
    both_added ns children more (Some spans) None so_far named e = absurd named
    both_added ns children more (Some spans) (Some kids) so_far named e =
        let one = bind_ok (with_child text drafts children kids.0) (λ more. with_child text drafts more kids.1) more e in
        subst (λ l. Pairs IsPlaced l more) (append_assoc ns (name_of text spans.0 ∷ []) (name_of text spans.1 ∷ []))
        (child_added (ns ++ name_of text spans.0 ∷ []) one.0 more (name_of text spans.1) kids.1
        (child_added ns children one.0 (name_of text spans.0) kids.0 so_far named.0 one.1) named.1 one.2)

    rest_breaks : (ns : List (List ℕ)) (children : List ℕ) (ws : List WrittenNode) (ds : List DraftNode) → Pairs Draws ws ds → Pairs IsPlaced ns children
        → placed ≡ ns ++ flat_map (child_names text) ws → FaultsAre Plan (each (with_kids text drafts) children ds)
    unfolding each with_kids
    rest_breaks ns children [] [] h so_far is = no_fault Plan children
    rest_breaks ns children [] (d ∷ ds) h so_far is = absurd h
    rest_breaks ns children (w ∷ ws) [] h so_far is = absurd h
    rest_breaks ns children (w ∷ ws) (d ∷ ds) h so_far is =
        let drawn = node_drawn p text names w d h.0 in
        let named = kids_named text names w.kids d.kids drawn.kids in
        faults_found Plan (with_kids_of text drafts children d.kids) (λ t. each (with_kids text drafts) t ds)
        (both_break ns children w.kids d.kids (flat_map (child_names text) ws) so_far named is)
        (λ more e. rest_breaks (ns ++ child_names text w) more ws ds h.1 (both_added ns children more w.kids d.kids so_far named e)
        (is ∙ sym (append_assoc ns (child_names text w) (flat_map (child_names text) ws))))

    children_break : (ws : List WrittenNode) → written ≡ ws → FaultsAre Plan (children_of text drafts)
    unfolding each
    children_break [] is = no_nodes drafts (subst (λ (l : List WrittenNode). Pairs Draws l drafts) is pairs)
      where
        no_nodes : (ds : List DraftNode) → Pairs Draws [] ds → FaultsAre Plan (each (with_kids text drafts) (0 ∷ []) ds)
        no_nodes [] none = no_fault Plan (0 ∷ [])
        no_nodes (d ∷ ds) none = absurd none
    children_break (root ∷ ws) is =
        rest_breaks (name_of text root.name ∷ []) (0 ∷ []) written drafts pairs (
          get_map (λ (w : WrittenNode). name_of text w.name) written 0 root
              (ap (λ (l : List WrittenNode). slice_get l 0) is),
          tt,
        )
        (ap (placed_names text) is ∙ ap (λ (l : List WrittenNode). name_of text root.name ∷ flat_map (child_names text) l) (sym is))

    -- ---- the nodes below the root

    below_counts : (order : List Visit) (v m : ℕ) (ds : List DraftNode) → each (below text order) v ds ≡ Ok m → m ≡ v + length ds
    unfolding each below
    below_counts order v m [] e = let same = ok_same v m e in omega (arith, same)
    below_counts order v m (d ∷ ds) e =
        let one = bind_ok (unless (is_met order v) (f.NotATree (name_of text d.name)) >> Ok (v + 1)) (λ t. each (below text order) t ds) m e in
        let two = passed (is_met order v) (f.NotATree (name_of text d.name)) (Ok (v + 1)) one.0 one.1 in
        let next = ok_same (v + 1) one.0 two.1 in
        let more = below_counts order one.0 m ds one.2 in
        omega (arith, next, more)

    below_breaks : FaultsAre Plan (all_below text (preorder drafts) drafts)
    unfolding below
    below_breaks e h =
        let order = preorder drafts in
        let found = at_element (below text order) 0 drafts e h in
        let v = found.state in
        let count = below_counts order 0 v found.before found.reached in
        let place : length found.before ≡ v = omega (arith, count) in
        let here : slice_get drafts v ≡ Some found.x = ap (slice_get drafts) (sym place) ∙ element_there drafts found.before found.after found.x found.is in
        let got = pairs_right Draws written drafts pairs v found.x here in
        let drawn = node_drawn p text names got.0 found.x got.2 in
        faults_where Plan (is_met order v) (f.NotATree (name_of text (found.x).name)) (Ok (v + 1))
        (λ fails. subst (λ (s : WrittenSpan). Plan (f.NotATree (name_of text s))) (sym drawn.name) (not_below drafts v got.0 are got.1 fails))
        (λ yes. no_fault Plan (v + 1)) e found.fault

    -- ---- limits

    preds_counted : (w : WrittenNode) (d : DraftNode) → Draws w d → length w.preds ≡ length d.preds
    preds_counted w d is = sym (pairs_length (Finds (pred_of p text)) w.preds d.preds (node_drawn p text names w d is).preds)

    keys_kept : (v : WrittenPred) (q : DraftPred) → pred_of p text v ≡ Ok q → v.keys ≡ q.keys
    unfolding pred_of
    keys_kept v q e =
        let one = bind_ok (kind_of p text v.kind) (λ kind. source_of p text v.source >>= λ source. Ok (record {
          kind = kind;
          keys = v.keys;
          source = source;
        })) q e in
        let two = bind_ok (source_of p text v.source) (λ source. Ok (record { kind = one.0; keys = v.keys; source = source })) q one.2 in
        ap (λ (x : DraftPred). x.keys) (ok_same (record { kind = one.0; keys = v.keys; source = two.0 }) q two.2)

    -- a key that is too great
    abbrev IsGreat : WrittenKeys → PlanFault → Type 0
    IsGreat written fault = (n : WrittenNumber) × IsWrittenKey written n × (key_count ≤ written_value n.value)
        × (fault ≡ f.OverLimit Key (written_value n.value))

    great_breaks : (written : WrittenKeys) → FaultsAre (IsGreat written) (small_keys written)
    great_breaks ks.Alone = no_fault (IsGreat ks.Alone) tt
    great_breaks (ks.One n) =
        fault_where (IsGreat (ks.One n)) (nat_lt (written_value n.value) key_count) (f.OverLimit Key (written_value n.value))
        (λ fails. (n, refl, not_less (written_value n.value) key_count fails, refl))
    great_breaks (ks.Range low high) =
        faults_thens (IsGreat (ks.Range low high)) (small_key low) (small_key high)
        (fault_where (IsGreat (ks.Range low high)) (nat_lt (written_value low.value) key_count) (f.OverLimit Key (written_value low.value))
        (λ fails. (low, inl refl, not_less (written_value low.value) key_count fails, refl)))
        (λ u is. fault_where (IsGreat (ks.Range low high)) (nat_lt (written_value high.value) key_count) (f.OverLimit Key (written_value high.value))
        (λ fails. (high, inr refl, not_less (written_value high.value) key_count fails, refl)))

    keys_break : FaultsAre Plan (keys_of_nodes drafts)
    keys_break e h =
        let node = at_element keys_of_node tt drafts e h in
        let got = pairs_right Draws written drafts pairs (length node.before) node.x (element_there drafts node.before node.after node.x node.is) in
        let drawn = node_drawn p text names got.0 node.x got.2 in
        let preds = (node.x).preds in
        let q = at_element keys_of_pred tt preds e node.fault in
        let pred = pairs_right (Finds (pred_of p text)) (got.0).preds preds drawn.preds (length q.before) q.x (element_there preds q.before q.after q.x q.is) in
        let great = great_breaks (q.x).keys e q.fault in
        subst Plan (sym great.3) (pred_key (length node.before) got.0 (length q.before) pred.0 great.0 got.1 pred.1
        (subst (λ (l : WrittenKeys). IsWrittenKey l great.0) (sym (keys_kept pred.0 q.x pred.2)) great.1) great.2)

    limits_break : FaultsAre Plan (within_limits (preorder drafts) drafts)
    unfolding within_limits
    limits_break =
        let order = preorder drafts in
        let many = pairs_length Draws written drafts pairs in
        let one = sum_by-total (λ (w : WrittenNode). length w.preds) written in
        let two = sum_by-total (λ (d : DraftNode). length d.preds) drafts in
        let same = pairs_total Draws (λ (w : WrittenNode). length w.preds) (λ (d : DraftNode). length d.preds) preds_counted written drafts pairs in
        faults_where Plan (nat_le (length drafts) 127) (f.OverLimit Nodes 128)
        (unless (nat_le (predicates drafts) 4096) (f.OverLimit Predicates 4097) >> (unless (are_shallow order) (f.OverLimit Depth 7) >> keys_of_nodes drafts))
        (λ fails. too_many_nodes (let more = not_most (length drafts) 127 fails in omega (arith, many, more)))
        (λ yes. faults_where Plan (nat_le (predicates drafts) 4096) (f.OverLimit Predicates 4097)
        (unless (are_shallow order) (f.OverLimit Depth 7) >> keys_of_nodes drafts)
        (λ fails. too_many_preds (let more = not_most (predicates drafts) 4096 fails in omega (arith, one, two, same, more)))
        (λ yes. faults_where Plan (are_shallow order) (f.OverLimit Depth 7) (keys_of_nodes drafts)
        (λ fails. (let found = fails_somewhere (λ (v : Visit). nat_le v.depth 6) order fails in
        too_deep drafts found.0 found.1 are found.2 (not_most (found.1).depth 6 found.3))) (λ yes. keys_break)))

    tree_breaks : FaultsAre Plan (tree_in text drafts)
    unfolding tree_in
    tree_breaks =
        let order = preorder drafts in
        faults_thens Plan (children_of text drafts) (all_below text order drafts >> (within_limits order drafts >> Ok (planned text order drafts)))
        (children_break written refl)
        (λ a one. faults_thens Plan (all_below text order drafts) (within_limits order drafts >> Ok (planned text order drafts)) below_breaks
        (λ b two. faults_thens Plan (within_limits order drafts) (Ok (planned text order drafts)) limits_break
        (λ c three. no_fault Plan (planned text order drafts))))

  resolved_breaks : FaultsAre Plan (resolved p text written)
  unfolding resolved
  resolved_breaks =
      faults_found Plan (names_of text written) (λ ns. nodes_of p text ns written >>= λ nodes. tree_in text nodes) names_break
      (λ ns named. (let is : ns ≡ names = (names_added text [] written ns named differ_none).0 in
      subst (λ (l : List (List ℕ)). FaultsAre Plan (nodes_of p text l written >>= λ nodes. tree_in text nodes)) (sym is)
      (faults_found Plan (nodes_of p text names written) (λ nodes. tree_in text nodes) nodes_break (λ drafts are. tree_breaks drafts are))))

-- ---- texts

module _ (tokens : ReadingIsTokens) (place : ReadingIsBadPlace) (found : FoundIsPlan) (first : UnexpectedIsFirst) (p : Program) (bytes : List ℕ) where
  abbrev OfText : PlanFault → Type 0
  OfText fault = IsFaultOfPlan p bytes fault

  tokens_break : nat_le (length bytes) 1048576 ≡ true → is_utf8 bytes ≡ true → (r : TokenReading) → reading bytes ≡ r → FaultsAre OfText (found_tokens r)
  tokens_break few utf8 (Ok ts) is = no_fault OfText ts
  tokens_break few utf8 (Err at) is =
      one_fault OfText (f.BadToken at) (no_token at
      (record { short = true_le (length bytes) 1048576 few; utf8 = IsUtf8-from_is_utf8 bytes utf8 }) ((place bytes at).0 is))

  grammar_breaks : nat_le (length bytes) 1048576 ≡ true → is_utf8 bytes ≡ true → (ts : List Token) → tokens_in bytes ≡ Ok ts
      → FaultsAre OfText (written_in (length bytes) ts)
  grammar_breaks few utf8 ts read (f.Unexpected at) h =
      not_continued at ts (record { short = true_le (length bytes) 1048576 few; utf8 = IsUtf8-from_is_utf8 bytes utf8 })
      ((tokens bytes ts).0 (tokens_are (reading bytes) ts read)) (first (length bytes) ts at h)
  grammar_breaks few utf8 ts read (f.BadToken at) h = absurd (machine_faults (length bytes) ts (f.BadToken at) h)
  grammar_breaks few utf8 ts read (f.UnknownName at) h = absurd (machine_faults (length bytes) ts (f.UnknownName at) h)
  grammar_breaks few utf8 ts read (f.NotATree name) h = absurd (machine_faults (length bytes) ts (f.NotATree name) h)
  grammar_breaks few utf8 ts read (f.OverLimit what count) h = absurd (machine_faults (length bytes) ts (f.OverLimit what count) h)
  grammar_breaks few utf8 ts read f.NoMemory h = absurd (machine_faults (length bytes) ts f.NoMemory h)

  rest_breaks_text : nat_le (length bytes) 1048576 ≡ true → is_utf8 bytes ≡ true
      → FaultsAre OfText (tokens_in bytes >>= λ ts. written_in (length bytes) ts >>= λ written. resolved p bytes written)
  rest_breaks_text few utf8 =
      faults_found OfText (tokens_in bytes) (λ ts. written_in (length bytes) ts >>= λ written. resolved p bytes written)
      (tokens_break few utf8 (reading bytes) refl)
      (λ ts read. faults_found OfText (written_in (length bytes) ts) (λ written. resolved p bytes written) (grammar_breaks few utf8 ts read)
      (λ written is. faults_weaker OfText (BreaksPlan p bytes written) (resolved p bytes written)
      (λ fault broken. of_nodes ts written fault (record { short = true_le (length bytes) 1048576 few; utf8 = IsUtf8-from_is_utf8 bytes utf8 })
      ((tokens bytes ts).0 (tokens_are (reading bytes) ts read)) ((found (length bytes) ts written).0 is) broken)
      (resolved_breaks p bytes written)))

  text_breaks : FaultsAre OfText (plan_in p bytes)
  unfolding plan_in
  text_breaks =
      faults_where OfText (nat_le (length bytes) 1048576) (f.OverLimit Bytes 1048577)
      (text_in bytes >>= λ text. tokens_in text >>= λ ts. written_in (length text) ts >>= λ written. resolved p text written)
      (λ fails. too_many_bytes (not_most (length bytes) 1048576 fails))
      (λ few. faults_found OfText (text_in bytes) (λ text. tokens_in text >>= λ ts. written_in (length text) ts >>= λ written. resolved p text written)
      (faults_where OfText (is_utf8 bytes) (f.BadToken (utf8_valid_len bytes)) (Ok bytes)
      (λ fails. not_utf8 (true_le (length bytes) 1048576 few) (λ utf8. not_both (is_utf8 bytes) (is_utf8-from_IsUtf8 bytes utf8) fails))
      (λ yes. no_fault OfText bytes))
      (λ text is. (let one = passed (is_utf8 bytes) (f.BadToken (utf8_valid_len bytes)) (Ok bytes) text is in
      subst (λ (x : List ℕ). FaultsAre OfText (tokens_in x >>= λ ts. written_in (length x) ts >>= λ written. resolved p x written)) (ok_same bytes text one.1)
      (rest_breaks_text few one.0))))

pub plan_faults_are_by_rule : ReadingIsTokens → ReadingIsBadPlace → FoundIsPlan → UnexpectedIsFirst → PlanFaultsAreByRule
plan_faults_are_by_rule tokens place found first = λ p bytes fault e. text_breaks tokens place found first p bytes fault e
