-- What the written names of a plan mean is found.
use Rattle.std.proofs.Common.{◌≡◌, ℕ, Bool, true, false, List, [], ◌∷◌, ◌++◌, map, length, Option}
use Rattle.std.proofs.Common.{Some, None, Ok, refl, sym, ap, subst, ◌∙◌, append_assoc, arith}
use Rattle.std.specs.Prelude.{not, nat_lt}
use Rattle.std.specs.List.{list_any, list_all, position}
use Rattle.std.specs.Str.{bytes_eq}
use Rattle.std.proofs.lemmas.List.{append-nil}
use Rattle.flu_lemmas.specs.Items.{Pairs}
use Rattle.flu_lemmas.proofs.Places.{slice_get-behind}
use Rattle.flu_lemmas.proofs.Tests.{and_left, and_right, false_if_not}
use Rattle.flu_lemmas.proofs.Bytes.{bytes_itself, bytes_is}
use Rattle.flu_model.specs.declared.limits.What.TheVariants.{Key}
use Rattle.flu_model.specs.declared.jobs.Family.{Family}
use Rattle.flu_model.specs.declared.jobs.Kind.{Kind}
use Rattle.flu_model.specs.declared.jobs.Source.{Source}
use Rattle.flu_model.specs.declared.jobs.Keys.{Keys}
use Rattle.flu_model.specs.declared.jobs.Keys.TheVariants as keys
use Rattle.flu_model.specs.declared.jobs.Program.{Program}
use Rattle.flu_model.specs.declared.plans.Pred.{Pred}
use Rattle.flu_model.specs.Contents.{key_count}
use Rattle.flu_model.specs.Numberings.{Numbering}
use Rattle.flu_model.specs.Rules.{is_same_text, are_distinct}
use Rattle.flu_model.specs.PlanRules.{are_small_keys}
use Rattle.flu_text.specs.declared.written.WrittenSpan.{WrittenSpan}
use Rattle.flu_text.specs.declared.written.WrittenKeys.{WrittenKeys}
use Rattle.flu_text.specs.declared.written.WrittenKeys.TheVariants as w
use Rattle.flu_layout.specs.Spelling.{name_of, written_value}
use Rattle.flu_plan.specs.declared.fault.PlanFault.TheVariants as f
use Rattle.flu_plan.specs.declared.written.WrittenPred.{WrittenPred}
use Rattle.flu_plan.specs.declared.written.WrittenNode.{WrittenNode}
use Rattle.flu_plan.specs.declared.drafts.DraftPred.{DraftPred}
use Rattle.flu_plan.specs.Faults.{◌>>=◌, ◌>>◌, unless, each}
use Rattle.flu_plan.specs.Resolving.{with_name, known, kind_of, source_of, pred_of}
use Rattle.flu_plan.specs.Numbering.{planned_keys, planned_pred}
use Rattle.flu_plan.specs.Limits.{small_key, small_keys, keys_of_pred}
use Rattle.flu_grammar.specs.Means.{AllDiffer, IfWritten, IsNamed}
use Rattle.flu_grammar.specs.Plans.{MeansKind, MeansSource, MeansKeys, MeansPred}
use Rattle.flu_grammar.proofs.Lists.{get_front, get_below, get_map, differ_none, differ_tail, differ_cons, differ_front, any_none, any_there, position_only}
use Rattle.flu_grammar.proofs.Looks.{ok_ok, passes, binds, Finds}
use Rattle.flu_grammar.proofs.PlanRead.{written_name}

-- ---- names that differ

pub differ_back : {X : Type 0} (xs ys : List X) → AllDiffer (xs ++ ys) → AllDiffer ys
differ_back [] ys d = d
differ_back (x ∷ xs) ys d = differ_back xs ys (differ_tail x (xs ++ ys) d)

pub differ_from : (xs : List (List ℕ)) → are_distinct is_same_text xs ≡ true → AllDiffer xs
differ_from [] e = differ_none
differ_from (x ∷ xs) e =
    let new = and_left (not (list_any (is_same_text x) xs)) (are_distinct is_same_text xs) e in
    let more = differ_from xs (and_right (not (list_any (is_same_text x) xs)) (are_distinct is_same_text xs) e) in
    differ_cons x xs (λ i here. again (list_any (is_same_text x) xs) new (any_there (is_same_text x) xs i x here (bytes_itself x))) more
  where
    again : (b : Bool) → not b ≡ true → b ≡ true → ⊥
    again true a b = cc
    again false a b = cc

-- the only one of a name is found by it
pub named_found : {X : Type 0} (name : X → List ℕ) (xs : List X) (s : List ℕ) (i : ℕ) → AllDiffer (map name xs) → IsNamed name xs s i
    → position (λ x. bytes_eq s (name x)) xs ≡ Some i
named_found name xs s i d here =
    position_only (λ x. bytes_eq s (name x)) xs i here.0 here.1 (subst (λ (n : List ℕ). bytes_eq s n ≡ true) (sym here.2) (bytes_itself s))
    (λ j y at passes. d j i s (get_map name xs j y at ∙ ap (λ (n : List ℕ). Some n) (sym (bytes_is s (name y) passes)))
    (get_map name xs i here.0 here.1 ∙ ap (λ (n : List ℕ). Some n) here.2))

-- ---- predicates

-- the names of families, kinds and sources stand before those of lists
names_differ : (p : Program) → AllDiffer
    (map (λ (x : Family). x.name) p.families ++ map (λ (k : Kind). k.name) p.kinds ++ map (λ (s : Source). s.name) p.sources)
names_differ p =
    let families = map (λ (x : Family). x.name) p.families in
    let kinds = map (λ (k : Kind). k.name) p.kinds in
    let sources = map (λ (s : Source). s.name) p.sources in
    let lists = map (λ (l : Numbering). l.name) p.lists in
    differ_front (families ++ kinds ++ sources) lists (differ_from (families ++ kinds ++ sources ++ lists) p.own_names)

pub kinds_differ : (p : Program) → AllDiffer (map (λ (k : Kind). k.name) p.kinds)
kinds_differ p =
    let families = map (λ (x : Family). x.name) p.families in
    let kinds = map (λ (k : Kind). k.name) p.kinds in
    let sources = map (λ (s : Source). s.name) p.sources in
    differ_back families kinds (differ_front (families ++ kinds) sources (names_differ p))

pub sources_differ : (p : Program) → AllDiffer (map (λ (s : Source). s.name) p.sources)
sources_differ p =
    let families = map (λ (x : Family). x.name) p.families in
    let kinds = map (λ (k : Kind). k.name) p.kinds in
    let sources = map (λ (s : Source). s.name) p.sources in
    differ_back (families ++ kinds) sources (names_differ p)

kind_found : (p : Program) (text : List ℕ) (s : Option WrittenSpan) (v : Option ℕ) → IfWritten (MeansKind p text) s v → kind_of p text s ≡ Ok v
kind_found p text None None h = refl
kind_found p text None (Some n) h = absurd h
kind_found p text (Some s) None h = absurd h
kind_found p text (Some s) (Some n) h =
    ap (λ (o : Option ℕ). known s.from o >>= λ m. Ok (Some m)) (named_found (λ (k : Kind). k.name) p.kinds (name_of text s) n (kinds_differ p) h)

source_found : (p : Program) (text : List ℕ) (s : Option WrittenSpan) (v : Option ℕ) → IfWritten (MeansSource p text) s v → source_of p text s ≡ Ok v
source_found p text None None h = refl
source_found p text None (Some n) h = absurd h
source_found p text (Some s) None h = absurd h
source_found p text (Some s) (Some n) h =
    ap (λ (o : Option ℕ). known s.from o >>= λ m. Ok (Some m)) (named_found (λ (x : Source). x.name) p.sources (name_of text s) n (sources_differ p) h)

keys_planned : (ks : WrittenKeys) (k : Keys) → MeansKeys ks k → planned_keys ks ≡ k
keys_planned w.Alone keys.Alone h = refl
keys_planned (w.One n) (keys.One k) h = ap keys.One (sym h)
keys_planned (w.Range low high) (keys.Range lo hi) h = λ i. keys.Range (sym h.0 i) (sym h.1 i)
keys_planned w.Alone (keys.One k) h = absurd h
keys_planned w.Alone (keys.Range lo hi) h = absurd h
keys_planned (w.One n) keys.Alone h = absurd h
keys_planned (w.One n) (keys.Range lo hi) h = absurd h
keys_planned (w.Range low high) keys.Alone h = absurd h
keys_planned (w.Range low high) (keys.One k) h = absurd h

-- what is found of a written predicate
pub record PredFound (p : Program) (text : List ℕ) (v : WrittenPred) (q : Pred) : Type 0 where
  pub draft : DraftPred
  pub found : pred_of p text v ≡ Ok draft
  pub is : planned_pred draft ≡ q

pred_found : (p : Program) (text : List ℕ) (v : WrittenPred) (q : Pred) → MeansPred p text v q → PredFound p text v q
unfolding pred_of
pred_found p text v q means =
    let d : DraftPred = record { kind = q.kind; keys = v.keys; source = q.source } in
    record {
      draft = d;
      found =
          binds (kind_of p text v.kind) (λ k. source_of p text v.source >>= λ s. Ok (record { kind = k; keys = v.keys; source = s })) q.kind d
          (kind_found p text v.kind q.kind means.kind)
          (binds (source_of p text v.source) (λ s. Ok (record { kind = q.kind; keys = v.keys; source = s })) q.source d
          (source_found p text v.source q.source means.source) refl);
      is = λ i. record { kind = q.kind; keys = keys_planned v.keys q.keys means.keys i; source = q.source };
    }

pub record PredsFound (p : Program) (text : List ℕ) (vs : List WrittenPred) (qs : List Pred) : Type 0 where
  pub drafts : List DraftPred
  pub found : Pairs (Finds (pred_of p text)) vs drafts
  pub are : map planned_pred drafts ≡ qs

pub preds_found : (p : Program) (text : List ℕ) (vs : List WrittenPred) (qs : List Pred) → Pairs (MeansPred p text) vs qs → PredsFound p text vs qs
preds_found p text [] [] h = record { drafts = []; found = tt; are = refl }
preds_found p text [] (q ∷ qs) h = absurd h
preds_found p text (v ∷ vs) [] h = absurd h
preds_found p text (v ∷ vs) (q ∷ qs) h =
    let first = pred_found p text v q h.0 in
    let more = preds_found p text vs qs h.1 in
    record { drafts = first.draft ∷ more.drafts; found = (first.found, more.found); are = λ i. first.is i ∷ more.are i }

-- ---- keys in range

keys_small : (ks : WrittenKeys) → are_small_keys (planned_keys ks) ≡ true → small_keys ks ≡ Ok tt
keys_small w.Alone e = refl
keys_small (w.One n) e = ap (λ b. unless b (f.OverLimit Key (written_value n.value))) e
keys_small (w.Range low high) e =
    let one = and_left (nat_lt (written_value low.value) key_count) (nat_lt (written_value high.value) key_count) e in
    let two = and_right (nat_lt (written_value low.value) key_count) (nat_lt (written_value high.value) key_count) e in
    passes (nat_lt (written_value low.value) key_count) (f.OverLimit Key (written_value low.value)) (small_key high) tt one
    (ap (λ b. unless b (f.OverLimit Key (written_value high.value))) two)

pub preds_small : (ds : List DraftPred) → list_all (λ (q : Pred). are_small_keys q.keys) (map planned_pred ds) ≡ true → each keys_of_pred tt ds ≡ Ok tt
unfolding each
preds_small [] e = refl
preds_small (d ∷ ds) e =
    let rest = list_all (λ (q : Pred). are_small_keys q.keys) (map planned_pred ds) in
    binds (small_keys d.keys) (λ t. each keys_of_pred t ds) tt tt (keys_small d.keys (and_left (are_small_keys (planned_keys d.keys)) rest e))
    (preds_small ds (and_right (are_small_keys (planned_keys d.keys)) rest e))

-- ---- the names of nodes

pub names_found : (text : List ℕ) (names : List (List ℕ)) (vs : List WrittenNode) → AllDiffer (names ++ map (written_name text) vs)
    → each (with_name text) names vs ≡ Ok (names ++ map (written_name text) vs)
unfolding each with_name
names_found text names [] d = ok_ok names (names ++ []) (sym (append-nil names))
names_found text names (v ∷ vs) d =
    let name = written_name text v in
    let rest = map (written_name text) vs in
    let new : list_any (bytes_eq name) names ≡ false = any_none (bytes_eq name) names (λ i x here. false_if_not (bytes_eq name x) (λ same. (
    let at = get_front names (name ∷ rest) i x here in
    let is : i ≡ length names = d i (length names) name (at ∙ ap (λ (n : List ℕ). Some n) (sym (bytes_is name x same))) (slice_get-behind names name rest) in
    let below = get_below names i x here in
    omega (arith, is, below)))) in
    binds (unless (not (list_any (bytes_eq name) names)) (f.NotATree name) >> Ok (names ++ name ∷ [])) (λ t. each (with_name text) t vs) (names ++ name ∷ [])
    (names ++ name ∷ rest)
    (passes (not (list_any (bytes_eq name) names)) (f.NotATree name) (Ok (names ++ name ∷ [])) (names ++ name ∷ []) (ap not new) refl)
    (names_found text (names ++ name ∷ []) vs (subst (λ (l : List (List ℕ)). AllDiffer l) (sym (append_assoc names (name ∷ []) rest)) d)
    ∙ ok_ok ((names ++ name ∷ []) ++ rest) (names ++ name ∷ rest) (append_assoc names (name ∷ []) rest))
