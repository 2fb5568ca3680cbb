-- What is read as a plan may be printed.
use Rattle.std.proofs.Common.{◌≡◌, ℕ, zero, suc, Bool, true, false, ◌&&◌, List, [], ◌∷◌, map, length, Option, Some, None, Ok, Err, refl, sym, ap, subst, ◌∙◌}
use Rattle.std.specs.Prelude.{is_some, slice_get, nat_le, IsSome}
use Rattle.std.specs.List.{list_all, flat_map, AllByRecursion}
use Rattle.std.specs.Str.{IsUtf8, is_utf8}
use Rattle.std.specs.Str.Lossy.{utf8_valid_len}
use Rattle.std.proofs.lemmas.List.Folds.{list_all-append}
use Rattle.std.proofs.lemmas.List.Quantifiers.{position-Some}
use Rattle.std.proofs.lemmas.Str.{IsUtf8-from_is_utf8}
use Rattle.flu_lemmas.proofs.Tests.{both}
use Rattle.flu_text.specs.declared.words.Token.{Token}
use Rattle.flu_text.specs.Reading.{reading, Reading as TokenReading}
use Rattle.flu_model.specs.declared.limits.What.TheVariants.{Bytes}
use Rattle.flu_model.specs.declared.jobs.Kind.{Kind}
use Rattle.flu_model.specs.declared.jobs.Source.{Source}
use Rattle.flu_model.specs.declared.jobs.Program.{Program}
use Rattle.flu_model.specs.declared.plans.Node.{Node}
use Rattle.flu_model.specs.Rules.{is_same_text}
use Rattle.flu_names.specs.Names.{is_name}
use Rattle.flu_model.specs.Owners.{names_source, pred_fits, nodes_fit}
use Rattle.flu_text.specs.declared.written.WrittenSpan.{WrittenSpan}
use Rattle.flu_text.specs.declared.written.WrittenKeys.{WrittenKeys}
use Rattle.flu_text.specs.Signs.{Stands}
use Rattle.flu_text.specs.Laws.{SignsStand}
use Rattle.flu_layout.specs.Spelling.{name_of}
use Rattle.flu_layout.specs.Laws.{ReadMayBePrinted}
use Rattle.flu_layout.specs.Stands.{AreRead}
use Rattle.flu_lemmas.proofs.Elements.{all_back}
use Rattle.flu_lemmas.proofs.Places.{slice_get-is_some}
use Rattle.flu_plan.specs.declared.fault.PlanFault.TheVariants as f
use Rattle.flu_plan.specs.declared.written.WrittenPred.{WrittenPred}
use Rattle.flu_plan.specs.declared.written.WrittenNode.{WrittenNode}
use Rattle.flu_plan.specs.declared.drafts.DraftPred.{DraftPred}
use Rattle.flu_plan.specs.declared.drafts.DraftNode.{DraftNode}
use Rattle.flu_plan.specs.declared.drafts.Visit.{Visit}
use Rattle.flu_plan.specs.Faults.{◌>>=◌, ◌>>◌, unless, found_of_each}
use Rattle.flu_plan.specs.Grammar.{HasPart, ArePreds, AreNodes, node_signs, plan_signs, ArePlan}
use Rattle.flu_plan.specs.Machine.{start, written_in}
use Rattle.flu_plan.specs.Resolving.{names_of, known, kind_named, source_named, kind_of, source_of, pred_of, kids_of, node_of, nodes_of}
use Rattle.flu_plan.specs.Shape.{preorder, children_of, all_below}
use Rattle.flu_plan.specs.Limits.{within_limits}
use Rattle.flu_plan.specs.Numbering.{planned_pred, planned_found, planned_at, planned}
use Rattle.flu_plan.specs.Reading.{text_in, found_tokens, tokens_in, tree_in, resolved, plan_in}
use Rattle.flu_plan.specs.Printing.{has_text}
use Rattle.flu_plan.specs.Laws.{PlansHaveText}
use Rattle.flu_plan.proofs.Finds.{ok_same, Pairs, collected}
use Rattle.flu_lemmas.proofs.Loops.{bind_ok, then_ok}
use Rattle.flu_plan.proofs.Resolved.{known_ok, unless_ok}
use Rattle.flu_plan.proofs.History.{read_start, found_spelled}

-- ---- predicates

-- a kind that was looked up is one
record KindThere (p : Program) (kind : Option ℕ) : Type 0 where
  number : ℕ
  is : kind ≡ Some number
  there : is_some (slice_get p.kinds number) ≡ true

record SourceThere (p : Program) (source : Option ℕ) : Type 0 where
  number : ℕ
  is : source ≡ Some number
  there : is_some (slice_get p.sources number) ≡ true

kind_there : (p : Program) (text : List ℕ) (s : WrittenSpan) (kind : Option ℕ) → kind_of p text (Some s) ≡ Ok kind → KindThere p kind
kind_there p text s kind e =
    let d : Kind = record { name = []; keyed = false; has_item = false; list = None; has_value = false; actions = [] } in
    let test = λ (k : Kind). is_same_text (name_of text s) k.name in
    let one = bind_ok (known s.from (kind_named p.kinds (name_of text s))) (λ n. Ok (Some n)) kind e in
    let place = position-Some test p.kinds one.0 d (known_ok s.from (kind_named p.kinds (name_of text s)) one.0 one.1) in
    record { number = one.0; is = sym (ok_same (Some one.0) kind one.2); there = slice_get-is_some p.kinds one.0 place.0 }

source_there : (p : Program) (text : List ℕ) (s : WrittenSpan) (source : Option ℕ) → source_of p text (Some s) ≡ Ok source → SourceThere p source
source_there p text s source e =
    let d : Source = record { name = []; file = []; every = None; rate = 0; slack = 0; tags = [] } in
    let test = λ (x : Source). is_same_text (name_of text s) x.name in
    let one = bind_ok (known s.from (source_named p.sources (name_of text s))) (λ n. Ok (Some n)) source e in
    let place = position-Some test p.sources one.0 d (known_ok s.from (source_named p.sources (name_of text s)) one.0 one.1) in
    record { number = one.0; is = sym (ok_same (Some one.0) source one.2); there = slice_get-is_some p.sources one.0 place.0 }

source_fits : (p : Program) (text : List ℕ) (v : Option WrittenSpan) (source : Option ℕ) → source_of p text v ≡ Ok source → names_source p source ≡ true
source_fits p text None source e = ap (names_source p) (sym (ok_same None source e))
source_fits p text (Some s) source e = let found = source_there p text s source e in ap (names_source p) found.is ∙ found.there

source_some : (p : Program) (text : List ℕ) (v : Option WrittenSpan) (source : Option ℕ) → source_of p text v ≡ Ok source → IsSome v → is_some source ≡ true
source_some p text None source e some = let bad : false ≡ true = some in absurd cc
source_some p text (Some s) source e some = ap is_some (source_there p text s source e).is

parts_fit : (p : Program) (text : List ℕ) (wk ws : Option WrittenSpan) (ks : WrittenKeys) (kind source : Option ℕ) → HasPart wk ks ws
    → kind_of p text wk ≡ Ok kind → source_of p text ws ≡ Ok source → pred_fits p (planned_pred (record { kind = kind; keys = ks; source = source })) ≡ true
parts_fit p text None ws ks kind source part a b =
    let none : kind ≡ None = sym (ok_same None kind a) in
    ap (λ (k : Option ℕ). pred_fits p (planned_pred (record { kind = k; keys = ks; source = source }))) none
    ∙ ap (λ (x : WrittenKeys). pred_fits p (planned_pred (record { kind = None; keys = x; source = source }))) part.0
    ∙ both (is_some source && true) (names_source p source) (both (is_some source) true (source_some p text ws source b part.1) refl)
    (source_fits p text ws source b)
parts_fit p text (Some s) ws ks kind source part a b =
    let found = kind_there p text s kind a in
    ap (λ (k : Option ℕ). pred_fits p (planned_pred (record { kind = k; keys = ks; source = source }))) found.is
    ∙ both (is_some (slice_get p.kinds found.number)) (names_source p source) found.there (source_fits p text ws source b)

pred_fits_read : (p : Program) (text : List ℕ) (v : WrittenPred) (d : DraftPred) → HasPart v.kind v.keys v.source → pred_of p text v ≡ Ok d
    → pred_fits p (planned_pred d) ≡ true
unfolding pred_of
pred_fits_read p text v d part e =
    let kind = bind_ok (kind_of p text v.kind) (λ k. source_of p text v.source >>= λ s. Ok (record { kind = k; keys = v.keys; source = s })) d e in
    let source = bind_ok (source_of p text v.source) (λ s. Ok (record { kind = kind.0; keys = v.keys; source = s })) d kind.2 in
    ap (λ x. pred_fits p (planned_pred x)) (sym (ok_same (record { kind = kind.0; keys = v.keys; source = source.0 }) d source.2))
    ∙ parts_fit p text v.kind v.source v.keys kind.0 source.0 part kind.1 source.1

preds_fit : (p : Program) (text : List ℕ) (vs : List WrittenPred) (ds : List DraftPred) → ArePreds vs → Pairs (pred_of p text) vs ds
    → list_all (pred_fits p) (map planned_pred ds) ≡ true
unfolding Pairs
preds_fit p text [] [] are h = refl
preds_fit p text [] (d ∷ ds) are h = absurd h
preds_fit p text (v ∷ vs) [] are h = absurd h
preds_fit p text (v ∷ vs) (d ∷ ds) are h =
    both (pred_fits p (planned_pred d)) (list_all (pred_fits p) (map planned_pred ds)) (pred_fits_read p text v d are.0 h.0) (preds_fit p text vs ds are.1 h.1)

-- ---- nodes

-- a node's name is one of the language, and its predicates fit
pub record DraftFits (p : Program) (text : List ℕ) (d : DraftNode) : Type 0 where
  pub named : is_name (name_of text d.name) ≡ true
  pub preds : list_all (pred_fits p) (map planned_pred d.preds) ≡ true

node_fits : (p : Program) (text : List ℕ) (names : List (List ℕ)) (v : WrittenNode) (d : DraftNode) → is_name (name_of text v.name) ≡ true → ArePreds v.preds
    → node_of p text names v ≡ Ok d → DraftFits p text d
unfolding node_of
node_fits p text names v d named are e =
    let preds = bind_ok (found_of_each (pred_of p text) v.preds) (λ q. kids_of text names v.kids >>= λ k. Ok (record { name = v.name; preds = q; kids = k }))
    d e in
    let kids = bind_ok (kids_of text names v.kids) (λ k. Ok (record { name = v.name; preds = preds.0; kids = k })) d preds.2 in
    let same = ok_same (record { name = v.name; preds = preds.0; kids = kids.0 }) d kids.2 in
    let ones = collected (pred_of p text) [] v.preds preds.0 preds.1 in
    let pairs = subst (λ (l : List DraftPred). Pairs (pred_of p text) v.preds l) (sym ones.1) ones.2 in
    subst (λ (x : DraftNode). DraftFits p text x) same (record { named = named; preds = preds_fit p text v.preds preds.0 are pairs })

NamesStand : List ℕ → List WrittenNode → Type 0
NamesStand text [] = Unit {0}
NamesStand text (v ∷ vs) = (is_name (name_of text v.name) ≡ true) × NamesStand text vs

names_stand : (text : List ℕ) (ts : List Token) (read : AreRead text ts) (vs : List WrittenNode) → AllByRecursion (Stands ts) (plan_signs vs)
    → NamesStand text vs
unfolding NamesStand
names_stand text ts read [] all = tt
names_stand text ts read (v ∷ vs) all = (read.names v.name all.1.0, names_stand text ts read vs (all_back (Stands ts) (node_signs v) (plan_signs vs) all))

drafts_fit : (p : Program) (text : List ℕ) (names : List (List ℕ)) (vs : List WrittenNode) (ds : List DraftNode) → NamesStand text vs → AreNodes vs
    → Pairs (node_of p text names) vs ds → (v : ℕ) (d : DraftNode) → slice_get ds v ≡ Some d → DraftFits p text d
unfolding Pairs NamesStand
drafts_fit p text names [] [] named are h v d here = absurd cc
drafts_fit p text names [] (x ∷ ds) named are h v d here = absurd h
drafts_fit p text names (w ∷ vs) [] named are h v d here = absurd h
drafts_fit p text names (w ∷ vs) (x ∷ ds) named are h zero d here =
    let same : x ≡ d = cc in
    subst (λ (y : DraftNode). DraftFits p text y) same (node_fits p text names w x named.0 are.0 h.0)
drafts_fit p text names (w ∷ vs) (x ∷ ds) named are h (suc v) d here = drafts_fit p text names vs ds named.1 are.1 h.1 v d here

abbrev node_named : Node → Bool
node_named n = is_name n.name

abbrev node_fit : Program → Node → Bool
node_fit p n = list_all (pred_fits p) n.preds

found_fit : (p : Program) (text : List ℕ) (o : List Visit) (n : Option DraftNode) → ((d : DraftNode) → n ≡ Some d → DraftFits p text d)
    → (nodes_fit p (planned_found text o n) ≡ true) × (list_all node_named (planned_found text o n) ≡ true)
found_fit p text o None fits = (refl, refl)
found_fit p text o (Some d) fits =
    let here = fits d refl in
    (both (list_all (pred_fits p) (map planned_pred d.preds)) true here.preds refl, both (is_name (name_of text d.name)) true here.named refl)

plan_fits : (p : Program) (text : List ℕ) (o : List Visit) (ds : List DraftNode) (order : List Visit)
    → ((v : ℕ) (d : DraftNode) → slice_get ds v ≡ Some d → DraftFits p text d)
    → (nodes_fit p (flat_map (planned_at text o ds) order) ≡ true) × (list_all node_named (flat_map (planned_at text o ds) order) ≡ true)
plan_fits p text o ds [] fits = (refl, refl)
plan_fits p text o ds (x ∷ order) fits =
    let here = found_fit p text o (slice_get ds x.node) (λ d e. fits x.node d e) in
    let more = plan_fits p text o ds order fits in
    let one = planned_at text o ds x in
    let rest = flat_map (planned_at text o ds) order in (
      list_all-append (node_fit p) one rest ∙ both (nodes_fit p one) (nodes_fit p rest) here.0 more.0,
      list_all-append node_named one rest ∙ both (list_all node_named one) (list_all node_named rest) here.1 more.1,
    )

tree_is_planned : (text : List ℕ) (ds : List DraftNode) (plan : List Node) → tree_in text ds ≡ Ok plan → planned text (preorder ds) ds ≡ plan
unfolding tree_in
tree_is_planned text ds plan e =
    let o = preorder ds in
    let one = then_ok (children_of text ds) (all_below text o ds >> (within_limits o ds >> Ok (planned text o ds))) plan e in
    let two = then_ok (all_below text o ds) (within_limits o ds >> Ok (planned text o ds)) plan one.2 in
    let three = then_ok (within_limits o ds) (Ok (planned text o ds)) plan two.2 in
    ok_same (planned text o ds) plan three.2

resolved_fits : (p : Program) (text : List ℕ) (vs : List WrittenNode) (plan : List Node) → NamesStand text vs → AreNodes vs → resolved p text vs ≡ Ok plan
    → has_text p plan ≡ true
unfolding resolved
resolved_fits p text vs plan named are e =
    let names = bind_ok (names_of text vs) (λ names. nodes_of p text names vs >>= λ ds. tree_in text ds) plan e in
    let ds = bind_ok (nodes_of p text names.0 vs) (λ ds. tree_in text ds) plan names.2 in
    let ones = collected (node_of p text names.0) [] vs ds.0 ds.1 in
    let pairs = subst (λ (l : List DraftNode). Pairs (node_of p text names.0) vs l) (sym ones.1) ones.2 in
    let fits = plan_fits p text (preorder ds.0) ds.0 (preorder ds.0) (drafts_fit p text names.0 vs ds.0 named are pairs) in
    ap (has_text p) (sym (tree_is_planned text ds.0 plan ds.2))
    ∙ both (nodes_fit p (planned text (preorder ds.0) ds.0)) (list_all node_named (planned text (preorder ds.0) ds.0)) fits.0 fits.1

tokens_are : (r : TokenReading) (ts : List Token) → found_tokens r ≡ Ok ts → r ≡ Ok ts
tokens_are (Ok x) ts e = ap (λ (l : List Token). let r : TokenReading = Ok l in r) (ok_same x ts e)
tokens_are (Err at) ts e = absurd cc

-- a plan that was read has a text
pub plans_have_text : ReadMayBePrinted → SignsStand → PlansHaveText
unfolding plan_in
plans_have_text may stand p bytes plan e =
    let one = then_ok (unless (nat_le (length bytes) 1048576) (f.OverLimit Bytes 1048577))
    (text_in bytes >>= λ text. tokens_in text >>= λ ts. written_in (length text) ts >>= λ written. resolved p text written) plan e in
    let text = bind_ok (text_in bytes) (λ text. tokens_in text >>= λ ts. written_in (length text) ts >>= λ written. resolved p text written) plan one.2 in
    let ts = bind_ok (tokens_in text.0) (λ ts. written_in (length text.0) ts >>= λ written. resolved p text.0 written) plan text.2 in
    let vs = bind_ok (written_in (length text.0) ts.0) (λ written. resolved p text.0 written) plan ts.2 in
    let inner = then_ok (unless (is_utf8 bytes) (f.BadToken (utf8_valid_len bytes))) (Ok bytes) text.0 text.1 in
    let same : bytes ≡ text.0 = ok_same bytes text.0 inner.2 in
    let utf8 : IsUtf8 text.0 = subst IsUtf8 same (IsUtf8-from_is_utf8 bytes (unless_ok (is_utf8 bytes) (f.BadToken (utf8_valid_len bytes)) inner.0 inner.1)) in
    let read : AreRead text.0 ts.0 = may text.0 ts.0 utf8 (tokens_are (reading text.0) ts.0 ts.1) in
    let plan_is : ArePlan ts.0 vs.0 = found_spelled (length text.0) start [] ts.0 vs.0 read_start vs.1 in
    resolved_fits p text.0 vs.0 plan (names_stand text.0 ts.0 read vs.0 (stand ts.0 (plan_signs vs.0) plan_is.spelled)) plan_is.grammar vs.2
