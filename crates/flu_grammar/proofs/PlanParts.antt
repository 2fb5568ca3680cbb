-- What is found of the names in a plan, and that it is what they mean.
use Rattle.std.proofs.Common.{◌≡◌, ℕ, List, [], ◌∷◌, map, Option, Some, None, Ok, refl, sym, ap, subst, ◌∙◌}
use Rattle.std.specs.Prelude.{slice_get}
use Rattle.std.specs.List.{position}
use Rattle.std.specs.Str.{bytes_eq}
use Rattle.flu_lemmas.specs.Items.{Pairs}
use Rattle.flu_lemmas.proofs.Loops.{bind_ok}
use Rattle.flu_lemmas.proofs.Places.{position_passes}
use Rattle.flu_lemmas.proofs.Bytes.{bytes_is}
use Rattle.flu_model.specs.declared.jobs.Kind.{Kind}
use Rattle.flu_model.specs.declared.jobs.Source.{Source}
use Rattle.flu_model.specs.declared.jobs.Program.{Program}
use Rattle.flu_model.specs.Rules.{is_same_text}
use Rattle.flu_text.specs.declared.written.WrittenSpan.{WrittenSpan}
use Rattle.flu_text.specs.declared.written.WrittenKeys.{WrittenKeys}
use Rattle.flu_text.specs.declared.written.WrittenKeys.TheVariants as w
use Rattle.flu_layout.specs.Spelling.{name_of}
use Rattle.flu_plan.specs.declared.written.WrittenPred.{WrittenPred}
use Rattle.flu_plan.specs.declared.written.WrittenNode.{WrittenNode}
use Rattle.flu_plan.specs.declared.drafts.DraftPred.{DraftPred}
use Rattle.flu_plan.specs.declared.drafts.DraftNode.{DraftNode}
use Rattle.flu_plan.specs.Faults.{◌>>=◌, found_of_each}
use Rattle.flu_plan.specs.Resolving.{known, kind_named, source_named, kind_of, source_of, pred_of, kid_of, kids_of, node_of}
use Rattle.flu_plan.specs.Numbering.{planned_keys, planned_pred}
use Rattle.flu_grammar.specs.Means.{IfWritten}
use Rattle.flu_grammar.specs.Plans.{MeansKind, MeansSource, MeansKeys, MeansPred}
use Rattle.flu_grammar.proofs.Looks.{ok_same, Finds, found_each}

pub known_ok : (at : ℕ) (o : Option ℕ) (v : ℕ) → known at o ≡ Ok v → o ≡ Some v
known_ok at None v e = absurd cc
known_ok at (Some n) v e = ap (λ (x : ℕ). Some x) (ok_same n v e)

-- ---- predicates

pub kind_means : (p : Program) (text : List ℕ) (s : Option WrittenSpan) (v : Option ℕ) → kind_of p text s ≡ Ok v → IfWritten (MeansKind p text) s v
kind_means p text None v e = subst (λ (x : Option ℕ). IfWritten (MeansKind p text) None x) (ok_same None v e) tt
kind_means p text (Some s) v e =
    let one = bind_ok (known s.from (kind_named p.kinds (name_of text s))) (λ n. Ok (Some n)) v e in
    let place = position_passes (λ (k : Kind). is_same_text (name_of text s) k.name) p.kinds one.0
    (known_ok s.from (kind_named p.kinds (name_of text s)) one.0 one.1) in
    subst (λ (x : Option ℕ). IfWritten (MeansKind p text) (Some s) x) (ok_same (Some one.0) v one.2)
    (place.0, place.1, sym (bytes_is (name_of text s) (place.0).name place.2))

pub source_means : (p : Program) (text : List ℕ) (s : Option WrittenSpan) (v : Option ℕ) → source_of p text s ≡ Ok v → IfWritten (MeansSource p text) s v
source_means p text None v e = subst (λ (x : Option ℕ). IfWritten (MeansSource p text) None x) (ok_same None v e) tt
source_means p text (Some s) v e =
    let one = bind_ok (known s.from (source_named p.sources (name_of text s))) (λ n. Ok (Some n)) v e in
    let place = position_passes (λ (x : Source). is_same_text (name_of text s) x.name) p.sources one.0
    (known_ok s.from (source_named p.sources (name_of text s)) one.0 one.1) in
    subst (λ (x : Option ℕ). IfWritten (MeansSource p text) (Some s) x) (ok_same (Some one.0) v one.2)
    (place.0, place.1, sym (bytes_is (name_of text s) (place.0).name place.2))

pub keys_mean : (ks : WrittenKeys) → MeansKeys ks (planned_keys ks)
keys_mean w.Alone = tt
keys_mean (w.One n) = refl
keys_mean (w.Range low high) = (refl, refl)

pub pred_means : (p : Program) (text : List ℕ) (v : WrittenPred) (d : DraftPred) → pred_of p text v ≡ Ok d → MeansPred p text v (planned_pred d)
unfolding pred_of
pred_means p text v d e =
    let kind = bind_ok (kind_of p text v.kind) (λ k. source_of p text v.source >>= λ s. Ok (record { kind = k; keys = v.keys; source = s })) d e in
    let source = bind_ok (source_of p text v.source) (λ s. Ok (record { kind = kind.0; keys = v.keys; source = s })) d kind.2 in
    let is : MeansPred p text v (planned_pred (record { kind = kind.0; keys = v.keys; source = source.0 })) = record {
      kind = kind_means p text v.kind kind.0 kind.1;
      keys = keys_mean v.keys;
      source = source_means p text v.source source.0 source.1;
    } in
    subst (λ (x : DraftPred). MeansPred p text v (planned_pred x)) (ok_same (record { kind = kind.0; keys = v.keys; source = source.0 }) d source.2) is

pub preds_mean : (p : Program) (text : List ℕ) (vs : List WrittenPred) (ds : List DraftPred) → Pairs (Finds (pred_of p text)) vs ds
    → Pairs (MeansPred p text) vs (map planned_pred ds)
preds_mean p text [] [] h = tt
preds_mean p text [] (d ∷ ds) h = absurd h
preds_mean p text (v ∷ vs) [] h = absurd h
preds_mean p text (v ∷ vs) (d ∷ ds) h = (pred_means p text v d h.0, preds_mean p text vs ds h.1)

-- ---- nodes

-- what is found of a node
pub record IsDrawn (p : Program) (text : List ℕ) (names : List (List ℕ)) (v : WrittenNode) (d : DraftNode) : Type 0 where
  pub name : d.name ≡ v.name
  pub preds : Pairs (Finds (pred_of p text)) v.preds d.preds
  pub kids : kids_of text names v.kids ≡ Ok d.kids

pub node_drawn : (p : Program) (text : List ℕ) (names : List (List ℕ)) (v : WrittenNode) (d : DraftNode) → node_of p text names v ≡ Ok d
    → IsDrawn p text names v d
unfolding node_of
node_drawn p text names v d e =
    let preds = bind_ok (found_of_each (pred_of p text) v.preds) (λ q. kids_of text names v.kids >>= λ k. Ok (record { name = v.name; preds = q; kids = k }))
    d e in
    let kids = bind_ok (kids_of text names v.kids) (λ k. Ok (record { name = v.name; preds = preds.0; kids = k })) d preds.2 in
    subst (λ (x : DraftNode). IsDrawn p text names v x) (ok_same (record { name = v.name; preds = preds.0; kids = kids.0 }) d kids.2)
    (record { name = refl; preds = found_each (pred_of p text) v.preds preds.0 preds.1; kids = kids.1 })

-- a child that is found is a node with the name
pub kid_named : (text : List ℕ) (names : List (List ℕ)) (s : WrittenSpan) (v : ℕ) → kid_of text names s ≡ Ok v → slice_get names v ≡ Some (name_of text s)
kid_named text names s v e =
    let place = position_passes (bytes_eq (name_of text s)) names v (known_ok s.from (position (bytes_eq (name_of text s)) names) v e) in
    place.1 ∙ ap (λ (x : List ℕ). Some x) (sym (bytes_is (name_of text s) place.0 place.2))

-- the names of children
abbrev pub KidNamed : List ℕ → List (List ℕ) → WrittenSpan × WrittenSpan → ℕ × ℕ → Type 0
KidNamed text names spans kids = (slice_get names kids.0 ≡ Some (name_of text spans.0)) × (slice_get names kids.1 ≡ Some (name_of text spans.1))

pub kids_named : (text : List ℕ) (names : List (List ℕ)) (v : Option (WrittenSpan × WrittenSpan)) (kids : Option (ℕ × ℕ)) → kids_of text names v ≡ Ok kids
    → IfWritten (KidNamed text names) v kids
kids_named text names None kids e = subst (λ (k : Option (ℕ × ℕ)). IfWritten (KidNamed text names) None k) (ok_same None kids e) tt
kids_named text names (Some spans) kids e =
    let left = bind_ok (kid_of text names spans.0) (λ l. kid_of text names spans.1 >>= λ r. Ok (Some (l, r))) kids e in
    let right = bind_ok (kid_of text names spans.1) (λ r. Ok (Some (left.0, r))) kids left.2 in
    subst (λ (k : Option (ℕ × ℕ)). IfWritten (KidNamed text names) (Some spans) k) (ok_same (Some (left.0, right.0)) kids right.2)
    (kid_named text names spans.0 left.0 left.1, kid_named text names spans.1 right.0 right.1)
