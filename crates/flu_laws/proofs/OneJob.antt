-- Programs of one job have the same itags, do the same, are accepted alike, have the same owners for a plan, and report the same.
use Rattle.std.proofs.Common.{◌≡◌, refl, sym, ap, ◌∙◌, subst, ℕ, ◌<◌, List, [], ◌∷◌, ◌++◌, length, Bool, false, ◌&&◌, ◌==◌, map, Option, Some, None}
use Rattle.std.specs.Prelude.{option_map, slice_get, slice_index_or, not, position, count_by}
use Rattle.std.specs.List.{list_any, flat_map, Contains}
use Rattle.std.specs.Ordering.{is_lt}
use Rattle.std.proofs.lemmas.Option.{slice_get-map}
use Rattle.flu_lemmas.specs.Sorting.{in_order}
use Rattle.flu_model.specs.declared.events.Event.{Event}
use Rattle.flu_model.specs.declared.events.Itag.{Itag}
use Rattle.flu_model.specs.declared.events.Tag.{Tag}
use Rattle.flu_model.specs.declared.jobs.Keys.{Keys}
use Rattle.flu_model.specs.declared.jobs.Kind.{Kind}
use Rattle.flu_model.specs.declared.jobs.Program.{Program}
use Rattle.flu_model.specs.declared.plans.Node.{Node}
use Rattle.flu_model.specs.declared.plans.Pred.{Pred}
use Rattle.flu_model.specs.Contents.{Contents}
use Rattle.flu_model.specs.Erasure.{PlainKind, plain_kind, Job, IsSameJob}
use Rattle.flu_model.specs.Folding.{outputs_at, outputs_with, state_after, outputs_of}
use Rattle.flu_model.specs.Itags.{count_of_itags, tag_of_itag, source_of_itag, ties_tags}
use Rattle.flu_model.specs.Listing.{tag, itags_of_sources}
use Rattle.flu_model.specs.Modes.{modes_conflict, IsInUniverse}
use Rattle.flu_model.specs.Owners.{is_keyed, key_matches, kind_matches, source_matches, matches, node_owns, found_owns, owns, owner_of}
use Rattle.flu_model.specs.Owners.{is_within}
use Rattle.flu_model.specs.Reports.{name_with_key, kind_text, text_of_tag, line_of, line_cmp, line_bytes}
use Rattle.flu_model.specs.Rules.{kind_is_keyed}
use Rattle.flu_model.specs.Updates.{Effect, effect_of}
use Rattle.flu_model.specs.Validity.{IsValid}
use Rattle.flu_laws.specs.OneJob.{HaveTheSameItags, DoTheSame, AreAcceptedAlike, HaveTheSameOwners, ReportTheSame}
use Rattle.flu_laws.proofs.PlainEffects.{same_effect, same_time}
use Rattle.flu_laws.proofs.PlainModes.{same_mode}

-- ---- what depends on a kind alone without its actions
keyed_plain : Option PlainKind → Bool
keyed_plain None = false
keyed_plain (Some k) = k.keyed

keyed-plain : (o : Option Kind) → kind_is_keyed o ≡ keyed_plain (option_map plain_kind o)
unfolding keyed_plain
keyed-plain None = refl
keyed-plain (Some k) = refl

plain_text : Option PlainKind → ℕ → List ℕ
plain_text None key = []
plain_text (Some k) key = name_with_key k.name k.keyed key

text-plain : (kind : Option Kind) (key : ℕ) → kind_text kind key ≡ plain_text (option_map plain_kind kind) key
unfolding plain_text
text-plain None key = refl
text-plain (Some k) key = refl

-- ---- an owner below a node, and above it
below_by : List Node → ℕ → Option ℕ → Bool
below_by nodes w None = false
below_by nodes w (Some v) = is_within nodes w v

above_by : List Node → ℕ → Option ℕ → Bool
above_by nodes w None = false
above_by nodes w (Some v) = is_within nodes v w && not (v == w)

module _ (p q : Program) (same : IsSameJob p q) where
  same_kind : (number : ℕ) → option_map plain_kind (slice_get p.kinds number) ≡ option_map plain_kind (slice_get q.kinds number)
  same_kind number =
      sym (slice_get-map plain_kind p.kinds number)
      ∙ (ap (λ (j : Job). slice_get j.kinds number) same ∙ slice_get-map plain_kind q.kinds number)

  -- ---- itags
  pub same_itags : HaveTheSameItags p q
  same_itags = record {
    all = λ i. itags_of_sources 0 (same i).sources;
    count = λ i. length (itags_of_sources 0 (same i).sources);
    tags = λ i itag. (slice_index_or (itags_of_sources 0 (same i).sources) itag.0 (tag 0 0, 0)).0;
    sources = λ i itag. (slice_index_or (itags_of_sources 0 (same i).sources) itag.0 (tag 0 0, 0)).1;
    dependent = λ i a b. list_any (ties_tags a b) (same i).depends;
  }

  -- ---- updates
  effects : effect_of p ≡ effect_of q
  effects = λ i s x. same_effect p q s x same i

  with_same_texts : outputs_with p ≡ outputs_with q
  with_same_texts = λ i x texts. outputs_at (same_time p q x.time same i) (same_itags.tags i x.itag) texts

  same_state : (s : Contents) (xs : List Event) → state_after p s xs ≡ state_after q s xs
  same_state s [] = refl
  same_state s (x ∷ xs) = ap (λ (e : Effect). state_after p e.cells xs) (same_effect p q s x same) ∙ same_state (effect_of q s x).cells xs

  same_outputs : (s : Contents) (xs : List Event) → outputs_of p s xs ≡ outputs_of q s xs
  same_outputs s [] = refl
  same_outputs s (x ∷ xs) =
      let e = effect_of q s x in
      ap (λ (f : Effect). outputs_with p x f.texts ++ outputs_of p f.cells xs) (same_effect p q s x same)
      ∙ (λ i. with_same_texts i x e.texts ++ same_outputs e.cells xs i)

  pub same_doing : DoTheSame p q
  same_doing = record {
    effect = effects;
    with_texts = with_same_texts;
    after = λ i s xs. same_state s xs i;
    outputs = λ i s xs. same_outputs s xs i;
  }

  -- ---- modes and acceptance
  back_in_universe : (t : Tag) → IsInUniverse q t → IsInUniverse p t
  back_in_universe t = subst (λ all. (n : ℕ) × Contains all (t, n)) (sym same_itags.all)

  pub same_acceptance : AreAcceptedAlike p q
  same_acceptance = record {
    modes = λ i t c. same_mode p q t c same i;
    accepted = λ accepted a b c in_a in_b conflict.
        ap (λ (d : Tag → Tag → Bool). d a b) (sym same_itags.dependent)
        ∙ accepted a b c (back_in_universe a in_a) (back_in_universe b in_b)
        ((λ i. modes_conflict (same_mode p q a c same i) (same_mode p q b c same i)) ∙ conflict);
  }

  -- ---- owners
  same_keyed : (kind : ℕ) → is_keyed p.kinds kind ≡ is_keyed q.kinds kind
  same_keyed kind = keyed-plain (slice_get p.kinds kind) ∙ (ap keyed_plain (same_kind kind) ∙ sym (keyed-plain (slice_get q.kinds kind)))

  same_kinds : (kind : Option ℕ) (keys : Keys) (t : Tag) → kind_matches p.kinds kind keys t ≡ kind_matches q.kinds kind keys t
  same_kinds None keys t = refl
  same_kinds (Some kind) keys t = λ i. (t.kind == kind) && key_matches (same_keyed kind i) keys t.key

  same_matches : (pred : Pred) (itag : Itag) → matches p pred itag ≡ matches q pred itag
  same_matches pred itag =
      ap (λ b. b && source_matches pred.source (source_of_itag p itag)) (same_kinds pred.kind pred.keys (tag_of_itag p itag))
      ∙ (λ i. kind_matches q.kinds pred.kind pred.keys (same_itags.tags i itag) && source_matches pred.source (same_itags.sources i itag))

  by_nodes : node_owns p ≡ node_owns q
  by_nodes = λ i itag node. list_any (λ pred. same_matches pred itag i) node.preds

  same_found : (itag : Itag) (node : Option Node) → found_owns p itag node ≡ found_owns q itag node
  same_found itag None = refl
  same_found itag (Some node) = λ i. by_nodes i itag node

  same_owns : (nodes : List Node) (w : ℕ) (itag : Itag) → owns p nodes w itag ≡ owns q nodes w itag
  same_owns nodes w itag = same_found itag (slice_get nodes w)

  owners : owner_of p ≡ owner_of q
  owners = λ i nodes itag. position (by_nodes i itag) nodes

  same_valid : (nodes : List Node) → IsValid p nodes → IsValid q nodes
  same_valid nodes valid = record {
    one_owner = λ itag lt. ap (λ (owns_it : Itag → Node → Bool). count_by (owns_it itag) nodes) (sym by_nodes) ∙ valid.one_owner itag (back itag lt);
    independent = λ a b one two lt_one lt_two of_one of_two apart.
        sym (λ i. same_itags.dependent i (same_itags.tags i one) (same_itags.tags i two))
        ∙ valid.independent a b one two (back one lt_one) (back two lt_two) (same_owns nodes a one ∙ of_one) (same_owns nodes b two ∙ of_two) apart;
  }
    where
      back : (itag : Itag) → itag.0 < count_of_itags q → itag.0 < count_of_itags p
      back itag lt = subst (λ n. itag.0 < n) (sym same_itags.count) lt

  pub same_owners : HaveTheSameOwners p q
  unfolding below_by above_by
  same_owners = record {
    by_node = by_nodes;
    by_number = λ i nodes w itag. same_owns nodes w itag i;
    owner = owners;
    below = λ i nodes w itag. below_by nodes w (owners i nodes itag);
    above = λ i nodes w itag. above_by nodes w (owners i nodes itag);
    valid = same_valid;
  }

  -- ---- reports
  same_texts : (t : Tag) → text_of_tag p t ≡ text_of_tag q t
  same_texts t =
      text-plain (slice_get p.kinds t.kind) t.key
      ∙ (ap (λ o. plain_text o t.key) (same_kind t.kind) ∙ sym (text-plain (slice_get q.kinds t.kind) t.key))

  same_line : line_of p ≡ line_of q
  same_line = λ i o. record { time = o.time; tag = same_texts o.tag i; text = o.text }

  pub same_reporting : ReportTheSame p q
  same_reporting = record {
    texts = λ i t. same_texts t i;
    lines = same_line;
    reports = λ i outs. flat_map (line_bytes (same i).iso) (in_order (λ a b. is_lt (line_cmp a b)) (map (same_line i) outs));
  }
