-- The text of a plan is read as the nodes that were printed.
use Rattle.std.proofs.Common.{◌≡◌, ◌≢◌, ◌<◌, ◌+◌, ℕ, zero, suc, pos, Bool, true, false, ◌&&◌, cond, List, [], ◌∷◌, map, length, Option, Some, None, Ok, refl}
use Rattle.std.proofs.Common.{sym, ap, subst, ◌∙◌, arith}
use Rattle.std.specs.Prelude.{nat_lt, not, is_some, slice_get}
use Rattle.std.specs.List.{list_all, position, position_or_len}
use Rattle.std.specs.Str.{bytes_eq}
use Rattle.std.proofs.lemmas.Option.{slice_get_within}
use Rattle.flu_lemmas.proofs.Tests.{and_left, and_right, lt_true}
use Rattle.flu_text.specs.declared.words.Word.TheVariants as w
use Rattle.flu_text.specs.declared.words.Mark.TheVariants as m
use Rattle.flu_text.specs.declared.words.Token.{Token}
use Rattle.flu_text.specs.Layout.{Piece as Laid}
use Rattle.flu_model.specs.declared.limits.What.TheVariants.{Key}
use Rattle.flu_model.specs.declared.jobs.Kind.{Kind}
use Rattle.flu_model.specs.declared.jobs.Source.{Source}
use Rattle.flu_model.specs.declared.jobs.Keys.{Keys}
use Rattle.flu_model.specs.declared.jobs.Keys.TheVariants as plain
use Rattle.flu_model.specs.declared.jobs.Program.{Program}
use Rattle.flu_model.specs.declared.plans.Pred.{Pred}
use Rattle.flu_model.specs.declared.plans.Node.{Node}
use Rattle.flu_model.specs.Contents.{key_count}
use Rattle.flu_names.specs.Names.{is_name}
use Rattle.flu_model.specs.PlanRules.{are_small_keys}
use Rattle.flu_model.specs.Owners.{are_alone, names_source, pred_fits}
use Rattle.flu_text.specs.declared.written.WrittenSpan.{WrittenSpan}
use Rattle.flu_text.specs.declared.written.WrittenKeys.{WrittenKeys}
use Rattle.flu_text.specs.declared.written.WrittenKeys.TheVariants as keys
use Rattle.flu_text.specs.Signs.{span_of}
use Rattle.flu_text.specs.Signs.{Any, IsSign, is_name_word}
use Rattle.flu_text.specs.Signs.{keys_signs, separated}
use Rattle.flu_layout.specs.Spelling.{name_of}
use Rattle.flu_lemmas.specs.Items.{lines_before, Begins, Pairs as Zip}
use Rattle.flu_lemmas.proofs.Items.{Took, took_none, took_more, ItemIs, read_items}
use Rattle.flu_layout.specs.Lists.{between, keys_words}
use Rattle.flu_layout.specs.Stands.{Stand}
use Rattle.flu_layout.specs.Laws.{BegunAreSigns}
use Rattle.flu_plan.specs.declared.fault.PlanFault.TheVariants as f
use Rattle.flu_plan.specs.declared.written.WrittenPred.{WrittenPred}
use Rattle.flu_plan.specs.declared.written.WrittenNode.{WrittenNode}
use Rattle.flu_plan.specs.declared.drafts.DraftPred.{DraftPred}
use Rattle.flu_plan.specs.declared.drafts.DraftNode.{DraftNode}
use Rattle.flu_plan.specs.Faults.{◌>>=◌, ◌>>◌, unless, each}
use Rattle.flu_plan.specs.Grammar.{source_signs, pred_signs, HasPart, ArePreds, kids_signs, node_signs, AreNodes, plan_signs, ArePlan}
use Rattle.flu_plan.specs.Resolving.{kind_named, source_named, known, kind_of, source_of, pred_of, kid_of, kids_of, node_of}
use Rattle.flu_plan.specs.Limits.{small_keys, keys_of_pred, keys_of_node}
use Rattle.flu_plan.specs.Numbering.{planned_keys, planned_pred}
use Rattle.flu_plan.specs.Printing.{name_of_kind, name_of_source, name_of_child}
use Rattle.flu_plan.proofs.Finds.{Pairs, collects_all}
use Rattle.flu_plan.proofs.NameLemmas.{position_by_bytes}
use Rattle.flu_plan.proofs.Distinct.{In, Distinct, in_head, in_tail, distinct_head, distinct_tail}
use Rattle.flu_lemmas.proofs.Bytes.{bytes_itself, bytes_is}
use Rattle.flu_plan.proofs.PlanWords.{behind_keys, source_words, words_of, pred_words, kids_words, preds_words, node_words, pred_ok, kids_ok, node_ok}

-- ---- names are found at their own places

module _ {X : Type 0} (name : X → List ℕ) where
  name_in : (xs : List X) (i : ℕ) (x : X) → slice_get xs i ≡ Some x → In (name x) (map name xs)
  name_in [] i x here = absurd cc
  name_in (y ∷ ys) zero x here = let same : y ≡ x = cc in subst (λ (z : X). In (name z) (name y ∷ map name ys)) same (in_head (name y) (map name ys))
  name_in (y ∷ ys) (suc i) x here = in_tail (name x) (name y) (map name ys) (name_in ys i x here)

  place_own : (xs : List X) (i : ℕ) (x : X) → Distinct (map name xs) → slice_get xs i ≡ Some x → position_or_len (λ y. bytes_eq (name x) (name y)) xs ≡ i
  place_own [] i x d here = absurd cc
  place_own (y ∷ ys) zero x d here =
      let same : y ≡ x = cc in
      ap (λ b. cond (not b) (1 + position_or_len (λ z. bytes_eq (name x) (name z)) ys) 0) (ap (λ z. bytes_eq (name x) (name z)) same ∙ bytes_itself (name x))
  place_own (y ∷ ys) (suc i) x d here =
      let more = place_own ys i x (distinct_tail (name y) (map name ys) d) here in
      ap (λ b. cond (not b) (1 + position_or_len (λ z. bytes_eq (name x) (name z)) ys) 0) (other (bytes_eq (name x) (name y)) refl) ∙ (omega arith)
    where
      other : (b : Bool) → bytes_eq (name x) (name y) ≡ b → bytes_eq (name x) (name y) ≡ false
      other true t =
          absurd (distinct_head (name y) (map name ys) d (subst (λ (l : List ℕ). In l (map name ys)) (bytes_is (name x) (name y) t) (name_in ys i x here)))
      other false t = t

  pub position_own : (xs : List X) (i : ℕ) (x : X) → Distinct (map name xs) → slice_get xs i ≡ Some x → position (λ y. bytes_eq (name x) (name y)) xs ≡ Some i
  position_own xs i x d here =
      ap (λ n. let o : Option ℕ = cond (nat_lt n (length xs)) (Some n) None in o) (place_own xs i x d here)
      ∙ ap (λ b. let o : Option ℕ = cond b (Some i) None in o) (lt_true i (length xs) (slice_get_within xs i x here))

-- a draft means this node
pub record DraftIs (whole : List ℕ) (n : Node) (d : DraftNode) : Type 0 where
  pub name_is : name_of whole d.name ≡ n.name
  pub preds : map planned_pred d.preds ≡ n.preds
  pub kids : d.kids ≡ n.kids
  pub small : keys_of_node tt d ≡ Ok tt

-- the job's names differ
pub record NamesDiffer (p : Program) : Type 0 where
  pub kinds : Distinct (map (λ (k : Kind). k.name) p.kinds)
  pub sources : Distinct (map (λ (s : Source). s.name) p.sources)

-- ---- what is read of each part

module _ (whole : List ℕ) (p : Program) (differ : NamesDiffer p) where
  key_small : (k at : ℕ) → nat_lt k key_count ≡ true → small_keys (keys.One (record { value = pos k; at = at })) ≡ Ok tt
  key_small k at small = ap (λ b. unless b (f.OverLimit Key k)) small

  -- keys, as they are read
  record KeysAre (ks : Keys) (rest : List Laid) (ts : List Token) : Type 0 where
    written : WrittenKeys
    took : Took IsSign (Stand whole) (keys_signs written) rest ts
    is : planned_keys written ≡ ks
    small : small_keys written ≡ Ok tt

  read_keys : (ks : Keys) (behind : List ℕ) (rest : List Laid) (ts : List Token) → are_small_keys ks ≡ true → Stand whole (keys_words ks behind rest) ts
      → KeysAre ks rest ts
  read_keys plain.Alone behind rest ts small h = record { written = keys.Alone; took = took_none IsSign (Stand whole) rest ts h; is = refl; small = refl }
  read_keys (plain.One k) behind rest ts small h = record {
    written = keys.One (record { value = pos k; at = h.4.0.from });
    took = record {
      rest = h.4.4.1;
      begins =
          (h.0, h.1, h.2, h.3.word, (h.4.0, h.4.1, h.4.2, (h.4.3.word, refl), (h.4.4.0, h.4.4.1, h.4.4.2, h.4.4.3.word, refl)));
      stand = h.4.4.4;
    };
    is = refl;
    small = key_small k h.4.0.from small;
  }
  read_keys (plain.Range low high) behind rest ts small h =
      let a = h.4 in
      let dots = a.4 in
      let b = dots.4 in
      let close = b.4 in
      record {
        written = keys.Range (record { value = pos low; at = a.0.from }) (record { value = pos high; at = b.0.from });
        took = record {
          rest = close.1;
          begins = (
            h.0,
            h.1,
            h.2,
            h.3.word,
            (
              a.0,
              a.1,
              a.2,
              (a.3.word, refl),
              (dots.0, dots.1, dots.2, dots.3.word, (b.0, b.1, b.2, (b.3.word, refl), (close.0, close.1, close.2, close.3.word, refl))),
            ),
          );
          stand = close.4;
        };
        is = refl;
        small =
            ap (λ x. unless x (f.OverLimit Key low) >> unless (nat_lt high key_count) (f.OverLimit Key high))
            (and_left (nat_lt low key_count) (nat_lt high key_count) small)
            ∙ ap (λ x. unless x (f.OverLimit Key high)) (and_right (nat_lt low key_count) (nat_lt high key_count) small);
      }

  -- a source, as it is read
  record SourceAre (source : Option ℕ) (rest : List Laid) (ts : List Token) : Type 0 where
    written : Option WrittenSpan
    took : Took IsSign (Stand whole) (source_signs written) rest ts
    found : source_of p whole written ≡ Ok source
    there : is_some source ≡ is_some written

  source_known : (source : ℕ) (span : WrittenSpan) → is_some (slice_get p.sources source) ≡ true
      → name_of whole span ≡ name_of_source (slice_get p.sources source) → source_of p whole (Some span) ≡ Ok (Some source)
  source_known source span there named = by (slice_get p.sources source) refl there named
    where
      by : (o : Option Source) → slice_get p.sources source ≡ o → is_some o ≡ true → name_of whole span ≡ name_of_source o
          → source_of p whole (Some span) ≡ Ok (Some source)
      by None here there named = absurd cc
      by (Some s) here there named =
          ap (λ n. known span.from (source_named p.sources n) >>= λ v. Ok (Some v)) named
          ∙ ap (λ o. known span.from o >>= λ v. Ok (Some v)) (position_own (λ (x : Source). x.name) p.sources source s differ.sources here)

  read_source : (source : Option ℕ) (behind : List ℕ) (rest : List Laid) (ts : List Token) → names_source p source ≡ true
      → Stand whole (source_words p source behind rest) ts → SourceAre source rest ts
  read_source None behind rest ts fits h = record { written = None; took = took_none IsSign (Stand whole) rest ts h; found = refl; there = refl }
  read_source (Some source) behind rest ts fits h =
      let n = h.4 in
      let span = span_of n.0 in
      let named = n.3.named refl in
      record {
        written = Some span;
        took = record { rest = n.1; begins = (h.0, h.1, h.2, h.3.word, (n.0, n.1, n.2, (ap is_name_word n.3.word, refl, refl), refl)); stand = n.4 };
        found = source_known source span fits named;
        there = refl;
      }

  kind_known : (kind : ℕ) (span : WrittenSpan) → is_some (slice_get p.kinds kind) ≡ true → name_of whole span ≡ name_of_kind (slice_get p.kinds kind)
      → kind_of p whole (Some span) ≡ Ok (Some kind)
  kind_known kind span there named = by (slice_get p.kinds kind) refl there named
    where
      by : (o : Option Kind) → slice_get p.kinds kind ≡ o → is_some o ≡ true → name_of whole span ≡ name_of_kind o
          → kind_of p whole (Some span) ≡ Ok (Some kind)
      by None here there named = absurd cc
      by (Some k) here there named =
          ap (λ n. known span.from (kind_named p.kinds n) >>= λ v. Ok (Some v)) named
          ∙ ap (λ o. known span.from o >>= λ v. Ok (Some v)) (position_own (λ (x : Kind). x.name) p.kinds kind k differ.kinds here)

  -- a predicate that was written means this one
  pub record PredIs (q : Pred) (v : WrittenPred) : Type 0 where
    pub draft : DraftPred
    pub found : pred_of p whole v ≡ Ok draft
    pub is : planned_pred draft ≡ q
    pub small : small_keys draft.keys ≡ Ok tt
    pub part : HasPart v.kind v.keys v.source

  pred_found : (kind source : Option ℕ) (wk ws : Option WrittenSpan) (ks : WrittenKeys) → kind_of p whole wk ≡ Ok kind → source_of p whole ws ≡ Ok source
      → pred_of p whole (record { kind = wk; keys = ks; source = ws }) ≡ Ok (record { kind = kind; keys = ks; source = source })
  unfolding pred_of
  pred_found kind source wk ws ks a b =
      ap (λ r. r >>= λ k. source_of p whole ws >>= λ s. Ok (let d : DraftPred = record { kind = k; keys = ks; source = s } in d)) a
      ∙ ap (λ r. r >>= λ s. Ok (let d : DraftPred = record { kind = kind; keys = ks; source = s } in d)) b

  alone_is : (ks : Keys) → are_alone ks ≡ true → ks ≡ plain.Alone
  alone_is plain.Alone e = refl
  alone_is (plain.One k) e = absurd cc
  alone_is (plain.Range low high) e = absurd cc

  read_words : (kind : Option ℕ) (ks : Keys) (source : Option ℕ) (behind : List ℕ) (rest : List Laid) (ts : List Token)
      → pred_fits p (record { kind = kind; keys = ks; source = source }) ≡ true → are_small_keys ks ≡ true
      → Stand whole (words_of p kind ks source behind rest) ts
      → ItemIs IsSign (Stand whole) pred_signs PredIs (record { kind = kind; keys = ks; source = source }) rest ts
  read_words None ks None behind rest ts fits small h = let none : false ≡ true = fits in absurd cc
  read_words None ks (Some source) behind rest ts fits small h =
      let s = read_source (Some source) behind rest ts (and_right (are_alone ks) (names_source p (Some source)) fits) h in
      let alone = alone_is ks (and_left (are_alone ks) (names_source p (Some source)) fits) in
      record {
        written = record { kind = None; keys = keys.Alone; source = s.written };
        took = s.took;
        is = record {
          draft = record { kind = None; keys = keys.Alone; source = Some source };
          found = pred_found None (Some source) None s.written keys.Alone refl s.found;
          is = ap (λ (x : Keys). let q : Pred = record { kind = None; keys = x; source = Some source } in q) (sym alone);
          small = refl;
          part = (refl, sym s.there);
        };
      }
  read_words (Some kind) ks source behind rest ts fits small h =
      let here = and_left (is_some (slice_get p.kinds kind)) (names_source p source) fits in
      let span = span_of h.0 in
      let named = h.3.named refl in
      let k = read_keys ks (behind_keys source behind) (source_words p source behind rest) h.1 small h.4 in
      let s = read_source source behind rest k.took.rest (and_right (is_some (slice_get p.kinds kind)) (names_source p source) fits) k.took.stand in
      let both = took_more IsSign (Stand whole) (keys_signs k.written) (source_signs s.written) (source_words p source behind rest) rest h.1 k.took s.took in
      record {
        written = record { kind = Some span; keys = k.written; source = s.written };
        took = record { rest = both.rest; begins = (h.0, h.1, h.2, (ap is_name_word h.3.word, refl, refl), both.begins); stand = both.stand };
        is = record {
          draft = record { kind = Some kind; keys = k.written; source = source };
          found = pred_found (Some kind) source (Some span) s.written k.written (kind_known kind span here named) s.found;
          is = ap (λ (x : Keys). let q : Pred = record { kind = Some kind; keys = x; source = source } in q) k.is;
          small = k.small;
          part = tt;
        };
      }

  pub read_pred : (q : Pred) (behind : List ℕ) (rest : List Laid) (ts : List Token) → pred_ok p q ≡ true → Stand whole (pred_words p q behind rest) ts
      → ItemIs IsSign (Stand whole) pred_signs PredIs q rest ts
  read_pred q behind rest ts ok h =
      read_words q.kind q.keys q.source behind rest ts (and_left (pred_fits p q) (are_small_keys q.keys) ok)
      (and_right (pred_fits p q) (are_small_keys q.keys) ok) h

  -- ---- nodes

  -- predicates behind the colon, as they are read
  record PredsAre (preds : List Pred) (rest : List Laid) (ts : List Token) : Type 0 where
    written : List WrittenPred
    took : Took IsSign (Stand whole) (Any (w.Mark m.Colon) ∷ separated (w.Mark m.Comma) pred_signs written) rest ts
    are : Zip PredIs preds written

  read_preds : (preds : List Pred) (behind : List ℕ) (rest : List Laid) (ts : List Token) → list_all (pred_ok p) preds ≡ true
      → Stand whole (preds_words p preds behind rest) ts → PredsAre preds rest ts
  read_preds [] behind rest ts ok h = record { written = []; took = record { rest = h.1; begins = (h.0, h.1, h.2, h.3.word, refl); stand = h.4 }; are = tt }
  read_preds (q ∷ preds) behind rest ts ok h =
      let items = read_items IsSign (Stand whole) (pred_words p) [] (between m.Comma) pred_signs PredIs (pred_ok p) (Any (w.Mark m.Comma)) read_pred
      (λ r ts h. (h.0, h.1, h.2, h.3.word, h.4)) q preds behind rest h.1 ok h.4 in
      record {
        written = items.first ∷ items.others;
        took = record { rest = items.took.rest; begins = (h.0, h.1, h.2, h.3.word, items.took.begins); stand = items.took.stand };
        are = items.are;
      }

  module _ (all : List Node) where
    -- the children that were written mean these
    pub KidsAre : Option (ℕ × ℕ) → Option (WrittenSpan × WrittenSpan) → Type 0
    KidsAre None None = Unit {0}
    KidsAre None (Some spans) = ⊥
    KidsAre (Some kids) None = ⊥
    KidsAre (Some kids) (Some spans) =
        (name_of whole spans.0 ≡ name_of_child (slice_get all kids.0)) × (name_of whole spans.1 ≡ name_of_child (slice_get all kids.1))

    record KidsRead (kids : Option (ℕ × ℕ)) (rest : List Laid) (ts : List Token) : Type 0 where
      written : Option (WrittenSpan × WrittenSpan)
      took : Took IsSign (Stand whole) (kids_signs written) rest ts
      are : KidsAre kids written

    read_kids : (kids : Option (ℕ × ℕ)) (rest : List Laid) (ts : List Token) → kids_ok all kids ≡ true → Stand whole (kids_words all kids rest) ts
        → KidsRead kids rest ts
    unfolding KidsAre
    read_kids None rest ts ok h = record { written = None; took = took_none IsSign (Stand whole) rest ts h; are = tt }
    read_kids (Some kids) rest ts ok h =
        let left = name_of_child (slice_get all kids.0) in
        let right = name_of_child (slice_get all kids.1) in
        let a = h.4 in
        let b = a.4 in
        record {
          written = Some (span_of a.0, span_of b.0);
          took = record {
            rest = b.1;
            begins = (
              h.0,
              h.1,
              h.2,
              h.3.word,
              (a.0, a.1, a.2, (ap is_name_word a.3.word, refl, refl), (b.0, b.1, b.2, (ap is_name_word b.3.word, refl, refl), refl)),
            );
            stand = b.4;
          };
          are = (a.3.named refl, b.3.named refl);
        }

    -- a node that was written means this one
    pub record NodeIs (n : Node) (v : WrittenNode) : Type 0 where
      pub name_is : name_of whole v.name ≡ n.name
      pub preds : Zip PredIs n.preds v.preds
      pub kids : KidsAre n.kids v.kids

    read_node : (n : Node) (rest : List Laid) (ts : List Token) → node_ok p all n ≡ true → Stand whole (node_words p all n rest) ts
        → ItemIs IsSign (Stand whole) node_signs NodeIs n rest ts
    read_node n rest ts ok h =
        let first = and_left (is_name n.name && list_all (pred_ok p) n.preds) (kids_ok all n.kids) ok in
        let a = h.4 in
        let named = a.3.named refl in
        let preds = read_preds n.preds _ (kids_words all n.kids rest) a.1 (and_right (is_name n.name) (list_all (pred_ok p) n.preds) first) a.4 in
        let kids = read_kids n.kids rest preds.took.rest (and_right (is_name n.name && list_all (pred_ok p) n.preds) (kids_ok all n.kids) ok)
        preds.took.stand in
        let both = took_more IsSign (Stand whole) (Any (w.Mark m.Colon) ∷ separated (w.Mark m.Comma) pred_signs preds.written) (kids_signs kids.written)
        (kids_words all n.kids rest) rest a.1 preds.took kids.took in
        record {
          written = record { name = span_of a.0; preds = preds.written; kids = kids.written };
          took = record {
            rest = both.rest;
            begins = (h.0, h.1, h.2, h.3.word, (a.0, a.1, a.2, (ap is_name_word a.3.word, refl, refl), both.begins));
            stand = both.stand;
          };
          is = record { name_is = named; preds = preds.are; kids = kids.are };
        }

    -- nodes, as they are read
    record NodesAre (nodes : List Node) (ts : List Token) : Type 0 where
      written : List WrittenNode
      took : Took IsSign (Stand whole) (plan_signs written) [] ts
      are : Zip NodeIs nodes written

    read_nodes : (nodes : List Node) (ts : List Token) → list_all (node_ok p all) nodes ≡ true → Stand whole (lines_before (node_words p all) nodes []) ts
        → NodesAre nodes ts
    read_nodes [] ts ok h = record { written = []; took = took_none IsSign (Stand whole) [] ts h; are = tt }
    read_nodes (n ∷ nodes) ts ok h =
        let one = read_node n (lines_before (node_words p all) nodes []) ts (and_left (node_ok p all n) (list_all (node_ok p all) nodes) ok) h in
        let more = read_nodes nodes one.took.rest (and_right (node_ok p all n) (list_all (node_ok p all) nodes) ok) one.took.stand in
        record {
          written = one.written ∷ more.written;
          took =
              took_more IsSign (Stand whole) (node_signs one.written) (plan_signs more.written) (lines_before (node_words p all) nodes []) [] ts one.took
              more.took;
          are = (one.is, more.are);
        }

    preds_are : (preds : List Pred) (vs : List WrittenPred) → Zip PredIs preds vs → ArePreds vs
    preds_are [] [] h = tt
    preds_are [] (v ∷ vs) h = absurd h
    preds_are (q ∷ preds) [] h = absurd h
    preds_are (q ∷ preds) (v ∷ vs) h = (h.0.part, preds_are preds vs h.1)

    nodes_are : (nodes : List Node) (vs : List WrittenNode) → Zip NodeIs nodes vs → AreNodes vs
    nodes_are [] [] h = tt
    nodes_are [] (v ∷ vs) h = absurd h
    nodes_are (n ∷ nodes) [] h = absurd h
    nodes_are (n ∷ nodes) (v ∷ vs) h = (preds_are n.preds v.preds h.0.preds, nodes_are nodes vs h.1)

    zip_some : (nodes : List Node) (vs : List WrittenNode) → Zip NodeIs nodes vs → 0 < length nodes → vs ≢ []
    zip_some [] vs h some e = absurd (omega arith)
    zip_some (n ∷ nodes) [] h some e = absurd h
    zip_some (n ∷ nodes) (v ∷ vs) h some e = absurd cc

    -- the written plan of the words
    pub record WrittenIs (nodes : List Node) (ts : List Token) : Type 0 where
      pub written : List WrittenNode
      pub plan : ArePlan ts written
      pub are : Zip NodeIs nodes written

    pub read_all : BegunAreSigns → (nodes : List Node) (ts : List Token) → 0 < length nodes → list_all (node_ok p all) nodes ≡ true
        → Stand whole (lines_before (node_words p all) nodes []) ts → WrittenIs nodes ts
    read_all begun nodes ts some ok h =
        let r = read_nodes nodes ts ok h in
        record {
          written = r.written;
          plan = record {
            some = zip_some nodes r.written r.are some;
            grammar = nodes_are nodes r.written r.are;
            spelled = begun (plan_signs r.written) ts (subst (λ (l : List Token). Begins IsSign (plan_signs r.written) ts l) r.took.stand r.took.begins);
          };
          are = r.are;
        }

    -- ---- what the written nodes mean

    record PredsFound (preds : List Pred) (vs : List WrittenPred) : Type 0 where
      drafts : List DraftPred
      found : Pairs (pred_of p whole) vs drafts
      are : map planned_pred drafts ≡ preds
      small : each keys_of_pred tt drafts ≡ Ok tt

    preds_found : (preds : List Pred) (vs : List WrittenPred) → Zip PredIs preds vs → PredsFound preds vs
    unfolding Pairs each
    preds_found [] [] h = record { drafts = []; found = tt; are = refl; small = refl }
    preds_found [] (v ∷ vs) h = absurd h
    preds_found (q ∷ preds) [] h = absurd h
    preds_found (q ∷ preds) (v ∷ vs) h =
        let more = preds_found preds vs h.1 in
        record {
          drafts = h.0.draft ∷ more.drafts;
          found = (h.0.found, more.found);
          are = ap (λ x. x ∷ map planned_pred more.drafts) h.0.is ∙ ap (λ l. q ∷ l) more.are;
          small = ap (λ r. r >>= λ t. each keys_of_pred t more.drafts) h.0.small ∙ more.small;
        }

    abbrev pub all_names : List (List ℕ)
    all_names = map (λ (n : Node). n.name) all

    module _ (differ_all : Distinct all_names) where
      kid_found : (kid : ℕ) (span : WrittenSpan) → is_name (name_of_child (slice_get all kid)) ≡ true
          → name_of whole span ≡ name_of_child (slice_get all kid) → kid_of whole all_names span ≡ Ok kid
      kid_found kid span ok named = by (slice_get all kid) refl ok named
        where
          by : (o : Option Node) → slice_get all kid ≡ o → is_name (name_of_child o) ≡ true → name_of whole span ≡ name_of_child o
              → kid_of whole all_names span ≡ Ok kid
          by None here ok named = let bad : false ≡ true = ok in absurd cc
          by (Some n) here ok named =
              ap (λ x. known span.from (position (bytes_eq x) all_names)) named
              ∙ ap (known span.from) (sym (position_by_bytes (λ (x : Node). x.name) n.name all) ∙ position_own (λ (x : Node). x.name) all kid n differ_all here)

      kids_found : (kids : Option (ℕ × ℕ)) (spans : Option (WrittenSpan × WrittenSpan)) → kids_ok all kids ≡ true → KidsAre kids spans
          → kids_of whole all_names spans ≡ Ok kids
      unfolding KidsAre
      kids_found None None ok h = refl
      kids_found None (Some spans) ok h = absurd h
      kids_found (Some kids) None ok h = absurd h
      kids_found (Some kids) (Some spans) ok h =
          let left = name_of_child (slice_get all kids.0) in
          let right = name_of_child (slice_get all kids.1) in
          ap (λ r. r >>= λ a. kid_of whole all_names spans.1 >>= λ b. Ok (Some (a, b)))
          (kid_found kids.0 spans.0 (and_left (is_name left) (is_name right) ok) h.0)
          ∙ ap (λ r. r >>= λ b. Ok (Some (kids.0, b))) (kid_found kids.1 spans.1 (and_right (is_name left) (is_name right) ok) h.1)

      pub record NodesFound (nodes : List Node) (vs : List WrittenNode) : Type 0 where
        pub drafts : List DraftNode
        pub found : Pairs (node_of p whole all_names) vs drafts
        pub are : Zip (DraftIs whole) nodes drafts

      node_found : (v : WrittenNode) (preds : List DraftPred) (kids : Option (ℕ × ℕ)) → Pairs (pred_of p whole) v.preds preds
          → kids_of whole all_names v.kids ≡ Ok kids → node_of p whole all_names v ≡ Ok (record { name = v.name; preds = preds; kids = kids })
      unfolding node_of
      node_found v preds kids found kid =
          ap (λ r. r >>= λ q. kids_of whole all_names v.kids >>= λ k. Ok (let d : DraftNode = record { name = v.name; preds = q; kids = k } in d))
          (collects_all (pred_of p whole) [] v.preds preds found)
          ∙ ap (λ r. r >>= λ k. Ok (let d : DraftNode = record { name = v.name; preds = preds; kids = k } in d)) kid

      pub nodes_found : (nodes : List Node) (vs : List WrittenNode) → list_all (node_ok p all) nodes ≡ true → Zip NodeIs nodes vs → NodesFound nodes vs
      unfolding Pairs
      nodes_found [] [] ok h = record { drafts = []; found = tt; are = tt }
      nodes_found [] (v ∷ vs) ok h = absurd h
      nodes_found (n ∷ nodes) [] ok h = absurd h
      nodes_found (n ∷ nodes) (v ∷ vs) ok h =
          let here = and_left (node_ok p all n) (list_all (node_ok p all) nodes) ok in
          let preds = preds_found n.preds v.preds h.0.preds in
          let kids = kids_found n.kids v.kids (and_right (is_name n.name && list_all (pred_ok p) n.preds) (kids_ok all n.kids) here) h.0.kids in
          let more = nodes_found nodes vs (and_right (node_ok p all n) (list_all (node_ok p all) nodes) ok) h.1 in
          record {
            drafts = record { name = v.name; preds = preds.drafts; kids = n.kids } ∷ more.drafts;
            found = (node_found v preds.drafts n.kids preds.found kids, more.found);
            are = (record { name_is = h.0.name_is; preds = preds.are; kids = refl; small = preds.small }, more.are);
          }
