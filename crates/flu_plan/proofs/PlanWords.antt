-- The words of the text of a plan, each with the blanks behind it: they are laid out as that text, and each is spelled as a word.
use Rattle.std.proofs.Common.{◌≡◌, ℕ, Bool, true, false, ◌&&◌, List, [], ◌∷◌, ◌++◌, Option, Some, None, refl, ap, ◌∙◌, append_assoc}
use Rattle.std.specs.Prelude.{is_some, slice_get, codes}
use Rattle.std.specs.List.{list_all}
use Rattle.std.proofs.lemmas.List.{append-nil}
use Rattle.flu_lemmas.proofs.Tests.{and_left, and_right}
use Rattle.flu_names.specs.declared.reserved.Reserved.TheVariants as r
use Rattle.flu_text.specs.declared.words.Mark.TheVariants as m
use Rattle.flu_names.specs.Names.{is_name_byte, is_name}
use Rattle.flu_text.specs.Layout.{Piece as Laid, layout, NotFirst}
use Rattle.flu_model.specs.declared.jobs.Kind.{Kind}
use Rattle.flu_model.specs.declared.jobs.Source.{Source}
use Rattle.flu_model.specs.declared.jobs.Keys.{Keys}
use Rattle.flu_model.specs.declared.jobs.Program.{Program}
use Rattle.flu_model.specs.declared.plans.Pred.{Pred}
use Rattle.flu_model.specs.declared.plans.Node.{Node}
use Rattle.flu_model.specs.PlanRules.{are_small_keys}
use Rattle.flu_model.specs.Owners.{are_alone, names_source, pred_fits}
use Rattle.flu_layout.specs.Lists.{keys_text, between, items_words, behind_kind, keys_words}
use Rattle.flu_lemmas.specs.Items.{lines_before}
use Rattle.flu_lemmas.proofs.Elements.{passes_at}
use Rattle.flu_lemmas.proofs.Items.{items_out, lines_out, items_hold, lines_hold}
use Rattle.flu_layout.specs.Laid.{blank, line_end, reserved, mark, name, AreLaid, laid_none, laid_name, laid_reserved, laid_mark, laid_spaced, Follows}
use Rattle.flu_layout.specs.Laws.{KeysAreSpelled, KeysAreLaid}
use Rattle.flu_plan.specs.Printing.{name_of_kind, name_of_source, name_of_child, kind_text, source_text, pred_text, preds_text, kids_text, node_line, printed}

-- ---- predicates

-- what stands behind a kind with its keys
abbrev pub behind_keys : Option ℕ → List ℕ → List ℕ
behind_keys None behind = behind
behind_keys (Some source) behind = []

abbrev pub source_words : Program → Option ℕ → List ℕ → List Laid → List Laid
source_words p None behind rest = rest
source_words p (Some source) behind rest = mark m.At [] ∷ name (name_of_source (slice_get p.sources source)) behind ∷ rest

-- a predicate without a kind; one without a source too is none of the language
abbrev pub bare_words : Program → Option ℕ → List ℕ → List Laid → List Laid
bare_words p None behind rest = name [] behind ∷ rest
bare_words p (Some source) behind rest = source_words p (Some source) behind rest

abbrev pub words_of : Program → Option ℕ → Keys → Option ℕ → List ℕ → List Laid → List Laid
words_of p None ks source behind rest = bare_words p source behind rest
words_of p (Some kind) ks source behind rest =
    name (name_of_kind (slice_get p.kinds kind)) (behind_kind ks (behind_keys source behind)) ∷ keys_words ks (behind_keys source behind)
    (source_words p source behind rest)

abbrev pub pred_words : Program → Pred → List ℕ → List Laid → List Laid
pred_words p q behind rest = words_of p q.kind q.keys q.source behind rest

source_layout : (p : Program) (source : Option ℕ) (behind : List ℕ) (rest : List Laid)
    → behind_keys source behind ++ layout (source_words p source behind rest) ≡ source_text p source ++ (behind ++ layout rest)
source_layout p None behind rest = refl
source_layout p (Some source) behind rest = simp append_assoc

module _ (keys_spelled : KeysAreSpelled) where
  layout_of : (p : Program) (kind : Option ℕ) (ks : Keys) (source : Option ℕ) (behind : List ℕ) (rest : List Laid)
      → layout (words_of p kind ks source behind rest) ≡ (kind_text p kind ks ++ source_text p source) ++ (behind ++ layout rest)
  layout_of p None ks None behind rest = refl
  layout_of p None ks (Some source) behind rest = source_layout p (Some source) behind rest
  layout_of p (Some kind) ks source behind rest =
      let n : List ℕ = name_of_kind (slice_get p.kinds kind) in
      ap (λ l. n ++ l) (keys_spelled ks (behind_keys source behind) (source_words p source behind rest)
      ∙ ap (λ l. keys_text ks ++ l) (source_layout p source behind rest))
      ∙ regroup n (keys_text ks) (source_text p source) (behind ++ layout rest)
    where
      regroup : (a b c d : List ℕ) → a ++ (b ++ (c ++ d)) ≡ ((a ++ b) ++ c) ++ d
      regroup a b c d = simp append_assoc

  pred_layout : (p : Program) (q : Pred) (behind : List ℕ) (rest : List Laid) → layout (pred_words p q behind rest) ≡ pred_text p q ++ (behind ++ layout rest)
  pred_layout p q behind rest = layout_of p q.kind q.keys q.source behind rest

-- ---- nodes

-- what stands behind the predicates
abbrev pub behind_preds : Option (ℕ × ℕ) → List ℕ
behind_preds None = line_end
behind_preds (Some kids) = blank

abbrev pub kids_words : List Node → Option (ℕ × ℕ) → List Laid → List Laid
kids_words nodes None rest = rest
kids_words nodes (Some kids) rest =
    mark m.Arrow blank ∷ name (name_of_child (slice_get nodes kids.0)) blank ∷ name (name_of_child (slice_get nodes kids.1)) line_end ∷ rest

abbrev pub preds_words : Program → List Pred → List ℕ → List Laid → List Laid
preds_words p [] behind rest = mark m.Colon behind ∷ rest
preds_words p (q ∷ preds) behind rest = mark m.Colon blank ∷ items_words m.Comma (pred_words p) q preds behind rest

abbrev pub node_words : Program → List Node → Node → List Laid → List Laid
node_words p nodes n rest = reserved r.Node blank ∷ name n.name [] ∷ preds_words p n.preds (behind_preds n.kids) (kids_words nodes n.kids rest)

abbrev pub plan_words : Program → List Node → List Laid
plan_words p nodes = lines_before (node_words p nodes) nodes []

kids_layout : (nodes : List Node) (kids : Option (ℕ × ℕ)) (rest : List Laid)
    → behind_preds kids ++ layout (kids_words nodes kids rest) ≡ kids_text nodes kids ++ (line_end ++ layout rest)
kids_layout nodes None rest = refl
kids_layout nodes (Some kids) rest = simp append_assoc

module _ (keys_spelled : KeysAreSpelled) where
  preds_layout : (p : Program) (preds : List Pred) (behind : List ℕ) (rest : List Laid)
      → layout (preds_words p preds behind rest) ≡ codes ":" ++ (preds_text p preds ++ (behind ++ layout rest))
  preds_layout p [] behind rest = refl
  preds_layout p (q ∷ preds) behind rest =
      ap (λ l. codes ": " ++ l)
      (items_out (pred_words p) (between m.Comma) layout (pred_text p) (codes ", ") (pred_layout keys_spelled p) (λ rest. refl) q preds behind rest)

  node_layout : (p : Program) (nodes : List Node) (n : Node) (rest : List Laid) → layout (node_words p nodes n rest) ≡ node_line p nodes n ++ layout rest
  node_layout p nodes n rest =
      ap (λ l. codes "node " ++ (n.name ++ l)) (preds_layout p n.preds (behind_preds n.kids) (kids_words nodes n.kids rest)
      ∙ ap (λ l. codes ":" ++ (preds_text p n.preds ++ l)) (kids_layout nodes n.kids rest))
      ∙ regroup (codes "node ") n.name (codes ":") (preds_text p n.preds) (kids_text nodes n.kids) line_end (layout rest)
    where
      regroup : (a b c d e f g : List ℕ) → a ++ (b ++ (c ++ (d ++ (e ++ (f ++ g))))) ≡ (((((a ++ b) ++ c) ++ d) ++ e) ++ f) ++ g
      regroup a b c d e f g = simp append_assoc

  -- the text of a plan is these words, laid out
  pub plan_layout : (p : Program) (nodes : List Node) → layout (plan_words p nodes) ≡ printed p nodes
  plan_layout p nodes = lines_out (node_words p nodes) layout (node_line p nodes) (node_layout p nodes) nodes [] ∙ append-nil (printed p nodes)

-- ---- each word is one

-- the job's names are names of the language
pub record NamesFit (p : Program) : Type 0 where
  pub kinds : list_all (λ (k : Kind). is_name k.name) p.kinds ≡ true
  pub sources : list_all (λ (s : Source). is_name s.name) p.sources ≡ true

-- a predicate names kinds and sources of the job, with keys in range
abbrev pub pred_ok : Program → Pred → Bool
pred_ok p q = pred_fits p q && are_small_keys q.keys

abbrev pub kids_ok : List Node → Option (ℕ × ℕ) → Bool
kids_ok nodes None = true
kids_ok nodes (Some kids) = is_name (name_of_child (slice_get nodes kids.0)) && is_name (name_of_child (slice_get nodes kids.1))

abbrev pub node_ok : Program → List Node → Node → Bool
node_ok p nodes n = is_name n.name && list_all (pred_ok p) n.preds && kids_ok nodes n.kids

module _ (p : Program) (names : NamesFit p) where
  pub kind_is_name : (i : ℕ) → is_some (slice_get p.kinds i) ≡ true → is_name (name_of_kind (slice_get p.kinds i)) ≡ true
  kind_is_name i e = by (slice_get p.kinds i) refl e
    where
      by : (o : Option Kind) → slice_get p.kinds i ≡ o → is_some o ≡ true → is_name (name_of_kind o) ≡ true
      by None here e = absurd cc
      by (Some k) here e = passes_at (λ (k : Kind). is_name k.name) p.kinds i k names.kinds here

  pub source_is_name : (i : ℕ) → is_some (slice_get p.sources i) ≡ true → is_name (name_of_source (slice_get p.sources i)) ≡ true
  source_is_name i e = by (slice_get p.sources i) refl e
    where
      by : (o : Option Source) → slice_get p.sources i ≡ o → is_some o ≡ true → is_name (name_of_source o) ≡ true
      by None here e = absurd cc
      by (Some s) here e = passes_at (λ (s : Source). is_name s.name) p.sources i s names.sources here

module _ (keys_laid : KeysAreLaid) (p : Program) (names : NamesFit p) where
  laid_source : (source : Option ℕ) (behind : List ℕ) (rest : List Laid) → names_source p source ≡ true → Follows behind rest
      → Follows (behind_keys source behind) (source_words p source behind rest)
  laid_source None behind rest fits f = f
  laid_source (Some source) behind rest fits f =
      let n = laid_name (name_of_source (slice_get p.sources source)) behind rest (source_is_name p names source fits) f.blank f.ends f.laid in
      record { blank = refl; ends = refl; laid = laid_mark m.At [] _ (λ b. refl) refl n }

  laid_words : (kind : Option ℕ) (ks : Keys) (source : Option ℕ) (behind : List ℕ) (rest : List Laid)
      → pred_fits p (record { kind = kind; keys = ks; source = source }) ≡ true → are_small_keys ks ≡ true → Follows behind rest
      → AreLaid (words_of p kind ks source behind rest)
  laid_words None ks None behind rest fits small f = let none : false ≡ true = fits in absurd cc
  laid_words None ks (Some source) behind rest fits small f =
      (laid_source (Some source) behind rest (and_right (are_alone ks) (names_source p (Some source)) fits) f).laid
  laid_words (Some kind) ks source behind rest fits small f =
      let there = and_left (is_some (slice_get p.kinds kind)) (names_source p source) fits in
      let sourced = laid_source source behind rest (and_right (is_some (slice_get p.kinds kind)) (names_source p source) fits) f in
      let keyed = keys_laid ks (behind_keys source behind) (source_words p source behind rest) small sourced in
      laid_name (name_of_kind (slice_get p.kinds kind)) _ _ (kind_is_name p names kind there) keyed.blank keyed.ends keyed.laid

  laid_pred : (q : Pred) (behind : List ℕ) (rest : List Laid) → pred_ok p q ≡ true → Follows behind rest → AreLaid (pred_words p q behind rest)
  laid_pred q behind rest ok f =
      laid_words q.kind q.keys q.source behind rest (and_left (pred_fits p q) (are_small_keys q.keys) ok)
      (and_right (pred_fits p q) (are_small_keys q.keys) ok) f

  laid_kids : (nodes : List Node) (kids : Option (ℕ × ℕ)) (rest : List Laid) → kids_ok nodes kids ≡ true → AreLaid rest
      → Follows (behind_preds kids) (kids_words nodes kids rest)
  laid_kids nodes None rest ok laid = record { blank = refl; ends = refl; laid = laid }
  laid_kids nodes (Some kids) rest ok laid =
      let left = name_of_child (slice_get nodes kids.0) in
      let right = name_of_child (slice_get nodes kids.1) in
      let second = laid_name right line_end rest (and_right (is_name left) (is_name right) ok) refl refl laid in
      let first = laid_name left blank _ (and_left (is_name left) (is_name right) ok) refl refl second in
      record { blank = refl; ends = refl; laid = laid_spaced m.Arrow _ first }

  laid_preds : (preds : List Pred) (behind : List ℕ) (rest : List Laid) → list_all (pred_ok p) preds ≡ true → Follows behind rest
      → AreLaid (preds_words p preds behind rest)
  laid_preds [] behind rest ok f = laid_mark m.Colon behind rest (λ b. refl) f.blank f.laid
  laid_preds (q ∷ preds) behind rest ok f =
      laid_spaced m.Colon _
      (items_hold (pred_words p) [] (between m.Comma) (pred_ok p) AreLaid Follows laid_pred
      (λ rest laid. record { blank = refl; ends = refl; laid = laid_spaced m.Comma rest laid }) q preds behind rest ok f)

  laid_node : (nodes : List Node) (n : Node) (rest : List Laid) → node_ok p nodes n ≡ true → AreLaid rest → AreLaid (node_words p nodes n rest)
  laid_node nodes n rest ok laid =
      let first = and_left (is_name n.name && list_all (pred_ok p) n.preds) (kids_ok nodes n.kids) ok in
      let preds = laid_preds n.preds (behind_preds n.kids) (kids_words nodes n.kids rest) (and_right (is_name n.name) (list_all (pred_ok p) n.preds) first)
      (laid_kids nodes n.kids rest (and_right (is_name n.name && list_all (pred_ok p) n.preds) (kids_ok nodes n.kids) ok) laid) in
      let named = laid_name n.name [] _ (and_left (is_name n.name) (list_all (pred_ok p) n.preds) first) refl (colon_ends n.preds) preds in
      laid_reserved r.Node blank _ refl refl named
    where
      colon_ends : (preds : List Pred) → NotFirst is_name_byte (layout (preds_words p preds (behind_preds n.kids) (kids_words nodes n.kids rest)))
      colon_ends [] = refl
      colon_ends (q ∷ preds) = refl

  pub plan_laid : (nodes : List Node) → list_all (node_ok p nodes) nodes ≡ true → AreLaid (plan_words p nodes)
  plan_laid nodes ok = lines_hold (node_words p nodes) (node_ok p nodes) AreLaid (laid_node nodes) nodes [] ok laid_none
