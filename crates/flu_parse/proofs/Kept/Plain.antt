-- The rules of the language on plain data, where no expression has boxes.
use Rattle.std.proofs.Common.{◌≡◌, ℕ, ◌+◌, Bool, true, false, List, map, length, Option, Some, None, refl, sym, ap, ◌∙◌}
use Rattle.std.specs.Prelude.{◌&&◌, ◌||◌, ◌==◌, ◌^◌, not, nat_lt, nat_le, max, slice_get, option_map}
use Rattle.std.specs.List.{list_all}
use Rattle.std.proofs.lemmas.List.{length-map}
use Rattle.std.proofs.lemmas.List.Folds.{list_all-map}
use Rattle.std.proofs.lemmas.Option.{slice_get-map}
use Rattle.flu_lemmas.proofs.Elements.{list_all_same}
use Rattle.flu_model.specs.declared.jobs.Family.{Family}
use Rattle.flu_model.specs.declared.jobs.Expr.{Expr}
use Rattle.flu_model.specs.declared.jobs.Expr.TheVariants.{Lit, Value, Key, Item, Time, Read, Has, Neg', Not', Two'}
use Rattle.flu_model.specs.declared.jobs.Act.{Act}
use Rattle.flu_model.specs.declared.jobs.Act.TheVariants.{Add, Raise, Set, Clear, ClearFamily, Emit, Flush}
use Rattle.flu_model.specs.declared.jobs.Action.{Action}
use Rattle.flu_model.specs.declared.jobs.Kind.{Kind}
use Rattle.flu_model.specs.declared.jobs.Depend.{Depend}
use Rattle.flu_model.specs.declared.jobs.Keys.{Keys}
use Rattle.flu_model.specs.declared.jobs.TagRef.{TagRef}
use Rattle.flu_model.specs.declared.jobs.Source.{Source}
use Rattle.flu_model.specs.declared.jobs.Sort.TheVariants.{Sum, Max, Last}
use Rattle.flu_names.specs.Names.{is_name}
use Rattle.flu_model.specs.Rules.{is_literal, ref_fits, ref_has_sort, expr_fits, height, is_good_expr, emit_template_fits, flush_template_fits, is_keyed}
use Rattle.flu_model.specs.Rules.{act_fits, guard_fits, action_fits, kind_fits, kind_is_keyed, depend_fits, keys_fit, listed_kind_fits, tag_ref_fits}
use Rattle.flu_model.specs.Rules.{is_file_text, is_same_tag, are_distinct, source_fits, is_tick_kind, is_tick_tag, has_origin}
use Rattle.flu_model.specs.Listing.{tags_of_source}
use Rattle.flu_model.specs.Erasure.{Term, Literal, EventValue, EventKey, EventItem, EventTime, CellRead, CellHeld, Negative, Negation, Operation, PlainAct}
use Rattle.flu_model.specs.Erasure.{Adding, Raising, Setting, Clearing, ClearingFamily, Emitting, Flushing, PlainAction, PlainKind, term_of, plain_act}
use Rattle.flu_model.specs.Erasure.{plain_action, plain_kind}

module _ (families : List Family) (keyed has_value : Bool) where
  abbrev pub term_fits : Term → Bool
  term_fits (Literal n) = is_literal n
  term_fits EventValue = has_value
  term_fits EventKey = keyed
  term_fits EventItem = true
  term_fits EventTime = true
  term_fits (CellRead r) = ref_fits families keyed r
  term_fits (CellHeld r) = ref_fits families keyed r
  term_fits (Negative e) = term_fits e
  term_fits (Negation e) = term_fits e
  term_fits (Operation op a b) = term_fits a && term_fits b

abbrev pub term_height : Term → ℕ
term_height (Literal n) = 1
term_height EventValue = 1
term_height EventKey = 1
term_height EventItem = 1
term_height EventTime = 1
term_height (CellRead r) = 1
term_height (CellHeld r) = 1
term_height (Negative e) = term_height e + 1
term_height (Negation e) = term_height e + 1
term_height (Operation op a b) = max (term_height a) (term_height b) + 1

module _ (families : List Family) (keyed has_value : Bool) where
  abbrev pub is_good_term : Term → Bool
  is_good_term e = term_fits families keyed has_value e && nat_le (term_height e) 32

  abbrev pub plain_act_fits : PlainAct → Bool
  plain_act_fits (Adding r e) = ref_fits families keyed r && ref_has_sort families Sum r && is_good_term e
  plain_act_fits (Raising r e) = ref_fits families keyed r && ref_has_sort families Max r && is_good_term e
  plain_act_fits (Setting r e) = ref_fits families keyed r && ref_has_sort families Last r && is_good_term e
  plain_act_fits (Clearing r) = ref_fits families keyed r
  plain_act_fits (ClearingFamily f) = is_keyed (slice_get families f)
  plain_act_fits (Emitting ps) = emit_template_fits families keyed has_value ps
  plain_act_fits (Flushing f ps) = is_keyed (slice_get families f) && flush_template_fits families f has_value ps

  abbrev pub plain_guard_fits : Option Term → Bool
  plain_guard_fits None = true
  plain_guard_fits (Some e) = is_good_term e

  abbrev pub plain_action_fits : PlainAction → Bool
  plain_action_fits a = plain_act_fits a.act && plain_guard_fits a.guard

abbrev pub plain_kind_fits : List Family → PlainKind → Bool
plain_kind_fits families k = is_name k.name && nat_le (length k.actions) 32 && list_all (plain_action_fits families k.keyed k.has_value) k.actions

-- ---- they are the rules
module _ (families : List Family) (keyed has_value : Bool) where
  expr-term : (e : Expr) → expr_fits families keyed has_value e ≡ term_fits families keyed has_value (term_of e)
  expr-term (Lit n) = refl
  expr-term Value = refl
  expr-term Key = refl
  expr-term Item = refl
  expr-term Time = refl
  expr-term (Read r) = refl
  expr-term (Has r) = refl
  expr-term (Neg' p e) = expr-term e
  expr-term (Not' p e) = expr-term e
  expr-term (Two' op p a q b) = λ i. expr-term a i && expr-term b i

height-term : (e : Expr) → height e ≡ term_height (term_of e)
height-term (Lit n) = refl
height-term Value = refl
height-term Key = refl
height-term Item = refl
height-term Time = refl
height-term (Read r) = refl
height-term (Has r) = refl
height-term (Neg' p e) = ap (λ n. n + 1) (height-term e)
height-term (Not' p e) = ap (λ n. n + 1) (height-term e)
height-term (Two' op p a q b) = λ i. max (height-term a i) (height-term b i) + 1

module _ (families : List Family) (keyed has_value : Bool) where
  good-term : (e : Expr) → is_good_expr families keyed has_value e ≡ is_good_term families keyed has_value (term_of e)
  good-term e = λ i. expr-term families keyed has_value e i && nat_le (height-term e i) 32

  act-plain : (a : Act) → act_fits families keyed has_value a ≡ plain_act_fits families keyed has_value (plain_act a)
  act-plain (Add r e) = ap (λ b. ref_fits families keyed r && ref_has_sort families Sum r && b) (good-term e)
  act-plain (Raise r e) = ap (λ b. ref_fits families keyed r && ref_has_sort families Max r && b) (good-term e)
  act-plain (Set r e) = ap (λ b. ref_fits families keyed r && ref_has_sort families Last r && b) (good-term e)
  act-plain (Clear r) = refl
  act-plain (ClearFamily f) = refl
  act-plain (Emit ps) = refl
  act-plain (Flush f ps) = refl

  guard-plain : (g : Option Expr) → guard_fits families keyed has_value g ≡ plain_guard_fits families keyed has_value (option_map term_of g)
  guard-plain None = refl
  guard-plain (Some e) = good-term e

  action-plain : (a : Action) → action_fits families keyed has_value a ≡ plain_action_fits families keyed has_value (plain_action a)
  action-plain a = λ i. act-plain a.act i && guard-plain a.guard i

kind-plain : (families : List Family) (k : Kind) → kind_fits families k ≡ plain_kind_fits families (plain_kind k)
kind-plain families k =
    ap (λ n. is_name k.name && nat_le n 32 && list_all (action_fits families k.keyed k.has_value) k.actions) (sym (length-map k.actions plain_action))
    ∙ ap (λ b. is_name k.name && nat_le (length (map plain_action k.actions)) 32 && b)
    (list_all_same (action_fits families k.keyed k.has_value) (λ a. plain_action_fits families k.keyed k.has_value (plain_action a)) k.actions
    (action-plain families k.keyed k.has_value)
    ∙ sym (list_all-map (plain_action_fits families k.keyed k.has_value) plain_action k.actions))

pub kinds-plain : (families : List Family) (kinds : List Kind)
    → list_all (kind_fits families) kinds ≡ list_all (plain_kind_fits families) (map plain_kind kinds)
kinds-plain families kinds =
    list_all_same (kind_fits families) (λ k. plain_kind_fits families (plain_kind k)) kinds (kind-plain families)
    ∙ sym (list_all-map (plain_kind_fits families) plain_kind kinds)

-- ---- what dependencies and sources need of kinds: which of them are keyed
abbrev pub keyed_at : Option Bool → Bool
keyed_at None = false
keyed_at (Some keyed) = keyed

abbrev pub ties_kinds : List Bool → Depend → Bool
ties_kinds keyed d =
    nat_lt d.a (length keyed) && nat_lt d.b (length keyed) && (not d.same || (keyed_at (slice_get keyed d.a) && keyed_at (slice_get keyed d.b)))

abbrev pub keys_fit_at : Option Bool → Keys → Bool
keys_fit_at None keys = false
keys_fit_at (Some keyed) keys = keys_fit keyed keys

abbrev pub lists_kind : List Bool → TagRef → Bool
lists_kind keyed r = keys_fit_at (slice_get keyed r.kind) r.keys

-- and which of them may tick
abbrev pub ticks_kind : List Bool → TagRef → Bool
ticks_kind ticking r = keyed_at (slice_get ticking r.kind)

abbrev pub has_source_origin : List Bool → Source → Option ℕ → Bool
has_source_origin ticking s None = is_file_text s.file
has_source_origin ticking s (Some every) =
    nat_le 1 every && nat_le every (2 ^ 62) && (length s.file == 0) && (s.slack == 0) && (length s.tags == 1) && list_all (ticks_kind ticking) s.tags

abbrev pub is_source : List Bool → List Bool → Source → Bool
is_source keyed ticking s =
    is_name s.name && has_source_origin ticking s s.every && nat_le s.rate 1000000000 && nat_le s.slack 60000 && nat_lt 0 (length s.tags)
    && list_all (lists_kind keyed) s.tags && are_distinct is_same_tag (tags_of_source s)

abbrev pub keyed_kinds : List Kind → List Bool
keyed_kinds kinds = map (λ (k : Kind). k.keyed) kinds

abbrev pub ticks : Kind → Bool
ticks k = not k.keyed && not k.has_item && not k.has_value

abbrev pub ticking_kinds : List Kind → List Bool
ticking_kinds kinds = map ticks kinds

at_kind : (o : Option Kind) → kind_is_keyed o ≡ keyed_at (option_map (λ (k : Kind). k.keyed) o)
at_kind None = refl
at_kind (Some k) = refl

listed_at : (o : Option Kind) (keys : Keys) → listed_kind_fits o keys ≡ keys_fit_at (option_map (λ (k : Kind). k.keyed) o) keys
listed_at None keys = refl
listed_at (Some k) keys = refl

keyed-place : (kinds : List Kind) (i : ℕ) → kind_is_keyed (slice_get kinds i) ≡ keyed_at (slice_get (keyed_kinds kinds) i)
keyed-place kinds i = at_kind (slice_get kinds i) ∙ ap keyed_at (sym (slice_get-map (λ (k : Kind). k.keyed) kinds i))

depend-plain : (kinds : List Kind) (d : Depend) → depend_fits kinds d ≡ ties_kinds (keyed_kinds kinds) d
depend-plain kinds d =
    ap (λ n. nat_lt d.a n && nat_lt d.b n && (not d.same || (kind_is_keyed (slice_get kinds d.a) && kind_is_keyed (slice_get kinds d.b))))
    (sym (length-map kinds (λ (k : Kind). k.keyed)))
    ∙ (λ i. nat_lt d.a (length (keyed_kinds kinds)) && nat_lt d.b (length (keyed_kinds kinds)) &&
    (not d.same || (keyed-place kinds d.a i && keyed-place kinds d.b i)))

pub depends-plain : (kinds : List Kind) (depends : List Depend) → list_all (depend_fits kinds) depends ≡ list_all (ties_kinds (keyed_kinds kinds)) depends
depends-plain kinds depends = list_all_same (depend_fits kinds) (ties_kinds (keyed_kinds kinds)) depends (depend-plain kinds)

tag-plain : (kinds : List Kind) (r : TagRef) → tag_ref_fits kinds r ≡ lists_kind (keyed_kinds kinds) r
tag-plain kinds r = listed_at (slice_get kinds r.kind) r.keys ∙ ap (λ o. keys_fit_at o r.keys) (sym (slice_get-map (λ (k : Kind). k.keyed) kinds r.kind))

ticks_at : (o : Option Kind) → is_tick_kind o ≡ keyed_at (option_map ticks o)
ticks_at None = refl
ticks_at (Some k) = refl

tick-plain : (kinds : List Kind) (r : TagRef) → is_tick_tag kinds r ≡ ticks_kind (ticking_kinds kinds) r
tick-plain kinds r = ticks_at (slice_get kinds r.kind) ∙ ap keyed_at (sym (slice_get-map ticks kinds r.kind))

origin-plain : (kinds : List Kind) (s : Source) (every : Option ℕ) → has_origin kinds s every ≡ has_source_origin (ticking_kinds kinds) s every
origin-plain kinds s None = refl
origin-plain kinds s (Some every) =
    ap (λ b. nat_le 1 every && nat_le every (2 ^ 62) && (length s.file == 0) && (s.slack == 0) && (length s.tags == 1) && b)
    (list_all_same (is_tick_tag kinds) (ticks_kind (ticking_kinds kinds)) s.tags (tick-plain kinds))

source-plain : (kinds : List Kind) (s : Source) → source_fits kinds s ≡ is_source (keyed_kinds kinds) (ticking_kinds kinds) s
source-plain kinds s =
    ap (λ b. is_name s.name && has_origin kinds s s.every && nat_le s.rate 1000000000 && nat_le s.slack 60000 && nat_lt 0
    (length s.tags) && b && are_distinct is_same_tag (tags_of_source s))
    (list_all_same (tag_ref_fits kinds) (lists_kind (keyed_kinds kinds)) s.tags (tag-plain kinds))
    ∙ ap (λ b. is_name s.name && b && nat_le s.rate 1000000000 && nat_le s.slack 60000 && nat_lt 0
    (length s.tags) && list_all (lists_kind (keyed_kinds kinds)) s.tags && are_distinct is_same_tag (tags_of_source s)) (origin-plain kinds s s.every)

pub sources-plain : (kinds : List Kind) (sources : List Source)
    → list_all (source_fits kinds) sources ≡ list_all (is_source (keyed_kinds kinds) (ticking_kinds kinds)) sources
sources-plain kinds sources = list_all_same (source_fits kinds) (is_source (keyed_kinds kinds) (ticking_kinds kinds)) sources (source-plain kinds)
