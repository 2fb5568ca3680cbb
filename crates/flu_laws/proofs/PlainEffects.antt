-- An event has the same effect for programs of one job.
use Rattle.std.proofs.Common.{◌≡◌, refl, sym, ap, ◌∙◌, ℕ, ℤ, pos, List, [], ◌∷◌, ◌++◌, Bool, true, map, length, Option, Some, None}
use Rattle.std.specs.Prelude.{◌*◌, ◌/◌, ◌==◌, max, option_map, slice_get, slice_index_or, not, neg_ℤ, is_some, if◌then◌else◌}
use Rattle.std.proofs.lemmas.Option.{slice_get-map}
use Rattle.flu_model.specs.declared.events.Event.{Event}
use Rattle.flu_model.specs.declared.events.Itag.{Itag}
use Rattle.flu_model.specs.declared.events.Tag.{Tag}
use Rattle.flu_model.specs.declared.events.Worth.TheVariants.{Last}
use Rattle.flu_model.specs.declared.jobs.Act.{Act}
use Rattle.flu_model.specs.declared.jobs.Act.TheVariants.{Add, Raise, Set, Clear, ClearFamily, Emit, Flush}
use Rattle.flu_model.specs.declared.jobs.Action.{Action}
use Rattle.flu_model.specs.declared.jobs.Expr.{Expr}
use Rattle.flu_model.specs.declared.jobs.Expr.TheVariants.{Lit, Value, Key, Item as EventsItem, Time, Read, Has, Neg', Not', Two'}
use Rattle.flu_model.specs.declared.jobs.Family.{Family}
use Rattle.flu_model.specs.declared.jobs.Kind.{Kind}
use Rattle.flu_model.specs.declared.jobs.Program.{Program}
use Rattle.flu_model.specs.declared.jobs.Source.{Source}
use Rattle.flu_model.specs.Contents.{Contents, cell, with_worth, added, raised, number_in, held_keys, without_family}
use Rattle.flu_model.specs.Erasure.{Term, Literal, EventValue, EventKey, EventItem as ItemTerm, EventTime, CellRead, CellHeld, Negative, Negation, Operation}
use Rattle.flu_model.specs.Erasure.{term_of, PlainAct, Adding, Raising, Setting, Clearing, ClearingFamily, Emitting, Flushing, plain_act, PlainAction}
use Rattle.flu_model.specs.Erasure.{plain_action, PlainKind, plain_kind, Job, job_of, IsSameJob}
use Rattle.flu_model.specs.Expressions.{cell_of, item_of, clamped, as_number, is_true, result_of, value_of_expr}
use Rattle.flu_model.specs.Listing.{tag, itags_of_sources}
use Rattle.flu_model.specs.Moments.{at_its_time, time_of_moment}
use Rattle.flu_model.specs.Texts.{Showing, pieces_text}
use Rattle.flu_model.specs.Updates.{Effect, changes_to, effect_of_act, passes_guard, effect_of_action, effect_of_actions, actions_of, effect_of}
use Rattle.flu_model.specs.Updates.{list_of_kind, showing_of, with_keys}

-- ---- the update depends on the actions as plain data
value_of_term : Term → Contents → Event → ℕ → ℤ
value_of_term (Literal n) s x key = n
value_of_term EventValue s x key = x.value
value_of_term EventKey s x key = pos key
value_of_term ItemTerm s x key = pos (item_of x)
value_of_term EventTime s x key = clamped (pos x.time)
value_of_term (CellRead r) s x key = number_in (s (cell_of r key (item_of x)))
value_of_term (CellHeld r) s x key = as_number (is_some (s (cell_of r key (item_of x))))
value_of_term (Negative e) s x key = clamped (neg_ℤ (value_of_term e s x key))
value_of_term (Negation e) s x key = as_number (not (is_true (value_of_term e s x key)))
value_of_term (Operation op a b) s x key = result_of op (value_of_term a s x key) (value_of_term b s x key)

value-term : (e : Expr) (s : Contents) (x : Event) (key : ℕ) → value_of_expr e s x key ≡ value_of_term (term_of e) s x key
unfolding value_of_term
value-term (Lit n) s x key = refl
value-term Value s x key = refl
value-term Key s x key = refl
value-term EventsItem s x key = refl
value-term Time s x key = refl
value-term (Read r) s x key = refl
value-term (Has r) s x key = refl
value-term (Neg' p e) s x key = ap (λ z. clamped (neg_ℤ z)) (value-term e s x key)
value-term (Not' p e) s x key = ap (λ z. as_number (not (is_true z))) (value-term e s x key)
value-term (Two' op p a q b) s x key = λ i. result_of op (value-term a s x key i) (value-term b s x key i)

effect_of_plain_act : Showing → List Family → PlainAct → Contents → Event → ℕ → Effect
effect_of_plain_act show families (Adding r e) s x key =
    changes_to (with_worth s (cell_of r key (item_of x)) (added (s (cell_of r key (item_of x))) (value_of_term e s x key)))
effect_of_plain_act show families (Raising r e) s x key =
    changes_to (with_worth s (cell_of r key (item_of x)) (raised (s (cell_of r key (item_of x))) (value_of_term e s x key)))
effect_of_plain_act show families (Setting r e) s x key = changes_to (with_worth s (cell_of r key (item_of x)) (Some (Last (value_of_term e s x key))))
effect_of_plain_act show families (Clearing r) s x key = changes_to (with_worth s (cell_of r key (item_of x)) None)
effect_of_plain_act show families (ClearingFamily f) s x key = changes_to (without_family s f)
effect_of_plain_act show families (Emitting ps) s x key = record { cells = s; texts = pieces_text show families ps s x key None ∷ [] }
effect_of_plain_act show families (Flushing f ps) s x key =
    record {
      cells = without_family s f;
      texts = map (λ k. pieces_text (with_keys show (slice_get families f)) families ps s x k (s (cell f k)))
          (held_keys s f);
    }

act-plain : (show : Showing) (families : List Family) (act : Act) (s : Contents) (x : Event) (key : ℕ)
    → effect_of_act show families act s x key ≡ effect_of_plain_act show families (plain_act act) s x key
unfolding effect_of_plain_act
act-plain show families (Add r e) s x key =
    ap (λ z. changes_to (with_worth s (cell_of r key (item_of x)) (added (s (cell_of r key (item_of x))) z))) (value-term e s x key)
act-plain show families (Raise r e) s x key =
    ap (λ z. changes_to (with_worth s (cell_of r key (item_of x)) (raised (s (cell_of r key (item_of x))) z))) (value-term e s x key)
act-plain show families (Set r e) s x key = ap (λ z. changes_to (with_worth s (cell_of r key (item_of x)) (Some (Last z)))) (value-term e s x key)
act-plain show families (Clear r) s x key = refl
act-plain show families (ClearFamily f) s x key = refl
act-plain show families (Emit ps) s x key = refl
act-plain show families (Flush f ps) s x key = refl

passes_plain_guard : Option Term → Contents → Event → ℕ → Bool
passes_plain_guard None s x key = true
passes_plain_guard (Some e) s x key = is_true (value_of_term e s x key)

guard-plain : (guard : Option Expr) (s : Contents) (x : Event) (key : ℕ)
    → passes_guard guard s x key ≡ passes_plain_guard (option_map term_of guard) s x key
unfolding passes_plain_guard
guard-plain None s x key = refl
guard-plain (Some e) s x key = ap is_true (value-term e s x key)

effect_of_plain_action : Showing → List Family → PlainAction → Contents → Event → ℕ → Effect
effect_of_plain_action show families a s x key =
    if passes_plain_guard a.guard s x key then effect_of_plain_act show families a.act s x key else changes_to s

action-plain : (show : Showing) (families : List Family) (a : Action) (s : Contents) (x : Event) (key : ℕ)
    → effect_of_action show families a s x key ≡ effect_of_plain_action show families (plain_action a) s x key
unfolding effect_of_plain_action
action-plain show families a s x key = λ i. if guard-plain a.guard s x key i then act-plain show families a.act s x key i else changes_to s

-- one effect, and then another
abbrev both : Effect → Effect → Effect
both first others = record { cells = others.cells; texts = first.texts ++ others.texts }

effect_of_plain_actions : Showing → List Family → List PlainAction → Contents → Event → ℕ → Effect
effect_of_plain_actions show families [] s x key = changes_to s
effect_of_plain_actions show families (a ∷ rest) s x key =
    both (effect_of_plain_action show families a s x key)
    (effect_of_plain_actions show families rest (effect_of_plain_action show families a s x key).cells x key)

actions-plain : (show : Showing) (families : List Family) (all : List Action) (s : Contents) (x : Event) (key : ℕ)
    → effect_of_actions show families all s x key ≡ effect_of_plain_actions show families (map plain_action all) s x key
unfolding effect_of_plain_actions
actions-plain show families [] s x key = refl
actions-plain show families (a ∷ rest) s x key =
    ap (λ (first : Effect). both first (effect_of_actions show families rest first.cells x key)) (action-plain show families a s x key)
    ∙ ap (λ (others : Effect). both (effect_of_plain_action show families (plain_action a) s x key) others)
    (actions-plain show families rest (effect_of_plain_action show families (plain_action a) s x key).cells x key)

plain_actions_of : Option PlainKind → List PlainAction
plain_actions_of None = []
plain_actions_of (Some k) = k.actions

kind-plain : (kind : Option Kind) → map plain_action (actions_of kind) ≡ plain_actions_of (option_map plain_kind kind)
unfolding plain_actions_of
kind-plain None = refl
kind-plain (Some k) = refl

-- the tag of an itag
abbrev tag_at : List Source → Itag → Tag
tag_at sources i = (slice_index_or (itags_of_sources 0 sources) i.0 (tag 0 0, 0)).0

list_of_plain_kind : Option PlainKind → Option ℕ
list_of_plain_kind None = None
list_of_plain_kind (Some k) = k.list

list-plain : (kind : Option Kind) → list_of_kind kind ≡ list_of_plain_kind (option_map plain_kind kind)
unfolding list_of_plain_kind
list-plain None = refl
list-plain (Some k) = refl

-- how times and numbers are shown at an event of this kind
showing_at : Job → ℕ → Showing
showing_at j kind = record { iso = j.iso; lists = j.lists; items = list_of_plain_kind (slice_get j.kinds kind); keys = None }

showing-plain : (p : Program) (kind : ℕ) → showing_of p kind ≡ showing_at (job_of p) kind
unfolding showing_at
showing-plain p kind =
    ap (λ items. record { iso = p.iso; lists = p.lists; items = items; keys = None })
    (list-plain (slice_get p.kinds kind) ∙ ap list_of_plain_kind (sym (slice_get-map plain_kind p.kinds kind)))

-- the time of a moment, and an event at its time
time_in : Job → ℕ → ℕ
time_in j m = m / (if j.version == 3 then max 1 (length j.sources) * j.ties else 1)

event_in : Job → Event → Event
event_in j x = record { time = time_in j x.time; itag = x.itag; item = x.item; value = x.value }

plain_effect : Job → Contents → Event → Effect
plain_effect j s x =
    effect_of_plain_actions (showing_at j (tag_at j.sources x.itag).kind) j.families (plain_actions_of (slice_get j.kinds (tag_at j.sources x.itag).kind))
    s (event_in j x) (tag_at j.sources x.itag).key

effect-plain : (p : Program) (s : Contents) (x : Event) → effect_of p s x ≡ plain_effect (job_of p) s x
unfolding plain_effect event_in time_in
effect-plain p s x =
    let t = tag_at p.sources x.itag in
    let shown = showing_at (job_of p) t.kind in
    let y = at_its_time p x in
    ap (λ show. effect_of_actions show p.families (actions_of (slice_get p.kinds t.kind)) s y t.key) (showing-plain p t.kind)
    ∙ actions-plain shown p.families (actions_of (slice_get p.kinds t.kind)) s y t.key
    ∙ ap (λ all. effect_of_plain_actions shown p.families all s y t.key)
    (kind-plain (slice_get p.kinds t.kind) ∙ ap plain_actions_of (sym (slice_get-map plain_kind p.kinds t.kind)))

pub same_effect : (p q : Program) (s : Contents) (x : Event) → IsSameJob p q → effect_of p s x ≡ effect_of q s x
same_effect p q s x same = effect-plain p s x ∙ (ap (λ (j : Job). plain_effect j s x) same ∙ sym (effect-plain q s x))

-- and a moment has the same time
time-plain : (p : Program) (m : ℕ) → time_of_moment p m ≡ time_in (job_of p) m
unfolding time_in
time-plain p m = refl

pub same_time : (p q : Program) (m : ℕ) → IsSameJob p q → time_of_moment p m ≡ time_of_moment q m
same_time p q m same = time-plain p m ∙ (ap (λ (j : Job). time_in j m) same ∙ sym (time-plain q m))
