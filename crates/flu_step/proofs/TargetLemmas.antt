-- The targets of a job's actions are in range, and what the writing calls leave.
use Rattle.std.proofs.Common.{◌≡◌, ◌<◌, ℕ, Bool, true, false, Option, Some, None, Result, OnOk, List, refl, sym, ap, subst, ◌∙◌, ◌+◌}
use Rattle.std.proofs.Common.{[], ◌∷◌, ◌++◌, length, drop, get_or, drop-cons, add-one, append_assoc}
use Rattle.std.proofs.lemmas.List.{map-append}
use Rattle.std.specs.Prelude.{nat_lt, if◌then◌else◌, ◌&&◌, slice_get}
use Rattle.std.specs.List.{list_all}
use Rattle.flu_model.specs.declared.events.Event.{Event}
use Rattle.flu_model.specs.declared.events.Tag.{Tag}
use Rattle.flu_model.specs.declared.events.Out.{Out}
use Rattle.flu_model.specs.Folding.{outputs_at}
use Rattle.flu_model.specs.declared.jobs.Kind.{Kind}
use Rattle.flu_model.specs.declared.jobs.Program.{Program}
use Rattle.flu_model.specs.Itags.{tag_of_itag}
use Rattle.flu_model.specs.Moments.{at_its_time}
use Rattle.flu_model.specs.declared.jobs.Family.{Family}
use Rattle.flu_model.specs.declared.jobs.At.{At}
use Rattle.flu_model.specs.declared.jobs.At.TheVariants.{Alone, OwnKey, OwnItem, Fixed}
use Rattle.flu_model.specs.declared.jobs.CellRef.{CellRef}
use Rattle.flu_model.specs.declared.jobs.Act.{Act}
use Rattle.flu_model.specs.declared.jobs.Act.TheVariants.{Add, Raise, Set, Clear, ClearFamily, Emit, Flush}
use Rattle.flu_model.specs.declared.jobs.Action.{Action}
use Rattle.flu_model.specs.Contents.{Contents, key_count}
use Rattle.flu_model.specs.Rules.{are_kinds, kind_fits, tag_fits, key_fits, family_fits, act_fits, action_fits}
use Rattle.flu_model.specs.Expressions.{item_of, key_of}
use Rattle.flu_model.specs.Texts.{Showing}
use Rattle.flu_model.specs.Updates.{Effect, actions_of, effect_of, effect_of_action, effect_of_actions, showing_of}
use Rattle.flu_lemmas.proofs.Elements.{passes_at}
use Rattle.flu_lemmas.proofs.Tests.{and_left, and_right, lt_true, true_lt}
use Rattle.flu_step.specs.Targets.{is_in_range, has_target_in_range}

-- an event's item is one of the keys
pub item_in_range : (x : Event) → nat_lt (item_of x) key_count ≡ true
item_in_range x = of (nat_lt x.item key_count) refl
  where
    of : (b : Bool) → nat_lt x.item key_count ≡ b → nat_lt (if b then x.item else 0) key_count ≡ true
    of true e = e
    of false e = refl

key_in_range : (family_keyed keyed : Bool) (at : At) (key item : ℕ) → key_fits family_keyed keyed at ≡ true → key < key_count
    → nat_lt item key_count ≡ true → nat_lt (key_of at key item) key_count ≡ true
key_in_range family_keyed keyed Alone key item e lt small = refl
key_in_range family_keyed keyed OwnKey key item e lt small = lt_true key key_count lt
key_in_range family_keyed keyed OwnItem key item e lt small = small
key_in_range family_keyed keyed (Fixed k) key item e lt small = and_right family_keyed (nat_lt k key_count) e

ref_in_range : (o : Option Family) (keyed : Bool) (r : CellRef) (key item : ℕ) → family_fits o keyed r.at ≡ true → key < key_count
    → nat_lt item key_count ≡ true → is_in_range r key item ≡ true
ref_in_range None keyed r key item e lt small = cc
ref_in_range (Some f) keyed r key item e lt small = key_in_range f.keyed keyed r.at key item e lt small

pub target_in_range : (families : List Family) (keyed has_value : Bool) (act : Act) (key item : ℕ) → act_fits families keyed has_value act ≡ true
    → key < key_count → nat_lt item key_count ≡ true → has_target_in_range act key item ≡ true
target_in_range families keyed has_value (Add r e) key item fits lt small =
    ref_in_range (slice_get families r.family) keyed r key item (and_left _ _ (and_left _ _ fits)) lt small
target_in_range families keyed has_value (Raise r e) key item fits lt small =
    ref_in_range (slice_get families r.family) keyed r key item (and_left _ _ (and_left _ _ fits)) lt small
target_in_range families keyed has_value (Set r e) key item fits lt small =
    ref_in_range (slice_get families r.family) keyed r key item (and_left _ _ (and_left _ _ fits)) lt small
target_in_range families keyed has_value (Clear r) key item fits lt small = refl
target_in_range families keyed has_value (ClearFamily f) key item fits lt small = refl
target_in_range families keyed has_value (Emit ps) key item fits lt small = refl
target_in_range families keyed has_value (Flush f ps) key item fits lt small = refl

pub on_ok_at : {T E : Type 0} (r : Result T E) (h x y : Contents) → OnOk r (h ≡ x) → x ≡ y → OnOk r (h ≡ y)
on_ok_at r h x y e f = subst (λ z. OnOk r (h ≡ z)) f e

-- one action first, and then the others
pub effect-drop : (show : Showing) (families : List Family) (all : List Action) (s : Contents) (x : Event) (key i : ℕ) (d : Action) → i < length all
    → effect_of_actions show families (drop i all) s x key
    ≡ (let first = effect_of_action show families (get_or all i d) s x key in
    let others = effect_of_actions show families (drop (i + 1) all) first.cells x key in
    record { cells = others.cells; texts = first.texts ++ others.texts })
effect-drop show families all s x key i d lt = ap (λ rest. effect_of_actions show families rest s x key) (drop-cons all i d lt) ∙ simp add-one

-- one turn of the loop over the actions
pub actions_turn : (show : Showing) (families : List Family) (all : List Action) (s t : Contents) (x : Event) (g : Tag) (i : ℕ) (a : Action)
    (outs more from : List Out) (whole : Effect)
    → i < length all → a ≡ get_or all i a
    → t ≡ (effect_of_action show families a s x g.key).cells
    → more ≡ outs ++ outputs_at x.time g (effect_of_action show families a s x g.key).texts
    → ((effect_of_actions show families (drop i all) s x g.key).cells ≡ whole.cells)
    × (outs ++ outputs_at x.time g (effect_of_actions show families (drop i all) s x g.key).texts ≡ from ++ outputs_at x.time g whole.texts)
    → ((effect_of_actions show families (drop (i + 1) all) t x g.key).cells ≡ whole.cells)
    × (more ++ outputs_at x.time g (effect_of_actions show families (drop (i + 1) all) t x g.key).texts ≡ from ++ outputs_at x.time g whole.texts)
actions_turn show families all s t x g i a outs more from whole lt is cells texts inv =
    let first : Effect = effect_of_action show families a s x g.key in
    let others : Effect = effect_of_actions show families (drop (i + 1) all) first.cells x g.key in
    let step : effect_of_actions show families (drop i all) s x g.key ≡ record { cells = others.cells; texts = first.texts ++ others.texts } =
    effect-drop show families all s x g.key i a lt ∙ (λ j. let f = effect_of_action show families (sym is j) s x g.key in let o =
    effect_of_actions show families (drop (i + 1) all) f.cells x g.key in record { cells = o.cells; texts = f.texts ++ o.texts }) in (
      ap (λ u. (effect_of_actions show families (drop (i + 1) all) u x g.key).cells) cells ∙ sym (ap (λ e. e.cells) step) ∙ inv.0,
      (λ j. texts j ++ outputs_at x.time g (effect_of_actions show families (drop (i + 1) all) (cells j) x g.key).texts)
          ∙ append_assoc outs (outputs_at x.time g first.texts) (outputs_at x.time g others.texts)
          ∙ ap (λ o. outs ++ o) (sym (map-append _ first.texts others.texts))
          ∙ sym (ap (λ e. outs ++ outputs_at x.time g e.texts) step)
          ∙ inv.1,
    )

pub targets_in_range : (families : List Family) (keyed has_value : Bool) (all : List Action) (key item : ℕ)
    → list_all (action_fits families keyed has_value) all ≡ true → key < key_count → nat_lt item key_count ≡ true
    → list_all (λ (a : Action). has_target_in_range a.act key item) all ≡ true
targets_in_range families keyed has_value [] key item fits lt small = refl
targets_in_range families keyed has_value (a ∷ all) key item fits lt small =
    ap (λ b. b && list_all (λ (a : Action). has_target_in_range a.act key item) all)
    (target_in_range families keyed has_value a.act key item (and_left _ _ (and_left _ _ fits)) lt small)
    ∙ targets_in_range families keyed has_value all key item (and_right _ _ fits) lt small

-- the actions of a tag's kind write in range, at any event
pub tag_targets : (families : List Family) (kinds : List Kind) (t : Tag) (x : Event) → are_kinds families kinds ≡ true → tag_fits kinds t ≡ true
    → list_all (λ (a : Action). has_target_in_range a.act t.key (item_of x)) (actions_of (slice_get kinds t.kind)) ≡ true
tag_targets families kinds t x fits small = of (slice_get kinds t.kind) refl
  where
    of : (o : Option Kind) → slice_get kinds t.kind ≡ o
        → list_all (λ (a : Action). has_target_in_range a.act t.key (item_of x)) (actions_of o) ≡ true
    of None e = refl
    of (Some k) e =
        targets_in_range families k.keyed k.has_value k.actions t.key (item_of x)
        (and_right _ _ (passes_at (kind_fits families) kinds t.kind k fits e)) (true_lt _ _ (and_right _ _ small)) (item_in_range x)

pub effect-at : (p : Program) (s : Contents) (x y : Event) (t : Tag) (show : Showing) (families : List Family) (all : List Action)
    → show ≡ showing_of p t.kind → families ≡ p.families → all ≡ actions_of (slice_get p.kinds t.kind) → t ≡ tag_of_itag p x.itag
    → y ≡ at_its_time p x → effect_of_actions show families all s y t.key ≡ effect_of p s x
effect-at p s x y t show families all is_shown is_families is_all is at =
    ap (λ shown. effect_of_actions shown families all s y t.key) is_shown
    ∙ ap (λ fs. effect_of_actions (showing_of p t.kind) fs all s y t.key) is_families
    ∙ ap (λ acts. effect_of_actions (showing_of p t.kind) p.families acts s y t.key) is_all
    ∙ ap (λ z. effect_of_actions (showing_of p t.kind) p.families (actions_of (slice_get p.kinds t.kind)) s z t.key) at
    ∙ ap (λ u. effect_of_actions (showing_of p u.kind) p.families (actions_of (slice_get p.kinds u.kind)) s (at_its_time p x) u.key) is
