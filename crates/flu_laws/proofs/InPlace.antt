-- Changes of one cell that go together may be exchanged.
use Rattle.std.proofs.Common.{◌≡◌, ℕ, ℤ, false, Option, List, [], ◌∷◌, ◌++◌, refl, sym, ap, ◌∙◌}
use Rattle.std.specs.Prelude.{slice_get}
use Rattle.std.specs.List.{AllByRecursion}
use Rattle.flu_model.specs.declared.events.Cell.{Cell}
use Rattle.flu_model.specs.declared.events.Event.{Event}
use Rattle.flu_model.specs.declared.events.Tag.{Tag}
use Rattle.flu_model.specs.declared.events.Worth.{Worth}
use Rattle.flu_model.specs.declared.jobs.Action.{Action}
use Rattle.flu_model.specs.declared.jobs.Family.{Family}
use Rattle.flu_model.specs.declared.jobs.Program.{Program}
use Rattle.flu_model.specs.declared.modes.Mode.{Mode}
use Rattle.flu_model.specs.declared.modes.Mode.TheVariants.{None as NoMode, Add as AddMode, Raise as RaiseMode, Read as ReadMode, Own}
use Rattle.flu_model.specs.Contents.{Contents}
use Rattle.flu_model.specs.Itags.{tag_of_itag}
use Rattle.flu_model.specs.Moments.{at_its_time}
use Rattle.flu_model.specs.Texts.{Showing}
use Rattle.flu_model.specs.Updates.{actions_of, showing_of}
use Rattle.flu_model.specs.Modes.{mode_of, modes_conflict}
use Rattle.flu_laws.specs.Changes.{applied, reach, amount_added, level_reached, change_by}
use Rattle.flu_laws.specs.Spans.{Moment, change_at, changed_by, GoesWith, UpdatesInPlace}
use Rattle.flu_laws.proofs.Algebra.{added-swap, higher-comm}
use Rattle.flu_laws.proofs.Changing.{raised_to, raised_to-higher}
use Rattle.flu_laws.proofs.Stepping.{applied-reach}
use Rattle.flu_laws.proofs.Updating.{changes_are_local, updates_are_changes}

-- ---- changes that go together
applied-reach-swap : (a b : Option ℤ) (w : Option Worth) → applied (reach a) (applied (reach b) w) ≡ applied (reach b) (applied (reach a) w)
applied-reach-swap a b w =
    sym (applied-reach a (applied (reach b) w)) ∙ ap (λ u. raised_to u a) (sym (applied-reach b w))
    ∙ raised_to-higher w b a ∙ ap (raised_to w) (higher-comm b a) ∙ sym (raised_to-higher w a b)
    ∙ ap (λ u. raised_to u b) (applied-reach a w) ∙ applied-reach b (applied (reach a) w)

swap_by : (show shown : Showing) (families : List Family) (m n : Mode) (all others : List Action) (s t : Contents) (x y : Event) (i j : ℕ) (c : Cell)
    (w : Option Worth) → modes_conflict m n ≡ false
    → applied (change_by show families m all s x i c) (applied (change_by shown families n others t y j c) w)
    ≡ applied (change_by shown families n others t y j c)
    (applied (change_by show families m all s x i c) w)
swap_by show shown families NoMode n all others s t x y i j c w ok = refl
swap_by show shown families ReadMode n all others s t x y i j c w ok = refl
swap_by show shown families m NoMode all others s t x y i j c w ok = refl
swap_by show shown families m ReadMode all others s t x y i j c w ok = refl
swap_by show shown families AddMode AddMode all others s t x y i j c w ok =
    added-swap w (amount_added shown families others t y j c) (amount_added show families all s x i c)
swap_by show shown families AddMode RaiseMode all others s t x y i j c w ok = cc
swap_by show shown families AddMode Own all others s t x y i j c w ok = cc
swap_by show shown families RaiseMode AddMode all others s t x y i j c w ok = cc
swap_by show shown families RaiseMode RaiseMode all others s t x y i j c w ok =
    applied-reach-swap (level_reached show families all s x i c) (level_reached shown families others t y j c) w
swap_by show shown families RaiseMode Own all others s t x y i j c w ok = cc
swap_by show shown families Own AddMode all others s t x y i j c w ok = cc
swap_by show shown families Own RaiseMode all others s t x y i j c w ok = cc
swap_by show shown families Own Own all others s t x y i j c w ok = cc

-- a change that goes with all later ones may come last
last_of : (p : Program) (c : Cell) (m : Moment) (w : Option Worth) (after : List Moment) → AllByRecursion (GoesWith p c m.event) after
    → applied (change_at p c m) (changed_by p c w after) ≡ changed_by p c (applied (change_at p c m) w) after
last_of p c m w [] go = refl
last_of p c m w (q ∷ after) go =
    last_of p c m (applied (change_at p c q) w) after go.1
    ∙ ap (λ u. changed_by p c u after) (
    let g : Tag = tag_of_itag p m.event.itag in
    let h : Tag = tag_of_itag p q.event.itag in
    swap_by (showing_of p g.kind) (showing_of p h.kind) p.families (mode_of p g c) (mode_of p h c) (actions_of (slice_get p.kinds g.kind))
    (actions_of (slice_get p.kinds h.kind)) m.before q.before (at_its_time p m.event) (at_its_time p q.event) g.key h.key c w go.0
    )

inserted : (p : Program) (c : Cell) (m : Moment) (w : Option Worth) (before after : List Moment) → AllByRecursion (GoesWith p c m.event) after
    → applied (change_at p c m) (changed_by p c w (before ++ after)) ≡ changed_by p c w (before ++ m ∷ after)
inserted p c m w [] after go = last_of p c m w after go
inserted p c m w (q ∷ before) after go = inserted p c m (applied (change_at p c q) w) before after go

pub in_place_law : UpdatesInPlace
in_place_law p s before after m c w sorted same holds go =
    updates_are_changes p s m.event c sorted
    ∙ ap (λ h. applied h (s c)) (changes_are_local p s m.before m.event c same)
    ∙ ap (applied (change_at p c m)) holds
    ∙ inserted p c m w before after go
