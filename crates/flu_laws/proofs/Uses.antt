-- What modes need and write, and which modes conflict.
use Rattle.std.proofs.Common.{◌≡◌, ℕ, Bool, true, false, cond, List, refl, sym, ap, ◌∙◌}
use Rattle.std.specs.Prelude.{◌==◌, ◌||◌, ◌&&◌, not, slice_get}
use Rattle.std.specs.List.{list_any}
use Rattle.flu_lemmas.proofs.Searches.{list_any_within, list_any_or}
use Rattle.flu_lemmas.proofs.Tests.{not_both, true_eq, false_if_not}
use Rattle.flu_model.specs.declared.events.Cell.{Cell}
use Rattle.flu_model.specs.declared.events.Event.{Event}
use Rattle.flu_model.specs.declared.events.Tag.{Tag}
use Rattle.flu_model.specs.declared.jobs.Action.{Action}
use Rattle.flu_model.specs.declared.jobs.Depend.{Depend}
use Rattle.flu_model.specs.declared.jobs.Program.{Program}
use Rattle.flu_model.specs.declared.modes.Mode.{Mode}
use Rattle.flu_model.specs.declared.modes.Mode.TheVariants.{None as NoMode, Add as AddMode, Raise as RaiseMode, Read as ReadMode, Own}
use Rattle.flu_model.specs.Contents.{Contents}
use Rattle.flu_model.specs.Itags.{tag_of_itag, ties_tags, is_dependent}
use Rattle.flu_model.specs.Updates.{actions_of}
use Rattle.flu_model.specs.Modes.{mode_in_version_1, mode_with_reads, mode_among, modes_conflict}
use Rattle.flu_model.specs.Modes.{guard_reads, act_reads, action_reads, act_overwrites, act_adds, act_raises}
use Rattle.flu_laws.specs.Uses.{needs, writes, AgreeOnNeeds, NeedsByActions, WritesByActions}
use Rattle.flu_lemmas.proofs.Booleans.{or_turns}
use Rattle.flu_lemmas.proofs.Numbers.{same_turns}
use Rattle.flu_laws.proofs.Reading.{Agree, action_needs}

-- ---- what the tests of a mode say

-- as `mode_from`, with the test of the version made
abbrev mode_where : Bool → Bool → Bool → Bool → Bool → Mode
mode_where first r o a m = cond first (mode_in_version_1 r o a m) (mode_with_reads r o a m)

needs_where : (first r o a m : Bool) → needs (mode_where first r o a m) ≡ (r || o)
needs_where false true true a m = refl
needs_where false true false true m = refl
needs_where false true false false true = refl
needs_where false true false false false = refl
needs_where false false true a m = refl
needs_where false false false true m = refl
needs_where false false false false true = refl
needs_where false false false false false = refl
needs_where true true o a m = refl
needs_where true false true a m = refl
needs_where true false false true m = refl
needs_where true false false false true = refl
needs_where true false false false false = refl

-- in the versions after the first
writes_shared : (r o a m : Bool) → writes (mode_with_reads r o a m) ≡ (o || (a || m))
writes_shared true true a m = refl
writes_shared true false true m = refl
writes_shared true false false true = refl
writes_shared true false false false = refl
writes_shared false true a m = refl
writes_shared false false true m = refl
writes_shared false false false true = refl
writes_shared false false false false = refl

pub needs_by_actions : NeedsByActions
needs_by_actions p t c =
    let all = actions_of (slice_get p.kinds t.kind) in
    needs_where (p.version == 1) (list_any (action_reads t.key c) all) (list_any (λ (a : Action). act_overwrites t.key c a.act) all)
    (list_any (λ (a : Action). act_adds t.key c a.act) all) (list_any (λ (a : Action). act_raises t.key c a.act) all)

pub writes_by_actions : WritesByActions
writes_by_actions p t c later =
    let all = actions_of (slice_get p.kinds t.kind) in
    let reads = list_any (action_reads t.key c) all in
    let overwrites = list_any (λ (a : Action). act_overwrites t.key c a.act) all in
    let adds = list_any (λ (a : Action). act_adds t.key c a.act) all in
    let raises = list_any (λ (a : Action). act_raises t.key c a.act) all in
    ap (λ b. writes (mode_where b reads overwrites adds raises)) (false_if_not (p.version == 1) (λ e. later (true_eq p.version 1 e)))
    ∙ writes_shared reads overwrites adds raises

-- no overwriting, adding and raising
abbrev Quiet : Bool → Bool → Bool → Type 0
Quiet o a m = (o ≡ false) × (a ≡ false) × (m ≡ false)

quiet_where : (first r o a m : Bool) → writes (mode_where first r o a m) ≡ false → Quiet o a m
quiet_where false true true a m e = cc
quiet_where false true false true m e = cc
quiet_where false true false false true e = cc
quiet_where false true false false false e = (refl, refl, refl)
quiet_where false false true a m e = cc
quiet_where false false false true m e = cc
quiet_where false false false false true e = cc
quiet_where false false false false false e = (refl, refl, refl)
quiet_where true true o a m e = cc
quiet_where true false true a m e = cc
quiet_where true false false true m e = cc
quiet_where true false false false true e = cc
quiet_where true false false false false e = (refl, refl, refl)

sums_where : (first r o a m : Bool) → mode_where first r o a m ≡ AddMode → (o ≡ false) × (a ≡ true)
sums_where false true true a m e = cc
sums_where false true false true m e = cc
sums_where false true false false true e = cc
sums_where false true false false false e = cc
sums_where false false true a m e = cc
sums_where false false false true m e = (refl, refl)
sums_where false false false false true e = cc
sums_where false false false false false e = cc
sums_where true true o a m e = cc
sums_where true false true a m e = cc
sums_where true false false true m e = (refl, refl)
sums_where true false false false true e = cc
sums_where true false false false false e = cc

maxima_where : (first r o a m : Bool) → mode_where first r o a m ≡ RaiseMode → (o ≡ false) × (a ≡ false) × (m ≡ true)
maxima_where false true true a m e = cc
maxima_where false true false true m e = cc
maxima_where false true false false true e = cc
maxima_where false true false false false e = cc
maxima_where false false true a m e = cc
maxima_where false false false true m e = cc
maxima_where false false false false true e = (refl, refl, refl)
maxima_where false false false false false e = cc
maxima_where true true o a m e = cc
maxima_where true false true a m e = cc
maxima_where true false false true m e = cc
maxima_where true false false false true e = (refl, refl, refl)
maxima_where true false false false false e = cc

-- a guard reads, an act overwrites or reads
regroup : (g o r : Bool) → (g || (o || r)) ≡ ((g || r) || o)
regroup true o r = refl
regroup false true true = refl
regroup false true false = refl
regroup false false true = refl
regroup false false false = refl

module _ (version : ℕ) (all : List Action) (key : ℕ) (c : Cell) where
  abbrev reads : Bool
  reads = list_any (action_reads key c) all

  abbrev overwrites : Bool
  overwrites = list_any (λ (a : Action). act_overwrites key c a.act) all

  abbrev adds : Bool
  adds = list_any (λ (a : Action). act_adds key c a.act) all

  abbrev raises : Bool
  raises = list_any (λ (a : Action). act_raises key c a.act) all

  pub needs_among : needs (mode_among version all key c) ≡ list_any (action_needs key c) all
  needs_among =
      needs_where (version == 1) reads overwrites adds raises
      ∙ sym (list_any_within (action_needs key c) (λ a. action_reads key c a || act_overwrites key c a.act) all
      (λ a. regroup (guard_reads key c a.guard) (act_overwrites key c a.act) (act_reads key c a.act))
      ∙ list_any_or (action_reads key c) (λ a. act_overwrites key c a.act) all)

  pub quiet_among : writes (mode_among version all key c) ≡ false → (overwrites ≡ false) × (adds ≡ false) × (raises ≡ false)
  quiet_among e = quiet_where (version == 1) reads overwrites adds raises e

  pub sums_among : mode_among version all key c ≡ AddMode → (overwrites ≡ false) × (adds ≡ true)
  sums_among e = sums_where (version == 1) reads overwrites adds raises e

  pub maxima_among : mode_among version all key c ≡ RaiseMode → (overwrites ≡ false) × (adds ≡ false) × (raises ≡ true)
  maxima_among e = maxima_where (version == 1) reads overwrites adds raises e

-- ---- conflicts
pub uses_conflict : (m n : Mode) → needs m ≡ true → writes n ≡ true → modes_conflict m n ≡ true
uses_conflict NoMode n e f = cc
uses_conflict AddMode n e f = cc
uses_conflict RaiseMode n e f = cc
uses_conflict m NoMode e f = cc
uses_conflict m ReadMode e f = cc
uses_conflict ReadMode AddMode e f = refl
uses_conflict ReadMode RaiseMode e f = refl
uses_conflict ReadMode Own e f = refl
uses_conflict Own AddMode e f = refl
uses_conflict Own RaiseMode e f = refl
uses_conflict Own Own e f = refl

-- what does not conflict with a mode that needs the cell leaves it alone
pub needed_unwritten : (m n : Mode) → needs m ≡ true → modes_conflict m n ≡ false → writes n ≡ false
needed_unwritten m n e f = false_if_not (writes n) (λ w. not_both _ (uses_conflict m n e w) f)

conflict_turns : (m n : Mode) → modes_conflict m n ≡ modes_conflict n m
conflict_turns NoMode NoMode = refl
conflict_turns NoMode AddMode = refl
conflict_turns NoMode RaiseMode = refl
conflict_turns NoMode ReadMode = refl
conflict_turns NoMode Own = refl
conflict_turns AddMode NoMode = refl
conflict_turns AddMode AddMode = refl
conflict_turns AddMode RaiseMode = refl
conflict_turns AddMode ReadMode = refl
conflict_turns AddMode Own = refl
conflict_turns RaiseMode NoMode = refl
conflict_turns RaiseMode AddMode = refl
conflict_turns RaiseMode RaiseMode = refl
conflict_turns RaiseMode ReadMode = refl
conflict_turns RaiseMode Own = refl
conflict_turns ReadMode NoMode = refl
conflict_turns ReadMode AddMode = refl
conflict_turns ReadMode RaiseMode = refl
conflict_turns ReadMode ReadMode = refl
conflict_turns ReadMode Own = refl
conflict_turns Own NoMode = refl
conflict_turns Own AddMode = refl
conflict_turns Own RaiseMode = refl
conflict_turns Own ReadMode = refl
conflict_turns Own Own = refl

pub unwritten_by_needed : (m n : Mode) → needs n ≡ true → modes_conflict m n ≡ false → writes m ≡ false
unwritten_by_needed m n e f = needed_unwritten n m e (conflict_turns n m ∙ f)

-- ---- states that agree on the cells that an event needs agree on those that its actions need
pub agree_on_needs : (p : Program) (x : Event) (s t : Contents) → AgreeOnNeeds p x s t
    → Agree (λ c. list_any (action_needs (tag_of_itag p x.itag).key c) (actions_of (slice_get p.kinds (tag_of_itag p x.itag).kind))) s t
agree_on_needs p x s t same c o =
    let g : Tag = tag_of_itag p x.itag in same c (needs_among p.version (actions_of (slice_get p.kinds g.kind)) g.key c ∙ o)

-- ---- dependency goes both ways

ties_turn : (a b : Tag) (d : Depend) → ties_tags a b d ≡ ties_tags b a d
ties_turn a b d = λ i. or_turns ((d.a == a.kind) && (d.b == b.kind)) ((d.a == b.kind) && (d.b == a.kind)) i && (not d.same || same_turns a.key b.key i)

pub dependent_turns : (p : Program) (a b : Tag) → is_dependent p a b ≡ is_dependent p b a
dependent_turns p a b = list_any_within (ties_tags a b) (ties_tags b a) p.depends (ties_turn a b)
