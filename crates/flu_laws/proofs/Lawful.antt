-- An accepted job is lawful, and acceptance is that uses of one cell are dependent.
use Rattle.std.proofs.Common.{◌≡◌, ℤ, true, false, Option, Some, None, refl, sym, ap, subst, ◌∙◌}
use Rattle.std.specs.Prelude.{slice_get}
use Rattle.flu_model.specs.declared.events.Cell.{Cell}
use Rattle.flu_model.specs.declared.events.Event.{Event}
use Rattle.flu_model.specs.declared.events.Tag.{Tag}
use Rattle.flu_model.specs.declared.events.Worth.{Worth}
use Rattle.flu_model.specs.declared.jobs.Program.{Program}
use Rattle.flu_model.specs.declared.jobs.Sort.TheVariants.{Sum as SumSort, Max as MaxSort}
use Rattle.flu_model.specs.declared.modes.Mode.{Mode}
use Rattle.flu_model.specs.declared.modes.Mode.TheVariants.{None as NoMode, Add as AddMode, Raise as RaiseMode, Read as ReadMode, Own}
use Rattle.flu_model.specs.Contents.{Contents, added, joined_worth}
use Rattle.flu_model.specs.Itags.{tag_of_itag, is_dependent}
use Rattle.flu_model.specs.Moments.{at_its_time}
use Rattle.flu_model.specs.Updates.{effect_of, actions_of, showing_of}
use Rattle.flu_model.specs.Rules.{has_sort}
use Rattle.flu_model.specs.Modes.{mode_of, modes_conflict, IsAccepted}
use Rattle.flu_model.specs.Sorts.{MayHold, IsStateOf}
use Rattle.flu_laws.specs.Uses.{needs, writes, mixes, mode_at}
use Rattle.flu_laws.specs.Changes.{applied, reach, level_reached, amount_added, change_by}
use Rattle.flu_laws.specs.Lawful.{UsesAreDependent, AcceptanceByUses, amount_of, AcceptedIsLawful}
use Rattle.flu_laws.specs.Updating.{ChangesKeepSorts, ChangesMix}
use Rattle.flu_laws.proofs.Algebra.{joined-none, joined_sums-comm, joined_sums-assoc, joined_maxima-comm, joined_maxima-assoc}
use Rattle.flu_laws.proofs.Algebra.{added-mixes, raised-mixes, joined_family}
use Rattle.flu_laws.proofs.Amounts.{amount_may, level_may}
use Rattle.flu_laws.proofs.Changing.{keeps}
use Rattle.flu_laws.proofs.Keys.{key_in_range}
use Rattle.flu_laws.proofs.Programs.{found_fits}
use Rattle.flu_laws.proofs.SortLemmas.{adds-sort, raises-sort, not_sum_and_max}
use Rattle.flu_laws.proofs.Updating.{texts_are_local, cells_are_local, changes_are_local, updates_are_changes, keeps_sorts}
use Rattle.flu_laws.proofs.Uses.{quiet_among, sums_among, maxima_among, uses_conflict, dependent_turns}
use Rattle.flu_laws.proofs.Values.{HoldsSort, holds_sort}

-- ---- the sorts of the cells that a tag mixes into
pub added_sort : (p : Program) (t : Tag) (c : Cell) → mode_of p t c ≡ AddMode → has_sort (slice_get p.families c.family) SumSort ≡ true
added_sort p t c e =
    let found = found_fits p.families p.kinds t.kind p.kinds_fit in
    let all = actions_of (slice_get p.kinds t.kind) in
    adds-sort p.families found.0 found.1.0 t.key c all found.1.1 (sums_among p.version all t.key c e).1

pub raised_sort : (p : Program) (t : Tag) (c : Cell) → mode_of p t c ≡ RaiseMode → has_sort (slice_get p.families c.family) MaxSort ≡ true
raised_sort p t c e =
    let found = found_fits p.families p.kinds t.kind p.kinds_fit in
    let all = actions_of (slice_get p.kinds t.kind) in
    raises-sort p.families found.0 found.1.0 t.key c all found.1.1 (maxima_among p.version all t.key c e).2

-- and what it mixes into a neutral one is what this may hold
pub added_may : (p : Program) (s : Contents) (x : Event) (c : Cell) → mode_at p x c ≡ AddMode
    → (let g : Tag = tag_of_itag p x.itag in MayHold p.families c
    (added None (amount_added (showing_of p g.kind) p.families (actions_of (slice_get p.kinds g.kind)) s (at_its_time p x) g.key c)))
added_may p s x c e =
    let g : Tag = tag_of_itag p x.itag in
    let found = found_fits p.families p.kinds g.kind p.kinds_fit in
    amount_may (showing_of p g.kind) p.families found.0 found.1.0 (at_its_time p x) g.key c (key_in_range p x.itag)
    (actions_of (slice_get p.kinds g.kind)) s found.1.1 (added_sort p g c e)

pub raised_may : (p : Program) (s : Contents) (x : Event) (c : Cell) → mode_at p x c ≡ RaiseMode
    → (let g : Tag = tag_of_itag p x.itag in MayHold p.families c
    (applied (reach (level_reached (showing_of p g.kind) p.families (actions_of (slice_get p.kinds g.kind)) s (at_its_time p x) g.key c)) None))
raised_may p s x c e =
    let g : Tag = tag_of_itag p x.itag in
    let found = found_fits p.families p.kinds g.kind p.kinds_fit in
    level_may (showing_of p g.kind) p.families found.0 found.1.0 (at_its_time p x) g.key c (key_in_range p x.itag)
    (actions_of (slice_get p.kinds g.kind)) s found.1.1 (raised_sort p g c e)

-- ---- acceptance
accepted_uses : (p : Program) → IsAccepted p → UsesAreDependent p
accepted_uses p accepted a b c in_a in_b need write = accepted a b c in_a in_b (uses_conflict (mode_of p a c) (mode_of p b c) need write)

uses_accepted : (p : Program) → UsesAreDependent p → IsAccepted p
uses_accepted p uses a b c in_a in_b conflict = at_modes (mode_of p a c) (mode_of p b c) refl refl conflict
  where
    turned : needs (mode_of p b c) ≡ true → writes (mode_of p a c) ≡ true → is_dependent p a b ≡ true
    turned need write = dependent_turns p a b ∙ uses b a c in_b in_a need write

    at_modes : (m n : Mode) → mode_of p a c ≡ m → mode_of p b c ≡ n → modes_conflict m n ≡ true → is_dependent p a b ≡ true
    at_modes NoMode n e f h = cc
    at_modes AddMode NoMode e f h = cc
    at_modes AddMode AddMode e f h = cc
    at_modes AddMode RaiseMode e f h = absurd (not_sum_and_max (slice_get p.families c.family) (added_sort p a c e) (raised_sort p b c f))
    at_modes AddMode ReadMode e f h = turned (ap needs f) (ap writes e)
    at_modes AddMode Own e f h = turned (ap needs f) (ap writes e)
    at_modes RaiseMode NoMode e f h = cc
    at_modes RaiseMode AddMode e f h = absurd (not_sum_and_max (slice_get p.families c.family) (added_sort p b c f) (raised_sort p a c e))
    at_modes RaiseMode RaiseMode e f h = cc
    at_modes RaiseMode ReadMode e f h = turned (ap needs f) (ap writes e)
    at_modes RaiseMode Own e f h = turned (ap needs f) (ap writes e)
    at_modes ReadMode NoMode e f h = cc
    at_modes ReadMode AddMode e f h = uses a b c in_a in_b (ap needs e) (ap writes f)
    at_modes ReadMode RaiseMode e f h = uses a b c in_a in_b (ap needs e) (ap writes f)
    at_modes ReadMode ReadMode e f h = cc
    at_modes ReadMode Own e f h = uses a b c in_a in_b (ap needs e) (ap writes f)
    at_modes Own NoMode e f h = cc
    at_modes Own AddMode e f h = uses a b c in_a in_b (ap needs e) (ap writes f)
    at_modes Own RaiseMode e f h = uses a b c in_a in_b (ap needs e) (ap writes f)
    at_modes Own ReadMode e f h = turned (ap needs f) (ap writes e)
    at_modes Own Own e f h = uses a b c in_a in_b (ap needs e) (ap writes f)

pub acceptance_by_uses : AcceptanceByUses
acceptance_by_uses p = (accepted_uses p, uses_accepted p)

-- ---- mixing
mix_groups : (p : Program) (t : Tag) (c : Cell) (u v w : Option Worth) → mixes (mode_of p t c) ≡ true
    → MayHold p.families c u → MayHold p.families c v → MayHold p.families c w → joined_worth (joined_worth u v) w ≡ joined_worth u (joined_worth v w)
mix_groups p t c u v w mix hu hv hw = at_mode (mode_of p t c) refl mix
  where
    at_mode : (m : Mode) → mode_of p t c ≡ m → mixes m ≡ true → joined_worth (joined_worth u v) w ≡ joined_worth u (joined_worth v w)
    at_mode NoMode e h = cc
    at_mode AddMode e h =
        let held : (o : Option Worth) → MayHold p.families c o → HoldsSort SumSort o = λ o may. holds_sort p.families c SumSort o (added_sort p t c e) may in
        joined_sums-assoc u v w (held u hu) (held v hv) (held w hw)
    at_mode RaiseMode e h =
        let held : (o : Option Worth) → MayHold p.families c o → HoldsSort MaxSort o = λ o may. holds_sort p.families c MaxSort o (raised_sort p t c e) may in
        joined_maxima-assoc u v w (held u hu) (held v hv) (held w hw)
    at_mode ReadMode e h = cc
    at_mode Own e h = cc

mix_turns : (p : Program) (t : Tag) (c : Cell) (u v : Option Worth) → mixes (mode_of p t c) ≡ true
    → MayHold p.families c u → MayHold p.families c v → joined_worth u v ≡ joined_worth v u
mix_turns p t c u v mix hu hv = at_mode (mode_of p t c) refl mix
  where
    at_mode : (m : Mode) → mode_of p t c ≡ m → mixes m ≡ true → joined_worth u v ≡ joined_worth v u
    at_mode NoMode e h = cc
    at_mode AddMode e h =
        let sort = added_sort p t c e in
        joined_sums-comm u v (holds_sort p.families c SumSort u sort hu) (holds_sort p.families c SumSort v sort hv)
    at_mode RaiseMode e h =
        let sort = raised_sort p t c e in
        joined_maxima-comm u v (holds_sort p.families c MaxSort u sort hu) (holds_sort p.families c MaxSort v sort hv)
    at_mode ReadMode e h = cc
    at_mode Own e h = cc

-- ---- amounts
reach_mixes : (o : Option ℤ) (w : Option Worth) → HoldsSort MaxSort w → applied (reach o) w ≡ joined_worth w (applied (reach o) None)
reach_mixes None w p = sym (joined-none w)
reach_mixes (Some v) w p = raised-mixes w v p

next_leaves : (p : Program) (s : Contents) (x : Event) (c : Cell) → writes (mode_at p x c) ≡ false → (effect_of p s x).cells c ≡ s c
next_leaves p s x c quiet =
    let g : Tag = tag_of_itag p x.itag in
    let idle = quiet_among p.version (actions_of (slice_get p.kinds g.kind)) g.key c quiet in
    keeps (showing_of p g.kind) p.families (at_its_time p x) g.key c (actions_of (slice_get p.kinds g.kind)) s idle.0 idle.1 idle.2

-- ---- changes of one cell
pub changes_keep_sorts : ChangesKeepSorts
changes_keep_sorts p s x c w sorted holds = at_mode (mode_at p x c) refl
  where
    at_mode : (m : Mode) → mode_at p x c ≡ m
        → (let g : Tag = tag_of_itag p x.itag in MayHold p.families c
        (applied (change_by (showing_of p g.kind) p.families m (actions_of (slice_get p.kinds g.kind)) s (at_its_time p x) g.key c) w))
    at_mode NoMode e = holds
    at_mode AddMode e =
        let g : Tag = tag_of_itag p x.itag in
        let n : ℤ = amount_added (showing_of p g.kind) p.families (actions_of (slice_get p.kinds g.kind)) s (at_its_time p x) g.key c in
        subst (MayHold p.families c) (sym (added-mixes w n (holds_sort p.families c SumSort w (added_sort p g c e) holds)))
        (joined_family p.families c w (added None n) holds (added_may p s x c e))
    at_mode RaiseMode e =
        let g : Tag = tag_of_itag p x.itag in
        let l : Option ℤ = level_reached (showing_of p g.kind) p.families (actions_of (slice_get p.kinds g.kind)) s (at_its_time p x) g.key c in
        subst (MayHold p.families c) (sym (reach_mixes l w (holds_sort p.families c MaxSort w (raised_sort p g c e) holds)))
        (joined_family p.families c w (applied (reach l) None) holds (raised_may p s x c e))
    at_mode ReadMode e = holds
    at_mode Own e = keeps_sorts p s x sorted c

pub changes_mix : ChangesMix
changes_mix p s x c w quiet holds = at_mode (mode_at p x c) refl quiet
  where
    at_mode : (m : Mode) → mode_at p x c ≡ m → needs m ≡ false
        → (let g : Tag = tag_of_itag p x.itag in let h = change_by (showing_of p g.kind) p.families m
        (actions_of (slice_get p.kinds g.kind)) s (at_its_time p x) g.key c in applied h w ≡ joined_worth w (applied h None))
    at_mode NoMode e q = sym (joined-none w)
    at_mode AddMode e q =
        let g : Tag = tag_of_itag p x.itag in
        added-mixes w (amount_added (showing_of p g.kind) p.families (actions_of (slice_get p.kinds g.kind)) s (at_its_time p x) g.key c)
        (holds_sort p.families c SumSort w (added_sort p g c e) holds)
    at_mode RaiseMode e q =
        let g : Tag = tag_of_itag p x.itag in
        reach_mixes (level_reached (showing_of p g.kind) p.families (actions_of (slice_get p.kinds g.kind)) s (at_its_time p x) g.key c) w
        (holds_sort p.families c MaxSort w (raised_sort p g c e) holds)
    at_mode ReadMode e q = cc
    at_mode Own e q = cc

mixes_quiet : (m : Mode) → mixes m ≡ true → needs m ≡ false
mixes_quiet NoMode e = cc
mixes_quiet AddMode e = refl
mixes_quiet RaiseMode e = refl
mixes_quiet ReadMode e = cc
mixes_quiet Own e = cc

next_mixes : (p : Program) (s : Contents) (x : Event) (c : Cell) → IsStateOf p.families s → mixes (mode_at p x c) ≡ true
    → (effect_of p s x).cells c ≡ joined_worth (s c) (amount_of p s x c)
next_mixes p s x c sorted mix = updates_are_changes p s x c sorted ∙ changes_mix p s x c (s c) (mixes_quiet (mode_at p x c) mix) (sorted c)

amount_holds : (p : Program) (s : Contents) (x : Event) (c : Cell) → mixes (mode_at p x c) ≡ true → MayHold p.families c (amount_of p s x c)
amount_holds p s x c mix = at_mode (mode_at p x c) refl mix
  where
    at_mode : (m : Mode) → mode_at p x c ≡ m → mixes m ≡ true
        → (let g : Tag = tag_of_itag p x.itag in MayHold p.families c
        (applied (change_by (showing_of p g.kind) p.families m (actions_of (slice_get p.kinds g.kind)) s (at_its_time p x) g.key c) None))
    at_mode NoMode e h = cc
    at_mode AddMode e h = added_may p s x c e
    at_mode RaiseMode e h = raised_may p s x c e
    at_mode ReadMode e h = cc
    at_mode Own e h = cc

pub accepted_is_lawful : AcceptedIsLawful
accepted_is_lawful p accepted = record {
  dependent_turns = dependent_turns p;
  accepted = accepted_uses p accepted;
  mix_left = λ w. refl;
  mix_right = joined-none;
  mix_groups = mix_groups p;
  mix_turns = mix_turns p;
  mix_holds = λ c. joined_family p.families c;
  texts_by_needs = texts_are_local p;
  next_by_needs = λ s t x c same need. cells_are_local p s t x c same (same c need);
  amount_by_needs = λ s t x c same. ap (λ h. applied h None) (changes_are_local p s t x c same);
  amount_holds = amount_holds p;
  next_mixes = next_mixes p;
  next_leaves = next_leaves p;
  next_holds = keeps_sorts p;
}
