-- What an update depends on, and what it does to each cell.
use Rattle.std.proofs.Common.{◌≡◌, false, List, [], ◌∷◌, refl, ap}
use Rattle.std.specs.Prelude.{slice_get}
use Rattle.flu_model.specs.declared.events.Event.{Event}
use Rattle.flu_model.specs.declared.events.Tag.{Tag}
use Rattle.flu_model.specs.declared.jobs.Action.{Action}
use Rattle.flu_model.specs.declared.jobs.Program.{Program}
use Rattle.flu_model.specs.declared.modes.Mode.{Mode}
use Rattle.flu_model.specs.declared.modes.Mode.TheVariants.{None as NoMode, Add as AddMode, Raise as RaiseMode, Read as ReadMode, Own}
use Rattle.flu_model.specs.Contents.{Contents}
use Rattle.flu_model.specs.Folding.{state_after}
use Rattle.flu_model.specs.Itags.{tag_of_itag}
use Rattle.flu_model.specs.Moments.{at_its_time}
use Rattle.flu_model.specs.Merging.{merged}
use Rattle.flu_model.specs.Sorts.{IsStateOf}
use Rattle.flu_model.specs.Updates.{actions_of, effect_of, showing_of}
use Rattle.flu_laws.specs.Uses.{needs, writes, mode_at}
use Rattle.flu_laws.specs.Changes.{Keep, Put, Gain, reach, change_by}
use Rattle.flu_laws.specs.Updating.{TextsAreLocal, CellsAreLocal, ChangesAreLocal, UpdatesAreChanges, KeepsSorts, FoldKeepsSorts, UnwrittenKeeps}
use Rattle.flu_laws.proofs.Programs.{found_fits}
use Rattle.flu_laws.proofs.Keys.{key_in_range}
use Rattle.flu_laws.proofs.Uses.{agree_on_needs}
use Rattle.flu_laws.proofs.Locality.{texts-agree, cells-agree, amount-agree, level-agree}
use Rattle.flu_laws.proofs.Stepping.{step}
use Rattle.flu_laws.proofs.Keeping.{actions_keep}

pub texts_are_local : TextsAreLocal
texts_are_local p s t x same =
    let g : Tag = tag_of_itag p x.itag in
    let found = found_fits p.families p.kinds g.kind p.kinds_fit in
    texts-agree (showing_of p g.kind) p.families found.0 found.1.0 (at_its_time p x) g.key
    (actions_of (slice_get p.kinds g.kind)) s t found.1.1 (agree_on_needs p x s t same)

pub cells_are_local : CellsAreLocal
cells_are_local p s t x c same here =
    let g : Tag = tag_of_itag p x.itag in
    cells-agree (showing_of p g.kind) p.families false false (at_its_time p x) g.key
    (actions_of (slice_get p.kinds g.kind)) s t (agree_on_needs p x s t same) c here

pub changes_are_local : ChangesAreLocal
changes_are_local p s t x c same = at_mode (mode_at p x c) refl
  where
    at_mode : (m : Mode) → mode_at p x c ≡ m
        → (let g : Tag = tag_of_itag p x.itag in let all : List Action = actions_of
        (slice_get p.kinds g.kind) in change_by (showing_of p g.kind) p.families m all s (at_its_time p x) g.key c
        ≡ change_by (showing_of p g.kind) p.families m all t (at_its_time p x) g.key c)
    at_mode NoMode e = refl
    at_mode ReadMode e = refl
    at_mode AddMode e =
        let g : Tag = tag_of_itag p x.itag in
        ap Gain (amount-agree (showing_of p g.kind) p.families false false (at_its_time p x) g.key
        (actions_of (slice_get p.kinds g.kind)) s t c (agree_on_needs p x s t same))
    at_mode RaiseMode e =
        let g : Tag = tag_of_itag p x.itag in
        ap reach (level-agree (showing_of p g.kind) p.families false false (at_its_time p x) g.key
        (actions_of (slice_get p.kinds g.kind)) s t c (agree_on_needs p x s t same))
    at_mode Own e = ap Put (cells_are_local p s t x c same (same c (ap needs e)))

pub updates_are_changes : UpdatesAreChanges
updates_are_changes p s x c sorted =
    let g : Tag = tag_of_itag p x.itag in
    let found = found_fits p.families p.kinds g.kind p.kinds_fit in
    step p.version (showing_of p g.kind) p.families found.0 found.1.0 (at_its_time p x) g.key
    (actions_of (slice_get p.kinds g.kind)) found.1.1 s s sorted (λ d o. refl) c

pub keeps_sorts : KeepsSorts
keeps_sorts p s x sorted =
    let g : Tag = tag_of_itag p x.itag in
    let found = found_fits p.families p.kinds g.kind p.kinds_fit in
    actions_keep (showing_of p g.kind) p.families found.0 found.1.0 (at_its_time p x) g.key (key_in_range p x.itag)
    (actions_of (slice_get p.kinds g.kind)) s found.1.1 sorted

after_keeps : (p : Program) (s : Contents) (xs : List Event) → IsStateOf p.families s → IsStateOf p.families (state_after p s xs)
after_keeps p s [] sorted = sorted
after_keeps p s (x ∷ xs) sorted = after_keeps p (effect_of p s x).cells xs (keeps_sorts p s x sorted)

pub fold_keeps_sorts : FoldKeepsSorts
fold_keeps_sorts p opening lists sorted = after_keeps p opening (merged lists) sorted

pub unwritten_keeps : UnwrittenKeeps
unwritten_keeps p s x c quiet = at_mode (mode_at p x c) quiet
  where
    at_mode : (m : Mode) → writes m ≡ false
        → (let g : Tag = tag_of_itag p x.itag in
        change_by (showing_of p g.kind) p.families m (actions_of (slice_get p.kinds g.kind)) s (at_its_time p x) g.key c ≡ Keep)
    at_mode NoMode e = refl
    at_mode ReadMode e = refl
    at_mode AddMode e = cc
    at_mode RaiseMode e = cc
    at_mode Own e = cc
