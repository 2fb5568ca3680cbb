-- Update of a part, and independent updates commute.
use Rattle.std.proofs.Common.{◌≡◌, ◌<◌, Bool, true, false, None, Option, cond, refl, ◌∙◌}
use Rattle.std.specs.Prelude.{◌||◌, slice_get}
use Rattle.std.specs.List.{list_any}
use Rattle.flu_lemmas.proofs.Tests.{not_both, false_if_not}
use Rattle.flu_model.specs.declared.events.Cell.{Cell}
use Rattle.flu_model.specs.declared.events.Event.{Event}
use Rattle.flu_model.specs.declared.events.Worth.{Worth}
use Rattle.flu_model.specs.declared.events.Tag.{Tag}
use Rattle.flu_model.specs.declared.jobs.Program.{Program}
use Rattle.flu_model.specs.Contents.{Contents, joined_worth}
use Rattle.flu_model.specs.Itags.{count_of_itags, tag_of_itag, source_of_itag, is_dependent, itags}
use Rattle.flu_model.specs.Moments.{at_its_time}
use Rattle.flu_model.specs.Listing.{tag}
use Rattle.std.proofs.lemmas.List.Elements.{Contains-get_or}
use Rattle.flu_model.specs.Updates.{actions_of, showing_of}
use Rattle.flu_model.specs.Modes.{mode_of, modes_conflict, IsAccepted, IsInUniverse}
use Rattle.flu_laws.specs.Consistency.{IsNeutralAtNeeds, UpdatesLeft, UpdatesRight, Commutes, JoinsSplits}
use Rattle.flu_laws.proofs.Programs.{found_fits}
use Rattle.flu_laws.proofs.Joins.{updates_left, updates_right}
use Rattle.flu_laws.proofs.Commuting.{texts_first, texts_second, cells_commute}
use Rattle.flu_laws.proofs.Algebra.{joined-none}
use Rattle.flu_laws.proofs.Reading.{action_needs}
use Rattle.flu_laws.proofs.Uses.{needs_among}

neutral : (p : Program) (x : Event) (t : Contents) → IsNeutralAtNeeds p x t → (c : Cell)
    → list_any (action_needs (tag_of_itag p x.itag).key c) (actions_of (slice_get p.kinds (tag_of_itag p x.itag).kind)) ≡ true → t c ≡ None
neutral p x t n c o = let g : Tag = tag_of_itag p x.itag in n c (needs_among p.version (actions_of (slice_get p.kinds g.kind)) g.key c ∙ o)

pub left_law : (p : Program) → UpdatesLeft p
left_law p s t x left right in_range n =
    let g : Tag = tag_of_itag p x.itag in
    let found = found_fits p.families p.kinds g.kind p.kinds_fit in
    updates_left p.version (showing_of p g.kind) p.families found.0 found.1.0 (at_its_time p x) g.key (actions_of (slice_get p.kinds g.kind)) found.1.1 s t
    left right (neutral p x t n)

pub right_law : (p : Program) → UpdatesRight p
right_law p s t x left right in_range n =
    let g : Tag = tag_of_itag p x.itag in
    let found = found_fits p.families p.kinds g.kind p.kinds_fit in
    updates_right p.version (showing_of p g.kind) p.families found.0 found.1.0 (at_its_time p x) g.key (actions_of (slice_get p.kinds g.kind)) found.1.1 s t
    left right (neutral p x s n)

in_universe : (p : Program) (x : Event) → x.itag.0 < count_of_itags p → IsInUniverse p (tag_of_itag p x.itag)
in_universe p x lt = (source_of_itag p x.itag, Contains-get_or (itags p) x.itag.0 (tag 0 0, 0) lt)

-- two tags of an accepted job that are independent do not conflict
pub no_conflict : (p : Program) (x y : Event) → IsAccepted p → x.itag.0 < count_of_itags p → y.itag.0 < count_of_itags p
    → is_dependent p (tag_of_itag p x.itag) (tag_of_itag p y.itag) ≡ false → (c : Cell)
    → modes_conflict (mode_of p (tag_of_itag p x.itag) c) (mode_of p (tag_of_itag p y.itag) c) ≡ false
no_conflict p x y accepted in_x in_y independent c =
    false_if_not (modes_conflict (mode_of p (tag_of_itag p x.itag) c) (mode_of p (tag_of_itag p y.itag) c))
    (λ e. not_both _ (accepted (tag_of_itag p x.itag) (tag_of_itag p y.itag) c (in_universe p x in_x) (in_universe p y in_y) e) independent)

pub commuting_law : (p : Program) → IsAccepted p → Commutes p
commuting_law p accepted s x y sorted in_x in_y independent =
    let g : Tag = tag_of_itag p x.itag in
    let h : Tag = tag_of_itag p y.itag in
    let one = found_fits p.families p.kinds g.kind p.kinds_fit in
    let two = found_fits p.families p.kinds h.kind p.kinds_fit in
    let apart : (c : Cell) → modes_conflict (mode_of p g c) (mode_of p h c) ≡ false = no_conflict p x y accepted in_x in_y independent in (
      cells_commute p.version (showing_of p g.kind) (showing_of p h.kind) p.families one.0 one.1.0 two.0 two.1.0 (at_its_time p x) (at_its_time p y) g.key h.key
          (actions_of (slice_get p.kinds g.kind))
          (actions_of (slice_get p.kinds h.kind)) one.1.1 two.1.1 apart s sorted,
      texts_second p.version (showing_of p g.kind) (showing_of p h.kind) p.families one.0 one.1.0 two.0 two.1.0 (at_its_time p x) (at_its_time p y) g.key h.key
          (actions_of (slice_get p.kinds g.kind))
          (actions_of (slice_get p.kinds h.kind)) one.1.1 two.1.1 apart s sorted,
      texts_first p.version (showing_of p g.kind) (showing_of p h.kind) p.families one.0 one.1.0 two.0 two.1.0 (at_its_time p x) (at_its_time p y) g.key h.key
          (actions_of (slice_get p.kinds g.kind))
          (actions_of (slice_get p.kinds h.kind)) one.1.1 two.1.1 apart s sorted,
    )

-- what a cell holds in the parts of a split, by whether it is moved and copied
split_at : (moved copied : Bool) (w : Option Worth) → (moved ≡ true → copied ≡ false)
    → joined_worth (cond moved None w) (cond copied None (cond (moved || copied) w None)) ≡ w
split_at true true w apart = absurd (not_both true refl (apart refl))
split_at true false w apart = refl
split_at false true w apart = joined-none w
split_at false false w apart = joined-none w

pub splits_law : JoinsSplits
splits_law s w v apart = λ i c. split_at (w c) (v c) (s c) (apart c) i
