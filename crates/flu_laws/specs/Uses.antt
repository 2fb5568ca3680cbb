-- What an event's tag asks of a cell and does to it, by its mode there. Laws speak of modes in these words alone.
use Rattle.std.specs.Prelude.{◌≡◌, ◌≢◌, Bool, true, false, not, ◌&&◌, ◌||◌, slice_get}
use Rattle.std.specs.List.{list_any}
use Rattle.flu_model.specs.declared.events.Cell.{Cell}
use Rattle.flu_model.specs.declared.events.Event.{Event}
use Rattle.flu_model.specs.declared.events.Tag.{Tag}
use Rattle.flu_model.specs.declared.jobs.Program.{Program}
use Rattle.flu_model.specs.declared.modes.Mode.{Mode}
use Rattle.flu_model.specs.declared.modes.Mode.TheVariants.{None as NoMode, Add as AddMode, Raise as RaiseMode, Read as ReadMode, Own}
use Rattle.flu_model.specs.Contents.{Contents}
use Rattle.flu_model.specs.Itags.{tag_of_itag}
use Rattle.flu_model.specs.Updates.{actions_of}
use Rattle.flu_model.specs.Modes.{mode_of, action_reads, act_overwrites, act_adds, act_raises}

-- what the event does may depend on what the cell holds
abbrev pub needs : Mode → Bool
needs NoMode = false
needs AddMode = false
needs RaiseMode = false
needs ReadMode = true
needs Own = true

-- the event may change the cell
abbrev pub writes : Mode → Bool
writes NoMode = false
writes AddMode = true
writes RaiseMode = true
writes ReadMode = false
writes Own = true

-- the event only mixes an amount into the cell: it adds to a sum, or raises a maximum
abbrev pub mixes : Mode → Bool
mixes m = writes m && not (needs m)

-- the mode of an event's tag on a cell
abbrev pub mode_at : Program → Event → Cell → Mode
mode_at p x c = mode_of p (tag_of_itag p x.itag) c

-- two states agree on the cells that the event needs
abbrev pub AgreeOnNeeds : Program → Event → Contents → Contents → Type 0
AgreeOnNeeds p x s t = (c : Cell) → needs (mode_at p x c) ≡ true → s c ≡ t c

-- ---- by the text of the actions

-- a tag needs the cells that its actions read or overwrite
abbrev pub NeedsByActions : Type 0
NeedsByActions =
    (p : Program) (t : Tag) (c : Cell)
    → (let all = actions_of (slice_get p.kinds t.kind) in
    needs (mode_of p t c) ≡ (list_any (action_reads t.key c) all || list_any (λ a. act_overwrites t.key c a.act) all))

-- in the versions after the first it writes those that they overwrite, add to or raise
abbrev pub WritesByActions : Type 0
WritesByActions =
    (p : Program) (t : Tag) (c : Cell) → p.version ≢ 1
    → (let all = actions_of (slice_get p.kinds t.kind) in
    writes (mode_of p t c)
    ≡ (list_any (λ a. act_overwrites t.key c a.act) all || (list_any (λ a. act_adds t.key c a.act) all || list_any (λ a. act_raises t.key c a.act) all)))
