-- What the modes are in version 1 of the language, in which no cell is shared by reading it.
use Rattle.std.specs.Prelude.{◌≡◌, ◌≢◌, ◌↔◌, true, slice_get}
use Rattle.std.specs.List.{list_any}
use Rattle.flu_model.specs.declared.events.Cell.{Cell}
use Rattle.flu_model.specs.declared.events.Tag.{Tag}
use Rattle.flu_model.specs.declared.jobs.Program.{Program}
use Rattle.flu_model.specs.declared.modes.Mode.{Mode}
use Rattle.flu_model.specs.declared.modes.Mode.TheVariants.{None as NoMode, Add as AddMode, Raise as RaiseMode, Read as ReadMode}
use Rattle.flu_model.specs.Updates.{actions_of}
use Rattle.flu_model.specs.Modes.{mode_of, mode_in_version_1, modes_conflict, action_reads, act_overwrites, act_adds, act_raises}

-- no tag has the mode Read
abbrev pub NothingIsShared : Type 0
NothingIsShared = (p : Program) (t : Tag) (c : Cell) → p.version ≡ 1 → mode_of p t c ≢ ReadMode

-- the mode is Own if the actions read or overwrite the cell, else Add if they add to it, else Raise if they raise it, else None
abbrev pub OwnsWhatItReads : Type 0
OwnsWhatItReads =
    (p : Program) (t : Tag) (c : Cell) → p.version ≡ 1
    → (let all = actions_of (slice_get p.kinds t.kind) in
    mode_of p t c
    ≡ mode_in_version_1 (list_any (action_reads t.key c) all) (list_any (λ a. act_overwrites t.key c a.act) all)
    (list_any (λ a. act_adds t.key c a.act) all) (list_any (λ a. act_raises t.key c a.act) all))

-- two modes differ from None, and are neither both Add nor both Raise
pub record Differ (m n : Mode) : Type 0 where
  pub first : m ≢ NoMode
  pub second : n ≢ NoMode
  pub not_both_add : (m ≡ AddMode) × (n ≡ AddMode) → ⊥
  pub not_both_raise : (m ≡ RaiseMode) × (n ≡ RaiseMode) → ⊥

-- modes other than Read conflict exactly so
abbrev pub ConflictsWithoutRead : Type 0
ConflictsWithoutRead = (m n : Mode) → m ≢ ReadMode → n ≢ ReadMode → (modes_conflict m n ≡ true) ↔ Differ m n
