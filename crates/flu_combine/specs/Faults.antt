-- WHY NO REPORT IS WRITTEN of partials and sources.
use Rattle.std.specs.Prelude.{◌≡◌, ℕ, ◌<◌, Bool, not, Option, Some, None, option_map, List, [], length, take, position, slice_index_or, ◌⊎◌, ⊤}
use Rattle.flu_model.specs.declared.jobs.Program.{Program}
use Rattle.flu_model.specs.declared.plans.Node.{Node}
use Rattle.flu_outside.specs.Outside.{Contents, Rose, WhereTold}
use Rattle.flu_outside.specs.Taking.{TookAtMost}
use Rattle.flu_contribution.specs.Contributions.{Contribution}
use Rattle.flu_streams.specs.declared.faults.SourceFault.{SourceFault}
use Rattle.flu_streams.specs.Files.{files_of, OneRose}
use Rattle.flu_selected.specs.Gathering.{IsRead, HidesNoReadDefect}
use Rattle.flu_selected.specs.Laws.{first_read_fault}
use Rattle.flu_readers.specs.Reading.{reads_rest}
use Rattle.flu_joining.specs.Joining.{is_last_alone, waiting_behind}
use Rattle.flu_combine.specs.declared.fault.CombineFault.{CombineFault}
use Rattle.flu_combine.specs.declared.fault.CombineFault.TheVariants as combine
use Rattle.flu_combine.specs.declared.fault.PartialDefect.{PartialDefect}
use Rattle.flu_combine.specs.declared.fault.PartialDefect.TheVariants.{LeftOver}
use Rattle.flu_combine.specs.Combined.{AreAccepted, events_of_rest}
use Rattle.flu_combine.specs.Names.{read_out, bytes_behind}
use Rattle.flu_combine.specs.Partials.{most_bytes, IsDefect}

-- THE FIRST DEFECT: the partials before that place are accepted, and the one there, read behind them, has this defect beside them
pub record IsFirstDefect (p : Program) (nodes : List Node) (names : List (List ℕ)) (left : Contents) (place : ℕ) (defect : PartialDefect) : Type 0 where
  pub there : place < length names
  pub ws : List ℕ
  pub queues : List (List Contribution)
  pub told : List ℕ
  pub earlier : AreAccepted p nodes left (take place names) ws queues told
  pub has : IsDefect p nodes ws (bytes_behind (take place names) left (slice_index_or names place [])) defect

-- THE FIRST THAT IS LEFT OVER: all partials are accepted and no source that is read has a defect, and the queue at that place is the first that is
-- not used up
pub record IsFirstLeftOver (p : Program) (nodes : List Node) (names : List (List ℕ)) (left : Contents) (place : ℕ) : Type 0 where
  pub ws : List ℕ
  pub queues : List (List Contribution)
  pub told : List ℕ
  pub accepted : AreAccepted p nodes left names ws queues told
  pub good : first_read_fault p told (reads_rest p nodes ws) (read_out names left) ≡ None
  pub first : position (λ ks. not (is_last_alone ks)) (waiting_behind queues (events_of_rest p nodes names ws told left)) ≡ Some place

-- what is wrong with the partial at a place
abbrev pub IsFaultOfPartial : Program → List Node → List (List ℕ) → Contents → ℕ → PartialDefect → Type 0
IsFaultOfPartial p nodes names left place defect =
    IsFirstDefect p nodes names left place defect ⊎ ((defect ≡ LeftOver) × IsFirstLeftOver p nodes names left place)

-- all partials are accepted, and this is the first fault of the sources that are read
pub record IsFaultOfSource (p : Program) (nodes : List Node) (names : List (List ℕ)) (left : Contents) (fault : SourceFault) : Type 0 where
  pub ws : List ℕ
  pub queues : List (List Contribution)
  pub told : List ℕ
  pub accepted : AreAccepted p nodes left names ws queues told
  pub first : first_read_fault p told (reads_rest p nodes ws) (read_out names left) ≡ Some fault

-- the count of the file of a source that is read rose
abbrev pub OneReadRose : Program → (ℕ → Bool) → (List ℕ → ℕ) → (List ℕ → ℕ) → Type 0
OneReadRose p is_read before now = (name : List ℕ) × IsRead p is_read name × Rose (before name) (now name)

-- all partials are accepted, and the count of the file of a source that is read rose
pub record SourceRose (p : Program) (nodes : List Node) (names : List (List ℕ)) (left : Contents) (before now : List ℕ → ℕ) : Type 0 where
  pub ws : List ℕ
  pub queues : List (List Contribution)
  pub told : List ℕ
  pub accepted : AreAccepted p nodes left names ws queues told
  pub rose : OneReadRose p (reads_rest p nodes ws) before now

-- where a read failed: the count of a partial's name rose, or that of the file of a source
abbrev pub IsReadFault : Program → List Node → List (List ℕ) → Option Contents → Option Contents → (List ℕ → ℕ) → (List ℕ → ℕ) → Type 0
IsReadFault p nodes names old new before now =
    OneRose names before now
    ⊎ (OneRose (files_of p.sources) before now × WhereTold old new (λ was then. SourceRose p nodes names was before now))

-- ---- a read fault hides nothing

-- the partials before that place are accepted, and of the one there at most as many bytes were taken as a partial has
pub record IsHaltedAt (p : Program) (nodes : List Node) (names : List (List ℕ)) (place : ℕ) (was then : Contents) : Type 0 where
  pub ws : List ℕ
  pub queues : List (List Contribution)
  pub told : List ℕ
  pub earlier : AreAccepted p nodes was (take place names) ws queues told
  pub few : TookAtMost (slice_index_or names place []) most_bytes (read_out (take place names) was) then

-- the read of a partial failed, and no defect was read before that
pub record HidesNoDefectBefore (p : Program) (nodes : List Node) (names : List (List ℕ)) (old new : Option Contents) (before now : List ℕ → ℕ)
    : Type 0 where
  pub place : ℕ
  pub there : place < length names
  pub rose : Rose (before (slice_index_or names place [])) (now (slice_index_or names place []))
  pub told : WhereTold old new (IsHaltedAt p nodes names place)

-- the read of a source failed: all partials are accepted, and behind them no defect of a source that is read is hidden
pub record HidesNoDefectBehind (p : Program) (nodes : List Node) (names : List (List ℕ)) (old new : Option Contents) (before now : List ℕ → ℕ)
    : Type 0 where
  pub ws : List ℕ
  pub queues : List (List Contribution)
  pub told : List ℕ
  pub accepted : WhereTold old new (λ was then. AreAccepted p nodes was names ws queues told)
  pub hides : HidesNoReadDefect p (reads_rest p nodes ws) (option_map (read_out names) old) new before now

-- A READ FAULT HIDES NO DEFECT, of a partial or of a source
abbrev pub HidesNoPartialDefect : Program → List Node → List (List ℕ) → Option Contents → Option Contents → (List ℕ → ℕ) → (List ℕ → ℕ) → Type 0
HidesNoPartialDefect p nodes names old new before now =
    HidesNoDefectBefore p nodes names old new before now ⊎ HidesNoDefectBehind p nodes names old new before now

-- WHY NO REPORT IS WRITTEN
abbrev pub IsCause : Program → List Node → List (List ℕ) → Option Contents → Option Contents → (List ℕ → ℕ) → (List ℕ → ℕ) → CombineFault → Type 0
IsCause p nodes names old new before now (combine.Partial place defect) =
    (place < length names) × WhereTold old new (λ was then. IsFaultOfPartial p nodes names was place defect)
IsCause p nodes names old new before now (combine.Source fault) =
    (fault.source < length p.sources) × WhereTold old new (λ was then. IsFaultOfSource p nodes names was fault)
IsCause p nodes names old new before now combine.ReadFault = IsReadFault p nodes names old new before now
IsCause p nodes names old new before now combine.WriteFault = ⊤
IsCause p nodes names old new before now combine.NoMemory = ⊤
