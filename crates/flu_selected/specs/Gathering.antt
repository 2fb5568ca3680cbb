-- What reading the selected sources of a job does to the files.
use Rattle.std.specs.Prelude.{◌≡◌, ℕ, ◌<◌, ◌≤◌, Bool, true, false, List, length, slice_index_or, Contains}
use Rattle.std.specs.Prelude.{Option, None, Some, IsSome, is_some, Result, IsErrOf, ⊤}
use Rattle.flu_lemmas.specs.Named.{IsThere}
use Rattle.flu_model.specs.declared.jobs.Program.{Program}
use Rattle.flu_model.specs.declared.streams.Streams.{Streams}
use Rattle.flu_model.specs.Listed.{listed}
use Rattle.flu_outside.specs.Outside.{Contents, WhereTold, Rose, CountApart}
use Rattle.flu_outside.specs.Taking.{IsReadOut}
use Rattle.flu_streams.specs.declared.faults.GatherFault.{GatherFault}
use Rattle.flu_streams.specs.declared.faults.GatherFault.TheVariants.{Source as SourceFaulty, ReadFault, NoMemory}
use Rattle.flu_streams.specs.Faults.{HidesNothing}
use Rattle.flu_streams.specs.Files.{files_of}
use Rattle.flu_streams.specs.Good.{lists_beside}
use Rattle.flu_selected.specs.Laws.{closed_files, selected, first_read_fault}
use Rattle.flu_selected.specs.Selecting.{is_among, whole_lines, left_beside, counts_beside}

-- which sources are read: none past the end of the list is
abbrev pub reads : List Bool → ℕ → Bool
reads is_read number = slice_index_or is_read number false

-- a name is the file of a source that is read
abbrev pub IsRead : Program → (ℕ → Bool) → List ℕ → Type 0
IsRead p is_read name = Contains (files_of p.sources) name × (is_among (closed_files p is_read) name ≡ false)

-- no source that is read has a defect; clocks tick among rows elsewhere too
abbrev pub ReadAreGood : Program → List ℕ → (ℕ → Bool) → Option Contents → Option Contents → Type 0
ReadAreGood p beside is_read left left' = WhereTold left left' (λ old new. first_read_fault p beside is_read old ≡ None)

-- the streams have the lists of the sources that are read
abbrev pub AreReadLists : Program → List ℕ → (ℕ → Bool) → Option Contents → Option Contents → Streams → Type 0
AreReadLists p beside is_read left left' streams = WhereTold left left' (λ old new. listed streams ≡ lists_beside p beside (selected p is_read old))

-- all names but the files of the sources that are read have what they had
abbrev pub LeavesUnread : Program → (ℕ → Bool) → Contents → Contents → Type 0
LeavesUnread p is_read old new = (other : List ℕ) → ¬ IsRead p is_read other → new other ≡ old other

-- nothing is left of the file of each source that is read
abbrev pub ReadAreOut : Program → (ℕ → Bool) → Option Contents → Type 0
ReadAreOut p is_read left = (name : List ℕ) → IsRead p is_read name → IsReadOut name left

-- No count falls. If the bytes of names are known, that of a name that is not closed is as it was if it is apart from the counts of the
-- files that are read, and that of a closed one if the name is there.
pub record CountsOfRead (p : Program) (is_read : ℕ → Bool) (left : Option Contents) (old new : List ℕ → ℕ) : Type 0 where
  pub rise : (n : List ℕ) → old n ≤ new n
  pub apart : IsSome left → (n : List ℕ) → is_among (closed_files p is_read) n ≡ false
      → ((name : List ℕ) → IsRead p is_read name → CountApart left name n) → new n ≡ old n
  pub closed : (n : List ℕ) → is_among (closed_files p is_read) n ≡ true → IsThere left n → new n ≡ old n

-- if the bytes of names are known, the count of the file of a source that is read rose
abbrev pub ReadRose : Program → (ℕ → Bool) → Option Contents → (List ℕ → ℕ) → (List ℕ → ℕ) → Type 0
ReadRose p is_read left old new = IsSome left → (name : List ℕ) × IsRead p is_read name × Rose (old name) (new name)

-- a fault of a source is the first of the read ones, and names a declared source
abbrev pub IsFirstReadFault : Program → List ℕ → (ℕ → Bool) → Option Contents → Option Contents → GatherFault → Type 0
IsFirstReadFault p beside is_read left left' (SourceFaulty f) =
    (f.source < length p.sources) × WhereTold left left' (λ was now. first_read_fault p beside is_read was ≡ Some f)
IsFirstReadFault p beside is_read left left' ReadFault = ⊤
IsFirstReadFault p beside is_read left left' NoMemory = ⊤

-- a read fault hides nothing that was taken, where the files of the sources that are not read are closed, at the end with these lines left
pub record HidesNoReadDefect (p : Program) (is_read : ℕ → Bool) (left left' : Option Contents) (old new : List ℕ → ℕ) : Type 0 where
  pub now : Contents
  pub names : (name : List ℕ) → is_some (now name) ≡ is_among (closed_files p is_read) name
  pub hides : HidesNothing p (left_beside left (whole_lines (closed_files p is_read))) (left_beside left' now)
      (counts_beside left (whole_lines (closed_files p is_read)) old) (counts_beside left' now new)

-- a read fault, if there is one, hides no defect of a source that is read
abbrev pub HidesNone : Result Streams GatherFault → Program → (ℕ → Bool) → Option Contents → Option Contents → (List ℕ → ℕ) → (List ℕ → ℕ) → Type 0
HidesNone result p is_read left left' old new = IsErrOf result ReadFault → HidesNoReadDefect p is_read left left' old new
