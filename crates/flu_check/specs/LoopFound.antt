-- What the search has found so far.
use Rattle.std.specs.Prelude.{◌≡◌, ℕ, ◌<◌, Bool, true, false, not, ◌&&◌, Option, Some, None}
use Rattle.std.specs.Ordering.{ordering_then, is_lt}
use Rattle.flu_model.specs.declared.events.Cell.{Cell}
use Rattle.flu_model.specs.declared.events.Tag.{Tag}
use Rattle.flu_model.specs.declared.jobs.Program.{Program}
use Rattle.flu_model.specs.Itags.{tag_of_itag, is_dependent, count_of_itags}
use Rattle.flu_model.specs.Sorts.{is_cell_of}
use Rattle.flu_deps.specs.Conflicts.{IsFirstConflict}
use Rattle.flu_model.specs.Order.{tag_cmp, is_tag_before}
use Rattle.flu_check.specs.declared.search.Fault.{Fault}
use Rattle.flu_check.specs.Faults.{IsCheckFault, fault_cmp}

-- the tag of the itag with this number
abbrev pub tag_at : Program → ℕ → Tag
tag_at p i = tag_of_itag p (record { 0 = i })

-- x is before y among faults
abbrev pub is_fault_before : Fault → Fault → Bool
is_fault_before x y = is_lt (fault_cmp x.a x.b x.cell y.a y.b y.cell)

-- a fault of the job, at the first cell on which its two tags conflict, which is one of the job's
pub record IsFound (p : Program) (f : Fault) : Type 0 where
  pub fault : IsCheckFault p f.a f.b f.cell
  pub cell : IsFirstConflict p f.a f.b f.cell
  pub declared : is_cell_of p.families f.cell ≡ true

-- a fault was found, and this one is not before it
pub data IsPassed : Option Fault → Fault → Type 0 where
  Passed : {x f : Fault} → is_fault_before x f ≡ false → IsPassed (Some f) x

-- what was passed before is passed now
abbrev pub KeepsPassed : Option Fault → Option Fault → Type 0
KeepsPassed old new = (x : Fault) → IsPassed old x → IsPassed new x

-- the faults of two tags in this order are passed
abbrev pub PassesPair : Program → Tag → Tag → Option Fault → Type 0
PassesPair p a b found = (c : Cell) → IsCheckFault p a b c → IsPassed found (record { a = a; b = b; cell = c })

-- the faults of a tag with each tag of the job are passed
abbrev pub PassesTag : Program → Tag → Option Fault → Type 0
PassesTag p a found = (j : ℕ) → j < count_of_itags p → PassesPair p a (tag_at p j) found

-- two tags are before the tags of the fault so far
abbrev pub is_pair_before : Tag → Tag → Option Fault → Bool
is_pair_before a b None = true
is_pair_before a b (Some f) = is_lt (ordering_then (tag_cmp a f.a) (tag_cmp b f.b))

-- two tags whose conflict would come before the fault so far
abbrev pub is_sought : Program → Tag → Tag → Option Fault → Bool
is_sought p a b found = not (is_tag_before b a) && is_pair_before a b found && not (is_dependent p a b)
