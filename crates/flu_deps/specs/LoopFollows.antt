-- What stays the same during a walk over actions. No theorem's meaning depends on these: they serve a quick test alone.
use Rattle.std.specs.Prelude.{◌≡◌, ℕ, Bool, true, false, not, ◌||◌, if◌then◌else◌}
use Rattle.flu_deps.specs.declared.visits.Way.{Way}
use Rattle.flu_deps.specs.declared.visits.Place.{Place}
use Rattle.flu_deps.specs.declared.visits.Marks.{Marks}
use Rattle.flu_deps.specs.declared.visits.Meeting.{Meeting}
use Rattle.flu_deps.specs.declared.visits.Visit.{Visit}
use Rattle.flu_deps.specs.LoopVisits.{Test, in_class, is_marked, is_met}

-- what is marked stays marked
abbrev pub KeepsMarks : Marks → Marks → Type 0
KeepsMarks old new = (family : ℕ) (place : Place) → is_marked old family place ≡ true → is_marked new family place ≡ true

abbrev pub KeepsMet : Marks → Meeting → Meeting → Type 0
KeepsMet m old new = (family : ℕ) (place : Place) → is_met m old family place ≡ true → is_met m new family place ≡ true

-- a touch is noted, or is of another class
abbrev pub is_told : Visit → Test
is_told v way family place =
    not (in_class v.version v.class way) || (if v.marking then is_marked v.marks family place else is_met v.marks v.meeting family place)

-- a later state of the walk
pub record Follows (old new : Visit) : Type 0 where
  pub version : new.version ≡ old.version
  pub class : new.class ≡ old.class
  pub marking : new.marking ≡ old.marking
  pub marks : old.marking ≡ false → new.marks ≡ old.marks
  pub kept : (way : Way) (family : ℕ) (place : Place) → is_told old way family place ≡ true → is_told new way family place ≡ true

-- what is noted from a state on
abbrev pub Tells : Visit → (Test → Bool) → Type 0
Tells v holds = (later : Visit) → Follows v later → holds (is_told later) ≡ true
