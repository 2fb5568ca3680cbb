-- What actions touch, and what a walk over them notes about it. No theorem's meaning depends on these: they serve a quick test alone.
use Rattle.std.specs.Prelude.{ℕ, ◌%◌, Bool, true, false, not, ◌==◌, ◌&&◌, ◌||◌, Option, Some, None, slice_index}
use Rattle.std.specs.List.{list_all}
use Rattle.std.specs.Int.{bit_at}
use Rattle.flu_model.specs.declared.jobs.At.{At}
use Rattle.flu_model.specs.declared.jobs.At.TheVariants.{Alone, OwnKey, OwnItem, Fixed as FixedKey}
use Rattle.flu_model.specs.declared.jobs.Expr.{Expr}
use Rattle.flu_model.specs.declared.jobs.Expr.TheVariants.{Lit, Value, Key, Item, Time, Read as ReadCell, Has, Neg', Not', Two'}
use Rattle.flu_model.specs.declared.jobs.Piece.{Piece}
use Rattle.flu_model.specs.declared.jobs.Piece.TheVariants.{Plain, Value as ValueField, Key as KeyField, Item as ItemField, Time as TimeField}
use Rattle.flu_model.specs.declared.jobs.Piece.TheVariants.{Read as ReadField, CellValue, FamilyCell}
use Rattle.flu_model.specs.declared.jobs.Act.{Act}
use Rattle.flu_model.specs.declared.jobs.Act.TheVariants.{Add as AddAct, Raise as RaiseAct, Set, Clear, ClearFamily, Emit, Flush}
use Rattle.flu_model.specs.declared.jobs.Action.{Action}
use Rattle.flu_deps.specs.declared.visits.Way.{Way}
use Rattle.flu_deps.specs.declared.visits.Way.TheVariants.{Read, Add, Raise, Overwrite}
use Rattle.flu_deps.specs.declared.visits.Place.{Place}
use Rattle.flu_deps.specs.declared.visits.Place.TheVariants.{Own, Fixed, All}
use Rattle.flu_deps.specs.declared.visits.Class.{Class}
use Rattle.flu_deps.specs.declared.visits.Class.TheVariants.{Needs, Writes, Adds, Raises}
use Rattle.flu_deps.specs.declared.visits.Marks.{Marks}
use Rattle.flu_deps.specs.declared.visits.Meeting.{Meeting}

-- ---- touches: ways, families and places

-- a test of touches
abbrev pub Test : Type 0
Test = Way → ℕ → Place → Bool

abbrev pub place_of : At → Place
place_of Alone = Fixed 0
place_of OwnKey = Own
place_of OwnItem = All
place_of (FixedKey k) = Fixed k

-- all that is touched passes a test
abbrev pub expr_all : Test → Expr → Bool
expr_all test (Lit n) = true
expr_all test Value = true
expr_all test Key = true
expr_all test Item = true
expr_all test Time = true
expr_all test (ReadCell r) = test Read r.family (place_of r.at)
expr_all test (Has r) = test Read r.family (place_of r.at)
expr_all test (Neg' p e) = expr_all test e
expr_all test (Not' p e) = expr_all test e
expr_all test (Two' op p a q b) = expr_all test a && expr_all test b

abbrev pub guard_all : Test → Option Expr → Bool
guard_all test None = true
guard_all test (Some e) = expr_all test e

abbrev pub piece_all : Test → Piece → Bool
piece_all test (Plain t) = true
piece_all test ValueField = true
piece_all test KeyField = true
piece_all test ItemField = true
piece_all test TimeField = true
piece_all test (ReadField r) = test Read r.family (place_of r.at)
piece_all test CellValue = true
piece_all test (FamilyCell f) = test Read f All

abbrev pub act_all : Test → Act → Bool
act_all test (AddAct r e) = test Add r.family (place_of r.at) && expr_all test e
act_all test (RaiseAct r e) = test Raise r.family (place_of r.at) && expr_all test e
act_all test (Set r e) = test Overwrite r.family (place_of r.at) && expr_all test e
act_all test (Clear r) = test Overwrite r.family (place_of r.at)
act_all test (ClearFamily f) = test Overwrite f All
act_all test (Emit ps) = list_all (piece_all test) ps
act_all test (Flush f ps) = test Overwrite f All && list_all (piece_all test) ps

abbrev pub action_all : Test → Action → Bool
action_all test a = guard_all test a.guard && act_all test a.act

-- ---- classes
abbrev pub in_class : ℕ → Class → Way → Bool
in_class version Needs Read = true
in_class version Needs Add = false
in_class version Needs Raise = false
in_class version Needs Overwrite = true
in_class version Writes Read = version == 1
in_class version Writes Add = true
in_class version Writes Raise = true
in_class version Writes Overwrite = true
in_class version Adds Read = false
in_class version Adds Add = true
in_class version Adds Raise = false
in_class version Adds Overwrite = false
in_class version Raises Read = false
in_class version Raises Add = false
in_class version Raises Raise = true
in_class version Raises Overwrite = false

-- ---- marks
-- a word has the bit of a number; numbers count from 0 to 63
unfoldable pub has : ℕ → ℕ → Bool
has word n = bit_at word (n % 64) == 1

abbrev pub word_at : Marks → ℕ → ℕ
word_at m key = slice_index m.fixed (key % 65536)

abbrev pub is_marked : Marks → ℕ → Place → Bool
is_marked m family Own = has m.any family && has m.own family
is_marked m family (Fixed key) = has m.any family && has (word_at m key) family
is_marked m family All = has m.any family && has m.whole family

-- what meets the marks is noted
abbrev pub is_met : Marks → Meeting → ℕ → Place → Bool
is_met m n family Own = (not (has m.own family) || n.same_key) && ((not (has m.whole family) || n.always) && has n.own family)
is_met m n family (Fixed key) = (not (has (word_at m key) family) || n.always) && (not (has m.whole family) || n.always)
is_met m n family All = not (has m.any family) || n.always
