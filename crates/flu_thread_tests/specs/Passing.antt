-- The ends of the left leaf's link, over which one lot goes down and comes back again and again.
use Rattle.std.specs.Prelude.{◌≡◌, ℕ, true, slice_index}
use Rattle.flu_fork.specs.declared.lots.Lot.{Lot}
use Rattle.flu_fork.specs.Lots.{LotFits}
use Rattle.flu_fork.specs.Serving.{GrownFrom, counts_of}
use Rattle.flu_link.specs.Notes.{UpperNote, LowerNote, phase_given}
use Rattle.flu_thread_tests.specs.Rows.{IsRow}

-- the upper end
pub record IsAbove (u : UpperNote) : Type 0 where
  pub row : IsRow u.case
  pub lower : u.lower ≡ 1

-- nothing is lent or asked for
pub record IsFree (u : UpperNote) : Type 0 where
  pub at : IsAbove u
  pub taken : u.taken ≡ true
  pub phase : u.phase ≡ phase_given

-- a lot is lent, by which the first read is the next one
pub record IsOut (u : UpperNote) : Type 0 where
  pub at : IsAbove u
  pub next : slice_index u.lent.upto 2 ≡ 0

-- the lot may be lent
pub record MayGo (u : UpperNote) (lot : Lot) : Type 0 where
  pub fits : LotFits u.case 1 lot
  pub grown : GrownFrom u.case 1 u.received lot.upto
  pub next : slice_index lot.upto 2 ≡ 0

-- the lot came back
pub record IsTaken (u : UpperNote) (lot : Lot) : Type 0 where
  pub fits : LotFits u.case 1 lot
  pub received : u.received ≡ lot.upto

-- the lower end
pub record IsBelow (l : LowerNote) : Type 0 where
  pub row : IsRow l.case
  pub lower : l.lower ≡ 1

-- it holds the lot
pub record Holds (l : LowerNote) (lot : Lot) : Type 0 where
  pub at : IsBelow l
  pub fits : LotFits l.case 1 lot
  pub held : l.held ≡ counts_of lot
