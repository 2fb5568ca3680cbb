-- What the two ends of a link are, and what is in it when it is closed.
use Rattle.std.specs.Prelude.{◌≡◌, ℕ, ◌<◌, ◌⊎◌, true, false, [], ◌∷◌, Option, Some, None}
use Rattle.atomic_table.specs.Seated.{TableId}
use Rattle.flu_fork.specs.declared.lots.Lot.{Lot}
use Rattle.flu_fork.specs.declared.lots.Ask.{Ask}
use Rattle.flu_fork.specs.Lots.{LotFits}
use Rattle.flu_fork.specs.Serving.{counts_of, Served}
use Rattle.flu_link.specs.declared.notes.UpperSeat.{UpperSeat}
use Rattle.flu_link.specs.declared.notes.LowerSeat.{LowerSeat}
use Rattle.flu_link.specs.declared.notes.View.TheVariants.{Top, Bottom}
use Rattle.flu_link.specs.Seats.{Sat, ask, lent_counts, upper_or, lower_or}
use Rattle.flu_link.specs.Notes.{UpperNote, LowerNote, phase_lent, phase_given}
use Rattle.flu_link.specs.Rule.{Follows}

-- the ask, where both parts of it were read
abbrev pub both_parts : Option ℕ → Option ℕ → Option Ask
both_parts (Some i) (Some k) = Some (ask i k)
both_parts _ _ = None

-- what contracts see of an end, by what its seat knows
abbrev pub upper_note : TableId → UpperSeat → UpperNote
upper_note link u = record {
  link = link;
  case = u.case;
  lower = u.lower;
  phase = u.phase;
  lent = lent_counts u.lent;
  received = u.received;
  ask = u.ask;
  taken = u.taken;
  looks = u.looks;
  stopped = u.stopped;
  stop_looks = u.stop_looks;
  stop_found = u.stop_found;
}

abbrev pub lower_note : TableId → LowerSeat → LowerNote
lower_note link l = record {
  link = link;
  case = l.case;
  lower = l.lower;
  phase = l.phase;
  held = lent_counts l.held;
  given = l.given;
  ask = both_parts l.itag l.index;
  looks = l.looks;
  stopped = l.stopped;
  stop_looks = l.stop_looks;
  stop_found = l.stop_found;
}

-- the seat of an upper end is at the link's table. It has no slot, or the slot with nothing in it
pub record IsUpper (d : UpperSeat) (table mine : TableId) (me : Sat) : Type 0 where
  pub here : mine ≡ table
  pub words : table.words ≡ 4
  pub top : me.0 ≡ Top (upper_or d me.0)
  pub hand : (((upper_or d me.0).out ≡ false) × (me.1 ≡ [])) ⊎ (((upper_or d me.0).out ≡ true) × (me.1 ≡ (0, None) ∷ []))

-- that of a lower end has no slot
pub record IsLower (d : LowerSeat) (table mine : TableId) (me : Sat) : Type 0 where
  pub here : mine ≡ table
  pub words : table.words ≡ 4
  pub bottom : me.0 ≡ Bottom (lower_or d me.0)
  pub inside : (lower_or d me.0).out ≡ false
  pub bare : me.1 ≡ []

-- A CLOSED LINK: the phase that was read, and what was found in the slot: a lot that was lent and not taken, nothing while a lot is held or asked for, and
-- a lot that was given and not taken
pub record Closes (up : UpperNote) (low : LowerNote) (phase : ℕ) (found : Option Lot) : Type 0 where
  pub follows : Follows up.phase low.phase phase
  pub lent : phase ≡ phase_lent → (lot : Lot) × (found ≡ Some lot) × LotFits up.case up.lower lot × (counts_of lot ≡ up.lent)
  pub empty : phase_lent < phase → phase < phase_given → found ≡ None
  pub taken : phase ≡ phase_given → up.taken ≡ true → found ≡ None
  pub given : phase ≡ phase_given → up.taken ≡ false → (lot : Lot) × (found ≡ Some lot) × LotFits up.case up.lower lot
      × Served up.case up.lower up.lent up.ask lot × (lot.upto ≡ low.given)
