-- What the seats at a link's table know: the upper end's, the lower end's, and one that is both. Phase 0 is Lent, 1 Held, 2 Asked, 3 Given.
use Rattle.std.specs.Prelude.{ℕ, true, false, Option, None}
use Rattle.atomic_table.specs.Table.{Me}
use Rattle.flu_fork.specs.declared.content.Content.{Content}
use Rattle.flu_fork.specs.declared.lots.Lot.{Lot}
use Rattle.flu_fork.specs.declared.lots.Ask.{Ask}
use Rattle.flu_fork.specs.Laws.{no_counts}
use Rattle.flu_fork.specs.Lots.{job}
use Rattle.flu_fork.specs.Serving.{LotCounts}
use Rattle.flu_link.specs.declared.notes.Loan.{Loan}
use Rattle.flu_link.specs.declared.notes.UpperSeat.{UpperSeat}
use Rattle.flu_link.specs.declared.notes.LowerSeat.{LowerSeat}
use Rattle.flu_link.specs.declared.notes.View.{View}
use Rattle.flu_link.specs.declared.notes.View.TheVariants.{Fresh, Top, Bottom, Joined, Closed}

abbrev pub ask : ℕ → ℕ → Ask
ask itag index = record { itag = record { 0 = itag }; index = index }

-- the counts of a lot, as a seat knows them
abbrev pub loan : Lot → Loan
loan lot = record { since = lot.since; upto = lot.upto }

abbrev pub lent_counts : Loan → LotCounts
lent_counts l = record { since = l.since; upto = l.upto }

abbrev pub no_loan : Content → Loan
no_loan k = record { since = no_counts (job k); upto = no_counts (job k) }

-- what each end knows when the link is made: nothing was lent, asked for or given
abbrev pub upper_seat : Content → ℕ → UpperSeat
upper_seat k v = record {
  case = k;
  lower = v;
  phase = 3;
  lent = no_loan k;
  received = no_counts (job k);
  ask = ask 0 0;
  taken = true;
  out = false;
  looks = 0;
  stopped = false;
  stop_looks = 0;
  stop_found = 0;
}

abbrev pub lower_seat : Content → ℕ → LowerSeat
lower_seat k v = record {
  case = k;
  lower = v;
  phase = 3;
  held = no_loan k;
  given = no_counts (job k);
  itag = None;
  index = None;
  out = false;
  looks = 0;
  stopped = false;
  stop_looks = 0;
  stop_found = 0;
}

abbrev pub fresh : Content → ℕ → View
fresh k v = Fresh (upper_seat k v)

-- a view and the slots that are out with the seat
abbrev pub Sat : Type 0
Sat = Me (Option Lot) View

-- ---- how one view becomes two, and two become one

abbrev pub upper_side : View → View
upper_side (Fresh u) = Top u
upper_side _ = Closed

abbrev pub lower_side : View → View
lower_side (Fresh u) = Bottom (lower_seat u.case u.lower)
lower_side _ = Closed

abbrev pub both_sides : View → View → View
both_sides (Top u) (Bottom l) = Joined u l
both_sides _ _ = Closed

abbrev pub upper_or : UpperSeat → View → UpperSeat
upper_or d (Top u) = u
upper_or d _ = d

abbrev pub lower_or : LowerSeat → View → LowerSeat
lower_or d (Bottom l) = l
lower_or d _ = d
