-- THE RULE of a link's table, which holds between any two steps.
use Rattle.std.specs.Prelude.{◌≡◌, ◌≢◌, ℕ, ◌^◌, ◌<◌, ◌≤◌, true, false, ◌||◌, if◌then◌else◌, List, [], ◌∷◌, slice_index, Option, Some, None, IfSome}
use mathlib.Core.Option as maybe
use lib.ListN.{get_elem?}
use Rattle.atomic_table.specs.Table.{State}
use Rattle.flu_fork.specs.declared.lots.Lot.{Lot}
use Rattle.flu_fork.specs.Lots.{LotFits}
use Rattle.flu_fork.specs.Serving.{GrownFrom, Served, AsksAbove}
use Rattle.flu_link.specs.declared.notes.UpperSeat.{UpperSeat}
use Rattle.flu_link.specs.declared.notes.LowerSeat.{LowerSeat}
use Rattle.flu_link.specs.declared.notes.View.{View}
use Rattle.flu_link.specs.declared.notes.View.TheVariants.{Fresh, Top, Bottom, Joined, Closed}
use Rattle.flu_link.specs.Seats.{loan, lent_counts, lower_seat}
use Rattle.flu_link.specs.Notes.{phase_lent, phase_held, phase_asked, phase_given}

-- THE PHASE, by those that the ends noted last: where an end stores next, it knows the phase, and else the phase is what it noted or the one after it
pub record Follows (up low phase : ℕ) : Type 0 where
  pub four : phase ≤ phase_given
  pub upper_lent : up ≡ phase_lent → phase ≤ phase_held
  pub upper_held : up ≡ phase_held → phase ≡ phase_held
  pub upper_asked : up ≡ phase_asked → phase_asked ≤ phase
  pub upper_given : up ≡ phase_given → phase ≡ phase_given
  pub lower_lent : low ≡ phase_lent → phase ≡ phase_lent
  pub lower_held : low ≡ phase_held → (phase_held ≤ phase) × (phase ≤ phase_asked)
  pub lower_asked : low ≡ phase_asked → phase ≡ phase_asked
  pub lower_given : low ≡ phase_given → (phase ≢ phase_held) × (phase ≢ phase_asked)

-- THE SLOT, where it is at home: a lot that was lent fits, and has the counts that the upper end lent; a lot that was given fits, and is served for the ask
pub record Shows (up : UpperSeat) (low : LowerSeat) (phase : ℕ) (slot : Option Lot) : Type 0 where
  pub lent : phase ≡ phase_lent → (lot : Lot) × (slot ≡ Some lot) × LotFits up.case up.lower lot × (loan lot ≡ up.lent)
  pub empty : phase_lent < phase → phase < phase_given → slot ≡ None
  pub taken : phase ≡ phase_given → up.taken ≡ true → slot ≡ None
  pub given : phase ≡ phase_given → up.taken ≡ false → (lot : Lot) × (slot ≡ Some lot) × LotFits up.case up.lower lot
      × Served up.case up.lower (lent_counts up.lent) up.ask lot × (lot.upto ≡ low.given)

-- and else it is out with the end that stores next
pub record Lies (up : UpperSeat) (low : LowerSeat) (phase : ℕ) (home : maybe.Option (Option Lot)) : Type 0 where
  pub upper_out : up.out ≡ true → (phase ≡ phase_given) × (up.phase ≡ phase_given) × (up.taken ≡ true) × (low.out ≡ false)
  pub lower_out : low.out ≡ true → (phase ≡ low.phase) × (phase ≢ phase_held) × (phase < phase_given)
  pub at_home : up.out ≡ false → low.out ≡ false → (slot : Option Lot) × (home ≡ maybe.some slot) × Shows up low phase slot

-- THE COUNTS AND THE ASK, of which both ends know
pub record Agrees (up : UpperSeat) (low : LowerSeat) (phase : ℕ) : Type 0 where
  pub grown : phase < phase_given → GrownFrom up.case up.lower low.given up.lent.upto
  pub same : phase < phase_given → up.received ≡ low.given
  pub same_taken : up.taken ≡ true → up.received ≡ low.given
  pub held : phase_lent < phase → phase < phase_given → low.held ≡ up.lent
  pub held_out : low.out ≡ true → low.held ≡ up.lent
  pub asked : phase ≡ phase_asked → (up.taken ≡ false) × AsksAbove up.case up.lower up.ask × (up.ask.index ≡ slice_index up.lent.upto up.ask.itag.0)
      × (up.ask.itag.0 < 2 ^ 32)
  -- the parts of the ask that the lower end read since its last store
  pub itag : low.phase ≡ phase_asked → IfSome low.itag (λ i. i ≡ up.ask.itag.0)
  pub index : low.phase ≡ phase_asked → IfSome low.index (λ k. k ≡ up.ask.index)
  pub none : low.phase ≢ phase_asked → (low.itag ≡ None) × (low.index ≡ None)

-- THE STOP WORD is 1 where an end stopped
pub record Stops (up : UpperSeat) (low : LowerSeat) (stop : ℕ) : Type 0 where
  pub is : stop ≡ (if up.stopped || low.stopped then 1 else 0)
  pub upper_found : up.stop_found ≤ stop
  pub lower_found : low.stop_found ≤ stop

pub record Linked (up : UpperSeat) (low : LowerSeat) (words : List ℕ) (homes : List (maybe.Option (Option Lot))) : Type 0 where
  pub phase : ℕ
  pub stop : ℕ
  pub home : maybe.Option (Option Lot)
  pub words_are : words ≡ phase ∷ up.ask.itag.0 ∷ up.ask.index ∷ stop ∷ []
  pub homes_are : homes ≡ home ∷ []
  pub one_case : (low.case ≡ up.case) × (low.lower ≡ up.lower)
  pub follows : Follows up.phase low.phase phase
  pub lies : Lies up low phase home
  pub agrees : Agrees up low phase
  pub stops : Stops up low stop

-- what each view stands for. The mode is 0 if there is no lower end yet, 1 if there are both, 2 once they are joined, 3 once the link is closed
module _ (upper lower mode : ℕ) (up : UpperSeat) (low : LowerSeat) (seat : ℕ) where
  abbrev pub Knows : View → Type 0
  Knows (Fresh u) = (seat ≡ upper) × (u ≡ up) × (mode ≡ 0) × (low ≡ lower_seat up.case up.lower)
  Knows (Top u) = (seat ≡ upper) × (u ≡ up) × (mode ≡ 1)
  Knows (Bottom l) = (seat ≡ lower) × (l ≡ low) × (mode ≡ 1)
  Knows (Joined u l) = (seat ≡ upper) × (u ≡ up) × (l ≡ low) × (mode ≡ 2)
  Knows Closed = Unit {0}

pub record Kept (s : State (Option Lot) View) : Type 0 where
  pub upper : ℕ
  pub lower : ℕ
  pub mode : ℕ
  pub up : UpperSeat
  pub low : LowerSeat
  pub linked : mode < 3 → Linked up low s.words s.homes
  pub each : (seat : ℕ) (v : View) → get_elem? s.views seat ≡ maybe.some v → Knows upper lower mode up low seat v
