-- What each step on a link's table says: of the step, the seat before, the number found or stored, and the seat after.
use Rattle.std.specs.Prelude.{◌≡◌, ◌≢◌, ℕ, ◌+◌, ◌^◌, ◌<◌, ◌≤◌, true, false, List, [], ◌∷◌, slice_index, Option, Some, None}
use Rattle.atomic_table.specs.Table.{Step}
use Rattle.flu_fork.specs.declared.lots.Lot.{Lot}
use Rattle.flu_fork.specs.Lots.{LotFits}
use Rattle.flu_fork.specs.Serving.{GrownFrom, Served, AsksAbove}
use Rattle.flu_link.specs.declared.notes.UpperSeat.{UpperSeat}
use Rattle.flu_link.specs.declared.notes.LowerSeat.{LowerSeat}
use Rattle.flu_link.specs.declared.notes.View.TheVariants.{Top, Bottom, Joined}
use Rattle.flu_link.specs.Seats.{Sat, ask, loan, lent_counts}
use Rattle.flu_link.specs.Rule.{Follows, Shows}

abbrev pub Play : Type 1
Play = Step (Option Lot) → Sat → ℕ → Sat → Type 0

-- the notes after one more look, which found this phase
abbrev pub peeked_up : UpperSeat → ℕ → UpperSeat
peeked_up u n = record u { phase = n; looks = u.looks + 1 }

abbrev pub peeked_low : LowerSeat → ℕ → LowerSeat
peeked_low l n = record l { phase = n; looks = l.looks + 1 }

abbrev pub looks_up : Play
looks_up st m n m' = (u : UpperSeat) → m.0 ≡ Top u → (m' ≡ (Top (peeked_up u n), m.1)) × (u.phase ≤ 1 → n ≤ 1) × (u.phase ≡ 1 → n ≡ 1)

-- the upper end looks, and takes the slot where it finds Given
pub record Fetches (u : UpperSeat) (out : List (ℕ × Option Lot)) (n : ℕ) (m' : Sat) : Type 0 where
  -- once it lent, the lower end can only hold; once it was given a lot, the lower end stores nothing
  pub still : u.phase ≤ 1 → n ≤ 1
  pub sure : u.phase ≡ 3 → n ≡ 3
  pub other : n ≢ 3 → m' ≡ (Top (peeked_up u n), out)
  pub had : n ≡ 3 → u.out ≡ true → (m' ≡ (Top (peeked_up u n), out)) × (u.taken ≡ true)
  pub nothing : n ≡ 3 → u.out ≡ false → u.taken ≡ true → m' ≡ (Top (record (peeked_up u n) { out = true }), (0, None) ∷ out)
  pub lot : n ≡ 3 → u.taken ≡ false → (lot : Lot) × (m' ≡ (
    Top (record (peeked_up u n) { out = true; taken = true; received = lot.upto }),
    (0, Some lot) ∷ out,
  )) × LotFits u.case u.lower lot × Served u.case u.lower (lent_counts u.lent) u.ask lot

abbrev pub fetches : Play
fetches st m n m' = (u : UpperSeat) → m.0 ≡ Top u → Fetches u m.1 n m'

abbrev pub stores_itag : Play
stores_itag st m n m' = (u : UpperSeat) → m.0 ≡ Top u → m' ≡ (Top (record u { ask = ask n u.ask.index }), m.1)

abbrev pub stores_index : Play
stores_index st m n m' = (u : UpperSeat) → m.0 ≡ Top u → m' ≡ (Top (record u { ask = ask u.ask.itag.0 n }), m.1)

abbrev pub asks : Play
asks st m n m' = (u : UpperSeat) → m.0 ≡ Top u → m' ≡ (Top (record u { phase = 2; taken = false }), m.1)

abbrev pub lends : Play
lends st m n m' = (u : UpperSeat) (lot : Lot) → m.0 ≡ Top u → m.1 ≡ (0, Some lot) ∷ [] → m' ≡ (Top (record u { phase = 0; lent = loan lot; out = false }), [])

abbrev pub stops_up : Play
stops_up st m n m' = (u : UpperSeat) → m.0 ≡ Top u → m' ≡ (Top (record u { stopped = true }), m.1)

abbrev pub sees_stop_up : Play
sees_stop_up st m n m' =
    (u : UpperSeat) → m.0 ≡ Top u → (m' ≡ (Top (record u { stop_looks = u.stop_looks + 1; stop_found = n }), m.1)) × (n ≤ 1) × (u.stop_found ≤ n)
    × (u.stopped ≡ true → n ≡ 1)

abbrev pub looks_low : Play
looks_low st m n m' = (l : LowerSeat) → m.0 ≡ Bottom l → (m' ≡ (Bottom (peeked_low l n), m.1)) × (1 ≤ l.phase → l.phase ≤ 2 → (1 ≤ n) × (n ≤ 2))
    × (l.phase ≡ 2 → n ≡ 2)

-- the lower end looks, and takes the lot where it finds Lent
pub record Holds (l : LowerSeat) (out : List (ℕ × Option Lot)) (n : ℕ) (m' : Sat) : Type 0 where
  -- while it holds, the upper end can only ask
  pub still : 1 ≤ l.phase → l.phase ≤ 2 → (1 ≤ n) × (n ≤ 2)
  pub other : n ≢ 0 → m' ≡ (Bottom (peeked_low l n), out)
  pub lot : n ≡ 0 → (lot : Lot) × (m' ≡ (Bottom (record (peeked_low l n) { out = true; held = loan lot }), (0, Some lot) ∷ out)) × LotFits l.case l.lower lot
      × GrownFrom l.case l.lower l.given lot.upto

abbrev pub holds : Play
holds st m n m' = (l : LowerSeat) → m.0 ≡ Bottom l → Holds l m.1 n m'

-- the lower end looks, and takes the empty slot where it finds Asked
pub record Replies (l : LowerSeat) (out : List (ℕ × Option Lot)) (n : ℕ) (m' : Sat) : Type 0 where
  pub other : n ≢ 2 → m' ≡ (Bottom (peeked_low l n), out)
  pub slot : n ≡ 2 → m' ≡ (Bottom (record (peeked_low l n) { out = true }), (0, None) ∷ out)
  pub noted : (i : ℕ) → l.itag ≡ Some i → n ≡ 2

abbrev pub replies : Play
replies st m n m' = (l : LowerSeat) → m.0 ≡ Bottom l → Replies l m.1 n m'

abbrev pub stores_held : Play
stores_held st m n m' = (l : LowerSeat) → m.0 ≡ Bottom l → m' ≡ (Bottom (record l { phase = 1; out = false; itag = None; index = None }), [])

abbrev pub gives_lot : Play
gives_lot st m n m' = (l : LowerSeat) (lot : Lot) → m.0 ≡ Bottom l → m.1 ≡ (0, Some lot) ∷ []
    → m' ≡ (Bottom (record l { phase = 3; out = false; given = lot.upto; itag = None; index = None }), [])

abbrev pub sees_itag : Play
sees_itag st m n m' = (l : LowerSeat) → m.0 ≡ Bottom l → (m' ≡ (Bottom (record l { itag = Some n }), m.1)) × (n < 2 ^ 32)

abbrev pub sees_index : Play
sees_index st m n m' = (l : LowerSeat) (i : ℕ) → m.0 ≡ Bottom l → l.itag ≡ Some i
    → (m' ≡ (Bottom (record l { index = Some n }), m.1)) × AsksAbove l.case l.lower (ask i n) × (n ≡ slice_index l.held.upto i)

abbrev pub stops_low : Play
stops_low st m n m' = (l : LowerSeat) → m.0 ≡ Bottom l → m' ≡ (Bottom (record l { stopped = true }), m.1)

abbrev pub sees_stop_low : Play
sees_stop_low st m n m' =
    (l : LowerSeat) → m.0 ≡ Bottom l → (m' ≡ (Bottom (record l { stop_looks = l.stop_looks + 1; stop_found = n }), m.1)) × (n ≤ 1) × (l.stop_found ≤ n)
    × (l.stopped ≡ true → n ≡ 1)

-- what the slot of a link has at its end
pub record AtEnd (u : UpperSeat) (l : LowerSeat) (phase : ℕ) (slot : Option Lot) : Type 0 where
  pub follows : Follows u.phase l.phase phase
  pub shows : Shows u l phase slot
  pub counts : u.phase ≤ 1 → l.phase ≡ 1 → (slot ≡ None) × (l.held ≡ u.lent)

-- the joined ends look, and have the slot then
abbrev pub ends : Play
ends st m n m' = (u : UpperSeat) (l : LowerSeat) → m.0 ≡ Joined u l → (slot : Option Lot) × (m'.1 ≡ (0, slot) ∷ []) × AtEnd u l n slot
