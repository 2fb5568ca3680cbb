-- Laws of ticks.
use Rattle.std.specs.Prelude.{◌≡◌, ◌↔◌, ℕ, ◌+◌, ◌<◌, ◌≤◌, ◌%◌, nat_le, List, [], ◌∷◌, ◌++◌, length, slice_index, All, Any, Contains}
use Rattle.std.specs.List.{filter}
use Rattle.flu_moments.specs.Clocks.{tick_moment, IsNextTick, IsTick, IsTicks, IsSpan, AreBetween, ticks_among}
use Rattle.flu_moments.specs.Moments.{border}

-- there is one next tick after each moment, and one list of ticks for each list of rows
pub record TicksAreDetermined : Type 0 where
  pub next : (sources ties every clock m time time' : ℕ) → IsNextTick sources ties every clock m time → IsNextTick sources ties every clock m time'
      → time ≡ time'
  pub some_next : (sources ties every clock m : ℕ) → 0 < ties → clock < sources → 0 < every → (time : ℕ) × IsNextTick sources ties every clock m time
  pub ticks : (sources ties every clock : ℕ) (rows ticks ticks' : List ℕ) → IsTicks sources ties every clock rows ticks
      → IsTicks sources ties every clock rows ticks'
      → ticks ≡ ticks'
  pub some_ticks : (sources ties every clock : ℕ) (rows : List ℕ) → 0 < ties → clock < sources → 0 < every
      → (ticks : List ℕ) × IsTicks sources ties every clock rows ticks

-- after each row there is a tick, no multiple between two ticks is left out, before the last tick there is a row that the one before it
-- does not follow, and without rows there are no ticks
pub record FollowsRows (sources ties every clock : ℕ) (rows ticks : List ℕ) : Type 0 where
  pub each_row : All (λ m. Any (λ time. m < tick_moment sources ties clock time) ticks) rows
  pub no_gap : (k : ℕ) → k + 1 < length ticks → slice_index ticks (k + 1) ≡ slice_index ticks k + every
  pub last : (k : ℕ) → k + 2 ≡ length ticks
      → Any (λ m. (tick_moment sources ties clock (slice_index ticks k) ≤ m) × (m < tick_moment sources ties clock (slice_index ticks (k + 1)))) rows
  pub none : rows ≡ [] → ticks ≡ []

abbrev pub TicksFollowRows : Type 0
TicksFollowRows =
    (sources ties every clock : ℕ) (rows ticks : List ℕ) → 0 < ties → clock < sources → 0 < every → IsTicks sources ties every clock rows ticks
    → FollowsRows sources ties every clock rows ticks

-- the ticks between two moments are one list. A moment between the two parts it.
pub record MomentsPartTicks : Type 0 where
  pub determined : (sources ties every clock low high : ℕ) (ticks ticks' : List ℕ) → AreBetween sources ties every clock low high ticks
      → AreBetween sources ties every clock low high ticks' → ticks ≡ ticks'
  pub some : (sources ties every clock low high : ℕ) → 0 < ties → clock < sources → 0 < every
      → (ticks : List ℕ) × AreBetween sources ties every clock low high ticks
  pub joined : (sources ties every clock low between high : ℕ) (early late : List ℕ) → low ≤ between → between ≤ high
      → AreBetween sources ties every clock low between early → AreBetween sources ties every clock between high late
      → AreBetween sources ties every clock low high (early ++ late)

-- the ticks among rows are those between the first row and the tick that follows the last row; so where some row is behind a border, the
-- ticks up to the border are those between the first row and the border, whatever rows come behind it
pub record RowsTellTicks : Type 0 where
  pub all : (sources ties every clock first last to : ℕ) (rows ticks : List ℕ) → 0 < ties → clock < sources → 0 < every → IsSpan first last rows
      → IsNextTick sources ties every clock last to → IsTicks sources ties every clock rows ticks
      → AreBetween sources ties every clock first (tick_moment sources ties clock to) ticks
  pub front : (sources ties every clock first border : ℕ) (rows ticks early : List ℕ) → 0 < ties → clock < sources → 0 < every → Contains rows first
      → All (λ m. first ≤ m) rows → Any (λ m. border < m) rows → IsTicks sources ties every clock rows ticks
      → AreBetween sources ties every clock first border early
      → (late : List ℕ) × (ticks ≡ early ++ late) × All (λ time. border < tick_moment sources ties clock time) late

-- a front of the rows has all rows up to a border, and one behind it
pub record IsFrontAt (at : ℕ) (rows front : List ℕ) : Type 0 where
  pub within : All (Contains rows) front
  pub whole : All (λ m. m ≤ at → Contains front m) rows
  pub behind : Any (λ m. at < m) front

-- the ticks up to the border of a time are then those among the front
pub record FrontsTellTicks : Type 0 where
  pub each : (sources ties every clock at time : ℕ) (rows front : List ℕ) → IsFrontAt at rows front → tick_moment sources ties clock time ≤ at
      → IsTick sources ties every clock rows time ↔ IsTick sources ties every clock front time
  pub lists : (sources ties every clock last : ℕ) (rows front : List ℕ) → 0 < ties → clock < sources → 0 < every
      → IsFrontAt (border sources ties last) rows front
      → filter (λ time. nat_le time last) (ticks_among sources ties every clock rows)
      ≡ filter (λ time. nat_le time last) (ticks_among sources ties every clock front)

-- no tick among rows is behind a multiple whose tick is behind the last row
abbrev pub TicksAreWithin : Type 0
TicksAreWithin =
    (sources ties every clock first last end : ℕ) (rows : List ℕ) → 0 < ties → clock < sources → 0 < every → IsSpan first last rows → end % every ≡ 0
    → last < tick_moment sources ties clock end → All (λ time. time ≤ end) (ticks_among sources ties every clock rows)

-- rows with the same first and last row have the same ticks
abbrev pub SpansTellTicks : Type 0
SpansTellTicks =
    (sources ties every clock first last : ℕ) (rows : List ℕ) → IsSpan first last rows
    → ticks_among sources ties every clock rows ≡ ticks_among sources ties every clock (first ∷ last ∷ [])

-- the ticks among rows are those that are computed from the first and the last row
abbrev pub TicksAreComputed : Type 0
TicksAreComputed =
    (sources ties every clock : ℕ) (rows : List ℕ) → 0 < ties → clock < sources → 0 < every
    → IsTicks sources ties every clock rows (ticks_among sources ties every clock rows)
