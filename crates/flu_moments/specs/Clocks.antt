-- CLOCKS: a clock is one of the sources. It ticks at times that are multiples of `every`, one or more, once at a time.
use Rattle.std.specs.Prelude.{◌≡◌, ◌↔◌, ℕ, zero, suc, ◌+◌, ◌-◌, ◌/◌, ◌%◌, ◌<◌, ◌≤◌, min, max, Bool, true, nat_lt, nat_le, ◌&&◌, Option, Some, None, if◌then◌else◌, List, [], ◌∷◌, All, Any, Contains}
use Rattle.std.specs.Int.{next_multiple_of}
use Rattle.std.specs.List.Sorted.{IsStrictlyIncreasing}
use Rattle.flu_moments.specs.Moments.{moment, time_of}

-- the moment of a clock's tick
abbrev pub tick_moment : ℕ → ℕ → ℕ → ℕ → ℕ
tick_moment sources ties clock time = moment sources ties time clock 0

-- THE NEXT TICK after a moment: the least multiple whose tick is above it
pub record IsNextTick (sources ties every clock m time : ℕ) : Type 0 where
  pub multiple : time % every ≡ 0
  pub above : m < tick_moment sources ties clock time
  pub least : (other : ℕ) → other % every ≡ 0 → m < tick_moment sources ties clock other → time ≤ other

-- TICKS: given the moments of all rows, a clock ticks at each multiple after some row, up to the first that is after all rows
pub record IsTick (sources ties every clock : ℕ) (rows : List ℕ) (time : ℕ) : Type 0 where
  pub multiple : time % every ≡ 0
  pub after_a_row : Any (λ m. m < tick_moment sources ties clock time) rows
  pub none_after_all : (earlier : ℕ) → earlier % every ≡ 0 → earlier < time → Any (λ m. tick_moment sources ties clock earlier ≤ m) rows

-- the times of a clock's ticks, in order
pub record IsTicks (sources ties every clock : ℕ) (rows ticks : List ℕ) : Type 0 where
  pub rising : IsStrictlyIncreasing ticks
  pub each : (time : ℕ) → Contains ticks time ↔ IsTick sources ties every clock rows time

-- THE TICKS BETWEEN TWO MOMENTS: the multiples whose ticks are above the first moment and not above the second
pub record IsBetween (sources ties every clock low high time : ℕ) : Type 0 where
  pub multiple : time % every ≡ 0
  pub above : low < tick_moment sources ties clock time
  pub within : tick_moment sources ties clock time ≤ high

-- their times, in order
pub record AreBetween (sources ties every clock low high : ℕ) (ticks : List ℕ) : Type 0 where
  pub rising : IsStrictlyIncreasing ticks
  pub each : (time : ℕ) → Contains ticks time ↔ IsBetween sources ties every clock low high time

-- a time above one, if there is one, and up to another, if there is one
abbrev pub is_after : Option ℕ → ℕ → Bool
is_after None time = true
is_after (Some above) time = nat_lt above time

abbrev pub is_until : Option ℕ → ℕ → Bool
is_until None time = true
is_until (Some end) time = nat_le time end

abbrev pub is_inside : Option ℕ → Option ℕ → ℕ → Bool
is_inside above end time = is_after above time && is_until end time

-- the moments of some rows, of which these are the first and the last in order
pub record IsSpan (first last : ℕ) (rows : List ℕ) : Type 0 where
  pub has_first : Contains rows first
  pub has_last : Contains rows last
  pub between : All (λ m. (first ≤ m) × (m ≤ last)) rows

-- some numbers from the first on, each above the one before by `every`
abbrev pub steps : ℕ → ℕ → ℕ → List ℕ
steps first every zero = []
steps first every (suc count) = first ∷ steps (first + every) every count

-- ---- the ticks among rows, computed
-- the first time at which a tick is above a moment
abbrev pub first_time : ℕ → ℕ → ℕ → ℕ → ℕ
first_time sources ties clock m =
    if nat_lt m (tick_moment sources ties clock (time_of sources ties m)) then time_of sources ties m else time_of sources ties m + 1

-- and the first multiple from there on
abbrev pub next_tick : ℕ → ℕ → ℕ → ℕ → ℕ → ℕ
next_tick sources ties every clock m = next_multiple_of (first_time sources ties clock m) every

-- the first and the last of some moments
abbrev pub first_of : ℕ → List ℕ → ℕ
first_of m [] = m
first_of m (x ∷ xs) = min m (first_of x xs)

abbrev pub last_of : ℕ → List ℕ → ℕ
last_of m [] = m
last_of m (x ∷ xs) = max m (last_of x xs)

abbrev pub ticks_between : ℕ → ℕ → ℕ → List ℕ
ticks_between from to every = steps from every ((to - from) / every + 1)

abbrev pub ticks_among : ℕ → ℕ → ℕ → ℕ → List ℕ → List ℕ
ticks_among sources ties every clock [] = []
ticks_among sources ties every clock (m ∷ ms) =
    ticks_between (next_tick sources ties every clock (first_of m ms)) (next_tick sources ties every clock (last_of m ms)) every
