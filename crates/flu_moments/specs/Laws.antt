-- Laws of moments.
use Rattle.std.specs.Prelude.{◌≡◌, ◌↔◌, ◌⊎◌, ℕ, ◌*◌, ◌^◌, ◌<◌, ◌≤◌}
use Rattle.flu_moments.specs.Moments.{moment, time_of, source_of, place_of, border, IsAllowed, greatest_time}

-- a row has this source, of some sources, and this place, of some ties
pub record IsPlace (sources ties source place : ℕ) : Type 0 where
  pub source_in_range : source < sources
  pub place_in_range : place < ties

-- moments are told apart: the time, the source and the place of a row's moment are the row's own, and each number is the moment of its own
pub record MomentsAreApart : Type 0 where
  pub time : (sources ties time source place : ℕ) → IsPlace sources ties source place → time_of sources ties (moment sources ties time source place) ≡ time
  pub source : (sources ties time source place : ℕ) → IsPlace sources ties source place
      → source_of sources ties (moment sources ties time source place) ≡ source
  pub place : (sources ties time source place : ℕ) → IsPlace sources ties source place → place_of ties (moment sources ties time source place) ≡ place
  pub each : (sources ties m : ℕ) → 0 < sources → 0 < ties → moment sources ties (time_of sources ties m) (source_of sources ties m) (place_of ties m) ≡ m
  pub within : (sources ties m : ℕ) → 0 < sources → 0 < ties → IsPlace sources ties (source_of sources ties m) (place_of ties m)

-- THE ORDER OF ROWS: by time; at one time by source, as declared; in one source by place
abbrev pub IsBefore : ℕ → ℕ → ℕ → ℕ → ℕ → ℕ → Type 0
IsBefore time source place time' source' place' = (time < time') ⊎ ((time ≡ time') × ((source < source') ⊎ ((source ≡ source') × (place < place'))))

-- the order of moments is the order of rows
abbrev pub MomentsAreInOrder : Type 0
MomentsAreInOrder =
    (sources ties time source place time' source' place' : ℕ) → IsPlace sources ties source place → IsPlace sources ties source' place'
    → (moment sources ties time source place < moment sources ties time' source' place') ↔ IsBefore time source place time' source' place'

-- a border is at or above exactly the moments of the times up to its own
abbrev pub BordersPartTimes : Type 0
BordersPartTimes = (sources ties time m : ℕ) → 0 < sources → 0 < ties → (m ≤ border sources ties time) ↔ (time_of sources ties m ≤ time)

-- the moments of the times that are allowed are those below 2^63, as far as sources * ties goes into it, and the greatest time is the last of them
pub record AllowedTimesFit : Type 0 where
  pub below : (sources ties time source place : ℕ) → IsAllowed sources ties time → IsPlace sources ties source place
      → moment sources ties time source place < 2 ^ 63
  pub greatest : (sources ties time : ℕ) → 0 < sources → 0 < ties → sources * ties ≤ 2 ^ 63 → IsAllowed sources ties time ↔ (time ≤ greatest_time sources ties)

-- where one source has one row at a time, a moment is the time, and so is its border
pub record OneRowAtATime : Type 0 where
  pub moment : (time : ℕ) → moment 1 1 time 0 0 ≡ time
  pub time : (m : ℕ) → time_of 1 1 m ≡ m
  pub border : (time : ℕ) → border 1 1 time ≡ time
