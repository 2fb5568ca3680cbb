-- MOMENTS: one number for each row of the sources, by which all rows are ordered. There are one source or more, and a source has at most
-- `ties` rows at one time, one or more.
use Rattle.std.specs.Prelude.{ℕ, ◌+◌, ◌-◌, ◌*◌, ◌/◌, ◌%◌, ◌^◌, ◌<◌}

-- the moment of the row at a place, from 0, among the rows that its source has at its time
abbrev pub moment : ℕ → ℕ → ℕ → ℕ → ℕ → ℕ
moment sources ties time source place = (time * sources + source) * ties + place

-- the time, the source and the place of a moment
abbrev pub time_of : ℕ → ℕ → ℕ → ℕ
time_of sources ties m = m / (sources * ties)

abbrev pub source_of : ℕ → ℕ → ℕ → ℕ
source_of sources ties m = m / ties % sources

abbrev pub place_of : ℕ → ℕ → ℕ
place_of ties m = m % ties

-- THE BORDER of a time: the last moment of it
abbrev pub border : ℕ → ℕ → ℕ → ℕ
border sources ties time = (time + 1) * (sources * ties) - 1

-- a time is allowed where all its moments are below 2^63
abbrev pub IsAllowed : ℕ → ℕ → ℕ → Type 0
IsAllowed sources ties time = time < 2 ^ 63 / (sources * ties)

-- THE GREATEST TIME that is allowed
abbrev pub greatest_time : ℕ → ℕ → ℕ
greatest_time sources ties = 2 ^ 63 / (sources * ties) - 1
