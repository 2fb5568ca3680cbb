-- The year of a day, by the cycles of the calendar.
use Rattle.std.proofs.Common.{◌≡◌, ℕ, ◌+◌, ◌-◌, ◌*◌, ◌/◌, ◌%◌, ◌<◌, ◌≤◌, min, arith}
use Rattle.flu_calendar.proofs.Days.{days_since_1601}

-- a year as cycles of 400, 100, 4 and 1 years after 1601
pub cycles : (q c r s : ℕ) → c ≤ 3 → r ≤ 24 → s ≤ 3 → days_since_1601 (400 * q + 100 * c + 4 * r + s) ≡ q * 146097 + c * 36524 + r * 1461 + s * 365
cycles q c r s hc hr hs =
    let n = 400 * q + 100 * c + 4 * r + s in
    let fours : n / 4 ≡ 100 * q + 25 * c + r = omega arith in
    let hundreds : n / 100 ≡ 4 * q + c = omega arith in
    let four_hundreds : n / 400 ≡ q = omega arith in
    omega arith

-- each division leaves what the next one takes apart
pub centuries : (x k : ℕ) → x < 146097 → k ≡ min (x / 36524) 3 → (k ≤ 3) × (k * 36524 ≤ x) × (x - k * 36524 ≤ 36524)
centuries x k h e = omega arith

pub leap_cycles : (y : ℕ) → y ≤ 36524 → (y / 1461 ≤ 24) × (y / 1461 * 1461 ≤ y)
leap_cycles y h = omega arith

pub years : (z s : ℕ) → s ≡ min (z / 365) 3 → (s ≤ 3) × (s * 365 ≤ z)
years z s e = omega arith

pub total : (day before q x k r s : ℕ) → q * 146097 + x ≡ day + 134774 → k * 36524 ≤ x → r * 1461 ≤ x - k * 36524 → s * 365 ≤ x - k * 36524 - r * 1461
    → before + 134774 ≡ q * 146097 + k * 36524 + r * 1461 + s * 365 → before + (x - k * 36524 - r * 1461 - s * 365) ≡ day
total day before q x k r s split hk hr hs closed = omega arith

pub whole : (since : ℕ) → (since / 146097 * 146097 + since % 146097 ≡ since) × (since % 146097 < 146097)
whole since = omega arith
