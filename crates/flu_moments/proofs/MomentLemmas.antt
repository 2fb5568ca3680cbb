-- The order of moments, their parts, borders and the greatest time.
use Rattle.std.proofs.Common.{◌≡◌, ◌⊎◌, ℕ, ◌+◌, ◌*◌, ◌/◌, ◌%◌, ◌^◌, ◌<◌, ◌≤◌, inl, inr, sym, ap, ◌∙◌, arith}
use Rattle.std.proofs.Math.Nat.{mul-le-mul_left, mul_comm, div-div-eq-div-mul, div-mul-le_self, div-le_self}
use Rattle.std.proofs.lemmas.Nat.{div-mul-add, mod-mul-add, div-add-mod', mod_below, same_from_place, le-div, div_below}
use Rattle.std.proofs.lemmas.Bool.{cases_lt}
use Rattle.flu_moments.specs.Moments.{moment, time_of, source_of, place_of, border, IsAllowed, greatest_time}
use Rattle.flu_moments.specs.Laws.{IsPlace, IsBefore, MomentsAreApart, MomentsAreInOrder, BordersPartTimes, AllowedTimesFit, OneRowAtATime}

-- ---- products
pub product_le : (a b w : ℕ) → a ≤ b → a * w ≤ b * w
product_le a b w le = let turned : w * a ≤ w * b = mul-le-mul_left w le in omega arith

-- the places of a row are below those of the next row
pub row_below : (a b c w : ℕ) → b < w → a < c → a * w + b < c * w
row_below a b c w lt less =
    let steps = product_le (a + 1) c w (omega arith) in
    omega arith

pub row_order : (a b c d w : ℕ) → b < w → d < w → a * w + b < c * w + d → (a < c) ⊎ ((a ≡ c) × (b < d))
row_order a b c d w lt lt' less =
    elim (cases_lt a c) [
      | inl before ↦ inl before
      | inr le ↦ elim (cases_lt c a) [
        | inl after ↦ (let above = row_below c d a w lt' after in absurd (omega arith))
        | inr le' ↦ (let same : a ≡ c = omega arith in
            let product : a * w ≡ c * w = ap (λ x. x * w) same in
            inr (same, omega arith))
      ]
    ]

-- ---- parts
pub source_within : (sources time source : ℕ) → source < sources → (time * sources + source) / sources ≡ time
source_within sources time source lt = div-mul-add time sources source lt

pub time_of-moment : (sources ties time source place : ℕ) → IsPlace sources ties source place
    → time_of sources ties (moment sources ties time source place) ≡ time
time_of-moment sources ties time source place at =
    ap (λ w. moment sources ties time source place / w) (mul_comm sources ties)
    ∙ sym (div-div-eq-div-mul (moment sources ties time source place) ties sources)
    ∙ ap (λ m. m / sources) (div-mul-add (time * sources + source) ties place at.place_in_range)
    ∙ div-mul-add time sources source at.source_in_range

pub source_of-moment : (sources ties time source place : ℕ) → IsPlace sources ties source place
    → source_of sources ties (moment sources ties time source place) ≡ source
source_of-moment sources ties time source place at =
    ap (λ m. m % sources) (div-mul-add (time * sources + source) ties place at.place_in_range)
    ∙ mod-mul-add time sources source at.source_in_range

pub moment-parts : (sources ties m : ℕ) → moment sources ties (time_of sources ties m) (source_of sources ties m) (place_of ties m) ≡ m
moment-parts sources ties m =
    let turned : m / (sources * ties) ≡ m / ties / sources = ap (λ w. m / w) (mul_comm sources ties) ∙ sym (div-div-eq-div-mul m ties sources) in
    ap (λ t. (t * sources + m / ties % sources) * ties + m % ties) turned
    ∙ ap (λ x. x * ties + m % ties) (div-add-mod' (m / ties) sources)
    ∙ div-add-mod' m ties

pub parts_within : (sources ties m : ℕ) → 0 < sources → 0 < ties → IsPlace sources ties (source_of sources ties m) (place_of ties m)
parts_within sources ties m some any = record { source_in_range = mod_below (m / ties) sources some; place_in_range = mod_below m ties any }

pub moments_apart : MomentsAreApart
moments_apart = record {
  time = time_of-moment;
  source = source_of-moment;
  place = λ sources ties time source place at. mod-mul-add (time * sources + source) ties place at.place_in_range;
  each = λ sources ties m some any. moment-parts sources ties m;
  within = parts_within;
}

-- ---- order
pub order_from_moments : (sources ties time source place time' source' place' : ℕ) → IsPlace sources ties source place → IsPlace sources ties source' place'
    → moment sources ties time source place < moment sources ties time' source' place' → IsBefore time source place time' source' place'
order_from_moments sources ties time source place time' source' place' at at' less =
    elim (row_order (time * sources + source) place (time' * sources + source') place' ties at.place_in_range at'.place_in_range less) [
      | inl before ↦ elim (row_order time source time' source' sources at.source_in_range at'.source_in_range before)
          [ inl earlier ↦ inl earlier | inr same ↦ inr (same.0, inl same.1) ]
      | inr same ↦ (let parts = same_from_place time source time' source' sources at.source_in_range at'.source_in_range same.0 in
          inr (parts.0, inr (parts.1, same.1)))
    ]

pub moments_from_order : (sources ties time source place time' source' place' : ℕ) → IsPlace sources ties source place → IsPlace sources ties source' place'
    → IsBefore time source place time' source' place' → moment sources ties time source place < moment sources ties time' source' place'
moments_from_order sources ties time source place time' source' place' at at' before =
    elim before [
      | inl earlier ↦ (let lines = row_below time source time' sources at.source_in_range earlier in
          let step = row_below (time * sources + source) place (time' * sources + source') ties at.place_in_range (omega arith) in omega arith)
      | inr same ↦ elim same.1 [
        | inl first ↦ (let lines : time * sources ≡ time' * sources = ap (λ t. t * sources) same.0 in
            let step = row_below (time * sources + source) place (time' * sources + source') ties at.place_in_range (omega arith) in omega arith)
        | inr tied ↦ (let lines : (time * sources + source) * ties ≡ (time' * sources + source') * ties
            = ap (λ x. x * ties) (λ i. same.0 i * sources + tied.0 i) in
            omega (arith, tied.1))
      ]
    ]

pub moments_in_order : MomentsAreInOrder
moments_in_order sources ties time source place time' source' place' at at' = (
  order_from_moments sources ties time source place time' source' place' at at',
  moments_from_order sources ties time source place time' source' place' at at',
)

-- ---- the times that are allowed
-- the moments of a time are those before the first of the next one
pub moment_in_time : (sources ties time source place : ℕ) → IsPlace sources ties source place
    → moment sources ties time source place < (time + 1) * (sources * ties)
moment_in_time sources ties time source place at =
    let in_line : time * sources + source < (time + 1) * sources = (let s = at.source_in_range in omega arith) in
    let step = row_below (time * sources + source) place ((time + 1) * sources) ties at.place_in_range in_line in
    omega arith

allowed_fits : (w time : ℕ) → time < 2 ^ 63 / w → (time + 1) * w ≤ 2 ^ 63
allowed_fits w time lt =
    let steps = product_le (time + 1) (2 ^ 63 / w) w (omega arith) in
    let whole = div-mul-le_self (2 ^ 63) w in
    omega arith

pub some_product : (a b : ℕ) → 0 < a → 0 < b → 0 < a * b
some_product a b some any = let rows = product_le 1 a b (omega arith) in omega arith

a_time_is_allowed : (w : ℕ) → 0 < w → w ≤ 2 ^ 63 → 0 < 2 ^ 63 / w
a_time_is_allowed w some fits = let one = le-div 1 (2 ^ 63) w some (omega arith) in omega arith

pub allowed_from_greatest : (sources ties time : ℕ) → 0 < sources → 0 < ties → sources * ties ≤ 2 ^ 63 → time ≤ greatest_time sources ties
    → IsAllowed sources ties time
allowed_from_greatest sources ties time some any fits le =
    let first = a_time_is_allowed (sources * ties) (some_product sources ties some any) fits in
    omega arith

pub allowed_times_fit : AllowedTimesFit
allowed_times_fit = record {
  below = λ sources ties time source place allowed at.
      let inside = moment_in_time sources ties time source place at in
      let fits = allowed_fits (sources * ties) time allowed in
      omega arith;
  greatest = λ sources ties time some any fits. (λ lt. omega arith, allowed_from_greatest sources ties time some any fits);
}

-- the first moment of the time after an allowed one
pub next_time_fits : (sources ties time : ℕ) → 0 < sources → 0 < ties → sources * ties ≤ 2 ^ 63 → time ≤ greatest_time sources ties
    → (time + 1) * (sources * ties) ≤ 2 ^ 63
next_time_fits sources ties time some any fits le = allowed_fits (sources * ties) time (allowed_from_greatest sources ties time some any fits le)

-- ---- borders
pub borders_part_times : BordersPartTimes
borders_part_times sources ties time m some any = (up_to, from_time)
  where
    up_to : m ≤ border sources ties time → time_of sources ties m ≤ time
    up_to le =
        let wide = some_product sources ties some any in
        let more = product_le 1 (time + 1) (sources * ties) (omega arith) in
        let below = div_below m (sources * ties) (time + 1) wide (omega arith) in
        omega arith

    from_time : time_of sources ties m ≤ time → m ≤ border sources ties time
    from_time le =
        let wide = some_product sources ties some any in
        let parts = div-add-mod' m (sources * ties) in
        let rest = mod_below m (sources * ties) wide in
        let steps = product_le (m / (sources * ties)) time (sources * ties) le in
        omega arith

pub one_row_at_a_time : OneRowAtATime
one_row_at_a_time = record { moment = λ time. omega arith; time = λ m. omega arith; border = λ time. omega arith }

pub greatest_below : (sources ties : ℕ) → greatest_time sources ties < 2 ^ 64
greatest_below sources ties = let less = div-le_self (2 ^ 63) (sources * ties) in omega arith
