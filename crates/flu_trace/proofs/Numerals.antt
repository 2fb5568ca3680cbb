-- What the numbers below 1,000 are written by.
use Rattle.std.proofs.Common.{◌≡◌, ◌≢◌, ℕ, zero, suc, ◌<◌, ◌≤◌, ◌-◌, ◌^◌, min, true, false, List, length, get_or, refl, sym, ap, ◌∙◌, arith}
use Rattle.std.specs.Char.{is_ascii_digit}
use Rattle.std.specs.Fmt.{decimal}
use Rattle.std.specs.List.{list_all}
use Rattle.std.specs.Str.Parse.{digits_value}
use Rattle.std.proofs.lemmas.Bool.{false≢true}
use Rattle.std.proofs.lemmas.Bool.Decides.{nat_tests}
use Rattle.std.proofs.lemmas.Fmt.{decimal_digit, decimal_is_IsNumeral, decimal_nonempty, decimal-digits_value, first_decimal, length-decimal-le}
use Rattle.std.proofs.lemmas.Str.Parse.{IsDigitsTest, IsNumeralModel, digit_at, digits_value_short, numerals_by_value}
use Rattle.flu_lemmas.proofs.Digits.{digit_in_range}
use Rattle.flu_lemmas.proofs.Tests.{and_left, and_right, both}

tells : IsDigitsTest (λ ds. list_all is_ascii_digit ds ≡ true)
tells = record {
  empty = refl;
  parts = λ c cs h. (
    digit_in_range c (and_left (is_ascii_digit c) (list_all is_ascii_digit cs) h),
    and_right (is_ascii_digit c) (list_all is_ascii_digit cs) h,
  );
  more = λ c cs r h. let one : is_ascii_digit c ≡ true = grind (arith, nat_tests) in both (is_ascii_digit c) (list_all is_ascii_digit cs) one h;
}

own : IsNumeralModel (λ ds. list_all is_ascii_digit ds ≡ true) (digits_value 10)
own = numerals_by_value _ tells

-- ---- what no such number is written by: nothing, more than three digits, a zero before another digit, and what is no digit
pub not_empty : (ds : List ℕ) → length ds ≡ 0 → (n : ℕ) → n < 1000 → ds ≢ decimal n
not_empty ds none n lt e = let some = decimal_nonempty n (omega arith) in absurd (omega (arith, some, ap length e))

pub not_long : (ds : List ℕ) → 3 < length ds → (n : ℕ) → n < 1000 → ds ≢ decimal n
not_long ds long n lt e = let short = length-decimal-le 3 n (omega arith) lt (omega arith) in absurd (omega (arith, short, ap length e))

pub not_behind_zero : (ds : List ℕ) → get_or ds 0 0 ≡ 48 → 1 < length ds → (n : ℕ) → n < 1000 → ds ≢ decimal n
not_behind_zero ds nought long zero lt e = absurd (omega (arith, ap length (e ∙ decimal_digit 0 (omega arith))))
not_behind_zero ds nought long (suc n) lt e =
    let first = first_decimal (suc n) (omega arith) (omega arith) in absurd (omega (arith, first, ap (λ l. get_or l 0 0) e))

pub not_other : (ds : List ℕ) (i : ℕ) → i < length ds → is_ascii_digit (get_or ds i 0) ≡ false
    → (n : ℕ) → n < 1000 → ds ≢ decimal n
not_other ds i there other n lt e =
    let within : i < length (decimal n) = omega (arith, ap length e) in
    let here = digit_at (decimal n) i (decimal_is_IsNumeral n (omega arith)).0.1 within in
    let digit : is_ascii_digit (get_or (decimal n) i 0) ≡ true = grind (arith, nat_tests) in
    false≢true (sym other ∙ ap (λ l. is_ascii_digit (get_or l i 0)) e ∙ digit)

-- ---- and what one is
pub is_written : (ds : List ℕ) (number : ℕ) → 0 < length ds → length ds ≤ 3 → (get_or ds 0 0 ≡ 48 → length ds ≤ 1) → list_all is_ascii_digit ds ≡ true
    → number ≡ min (digits_value 10 ds) (2 ^ 32 - 1)
    → (number < 1000) × (ds ≡ decimal number)
is_written ds number some few nought all value =
    let small : digits_value 10 ds < 1000 = digits_value_short own ds 3 all few in
    let same : number ≡ digits_value 10 ds = omega arith in
    let one : get_or ds 0 0 ≡ 48 → length ds ≡ 1 = λ z. let le = nought z in omega arith in (
      omega arith,
      sym (decimal-digits_value own ds all some one (omega arith)) ∙ ap decimal (sym same),
    )
