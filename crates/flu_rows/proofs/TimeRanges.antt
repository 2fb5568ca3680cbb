-- The times of rows are below 2^63.
use Rattle.std.proofs.Common.{◌≡◌, ℕ, ◌<◌, ◌≤◌, ◌^◌, Bool, true, false, not, ◌&&◌, if◌then◌else◌, eqb, List, length, Option, Some, None, refl, arith}
use Rattle.std.specs.Prelude.{nat_le}
use Rattle.std.specs.Char.{is_ascii_digit}
use Rattle.std.specs.List.{list_all}
use Rattle.std.specs.Option.{option_or}
use Rattle.std.specs.Str.Parse.{digits_value}
use Rattle.flu_calendar.specs.Agreement.{ComputedTimesHaveAnEnd, EndsAreInRange}
use Rattle.flu_lemmas.proofs.Tests.{true_le}
use Rattle.flu_rows.specs.declared.row.RowForm.{RowForm}
use Rattle.flu_rows.specs.declared.row.RowForm.TheVariants.{Older, WithItems}
use Rattle.flu_rows.specs.Fields.{number_of, greatest_time, said_time, time_of}
use Rattle.flu_rows.specs.Laws.{TimesAreInRange}

if_passed : (filled within : Bool) (number n limit : ℕ) → (within ≡ true → number ≤ limit) → (if filled && within then Some number else None) ≡ Some n
    → n ≤ limit
if_passed true true number n limit low e = let few = low refl in let same : number ≡ n = cc in omega arith
if_passed true false number n limit low e = cc
if_passed false within number n limit low e = cc

number_within : (limit : ℕ) (digits : List ℕ) (n : ℕ) → number_of limit digits ≡ Some n → n ≤ limit
unfolding number_of
number_within limit digits n e =
    if_passed (not (eqb (length digits) 0) && list_all is_ascii_digit digits) (nat_le (digits_value 10 digits) limit) (digits_value 10 digits) n limit
    (true_le (digits_value 10 digits) limit) e

greatest_low : EndsAreInRange → (form : RowForm) → greatest_time form < 2 ^ 63
greatest_low ends Older = omega arith
greatest_low ends (WithItems None lists) = omega arith
greatest_low ends (WithItems (Some unit) lists) = omega (arith, ends unit)

said_low : ComputedTimesHaveAnEnd → EndsAreInRange → (form : RowForm) (field : List ℕ) (t : ℕ) → said_time form field ≡ Some t → t < 2 ^ 63
said_low before ends Older field t e = cc
said_low before ends (WithItems None lists) field t e = cc
said_low before ends (WithItems (Some unit) lists) field t e = omega (arith, before unit field t e, ends unit)

from_either : (a b : Option ℕ) (t : ℕ) → ((n : ℕ) → a ≡ Some n → n < 2 ^ 63) → ((n : ℕ) → b ≡ Some n → n < 2 ^ 63) → option_or a b ≡ Some t → t < 2 ^ 63
from_either (Some n) b t first second e = first t e
from_either None b t first second e = second t e

pub times_are_in_range : ComputedTimesHaveAnEnd → EndsAreInRange → TimesAreInRange
unfolding time_of
times_are_in_range before ends form field t e =
    from_either (number_of (greatest_time form) field) (said_time form field) t
    (λ n is. omega (arith, number_within (greatest_time form) field n is, greatest_low ends form)) (said_low before ends form field) e
