-- Digits, and runs of digits.
use Rattle.std.proofs.Common.{◌≡◌, ℕ, ◌+◌, ◌*◌, ◌%◌, ◌-◌, ◌<◌, ◌^◌, min, true, List, [], ◌∷◌, length, get_or, take, ◌∙◌, arith}
use Rattle.std.specs.Prelude.{◌||◌, ◌==◌}
use Rattle.std.specs.Char.{is_ascii_digit, is_ascii_alphanumeric}
use Rattle.std.specs.Fmt.{decimal}
use Rattle.std.specs.Int.{IsInRange}
use Rattle.std.specs.List.{list_all}
use Rattle.std.specs.Str.Parse.{digits_value}
use Rattle.std.proofs.lemmas.Bool.Decides.{nat_tests}
use Rattle.std.proofs.lemmas.Fmt.{decimal_by_steps}
use Rattle.std.proofs.lemmas.List.Folds.{list_all-append}
use Rattle.std.proofs.lemmas.Str.{digit_value_digit}
use Rattle.std.proofs.lemmas.Int.Digits.{digits_value_more}
use Rattle.flu_lemmas.proofs.Tests.{both}

pub digit_in_range : (c : ℕ) → is_ascii_digit c ≡ true → IsInRange 48 57 c
digit_in_range c e = grind (arith, nat_tests)

-- one more digit of a number that stops at a limit
pub digits_value_capped : (ds : List ℕ) (i limit number : ℕ) → 0 < limit → is_ascii_digit (get_or ds i 0) ≡ true → i < length ds
    → number ≡ min (digits_value 10 (take i ds)) limit
    → min (min (number * 10) limit + (get_or ds i 0 - 48)) limit ≡ min (digits_value 10 (take (i + 1) ds)) limit
digits_value_capped ds i limit number some passes lt so_far =
    let r = digit_in_range (get_or ds i 0) passes in
    let d = digit_value_digit (get_or ds i 0) r in
    let m = digits_value_more 10 ds i lt in
    omega arith

-- a letter, a digit or `_` is ASCII
pub alphanumeric_ascii : (c : ℕ) → (is_ascii_alphanumeric c || (c == 95)) ≡ true → c < 128
alphanumeric_ascii c e = grind (arith, nat_tests)

-- ---- the digits that a number is written by
one_digit : (n : ℕ) → n < 10 → list_all is_ascii_digit ((48 + n) ∷ []) ≡ true
one_digit n lt = grind (arith, nat_tests)

last_digit : (n : ℕ) → list_all is_ascii_digit ((48 + n % 10) ∷ []) ≡ true
last_digit n = one_digit (n % 10) (omega arith)

pub decimal_digits : (n : ℕ) → n < 2 ^ 64 → list_all is_ascii_digit (decimal n) ≡ true
decimal_digits n lt =
    decimal_by_steps (λ n ds. list_all is_ascii_digit ds ≡ true) one_digit
    (λ n ds low so_far. list_all-append is_ascii_digit ds ((48 + n % 10) ∷ [])
    ∙ both (list_all is_ascii_digit ds) (list_all is_ascii_digit ((48 + n % 10) ∷ [])) so_far (last_digit n)) n lt
