-- A number's text is parsed as the number, and is that of no other, also where it has more than 64 bits.
use Rattle.std.proofs.Common.{◌≡◌, ℕ, suc, ◌+◌, ◌<◌, ◌^◌, ◌≢◌, ◌∷◌, List, ℤ, pos, negsuc, drop, Result, Ok, refl, sym, ap, subst, ◌∙◌, arith}
use lib.IntN.{neg_ℤ}
use lib.Signed.{mag}
use mir.Syntax.{Width}
use Rattle.std.specs.Prelude.{FitsSigned}
use Rattle.std.specs.Fmt.{decimal, signed_decimal}
use Rattle.std.specs.Str.Parse.{ParsesSigned, AllDigits, digits_value}
use Rattle.std.proofs.lemmas.Fmt.{decimal_is_IsNumeral_wide}
use Rattle.std.proofs.lemmas.Result.{Ok-from_Ok_iff}
use Rattle.std.proofs.lemmas.Str.Parse.{numerals_by_value, tells_digits, digit_from_value, parse_signed_digits, parse_signed_minus}

pub parse-signed_decimal_wide : {E : Type 0} (w : Width) (z : ℤ) (bs : List ℕ) (r : Result ℤ E) → FitsSigned w z → mag z + 1 < 10 ^ 64
    → bs ≡ signed_decimal z → ParsesSigned w 10 bs r → r ≡ Ok z
parse-signed_decimal_wide w (pos n) bs r fits small is h =
    let k = decimal_is_IsNumeral_wide n (omega arith) in
    let read = parse_signed_digits (numerals_by_value _ tells_digits) w (decimal n) r (subst (λ l. ParsesSigned w 10 l r) is h) k.0.1 in
    Ok-from_Ok_iff r _ _ read (k.0.0, omega (arith, k.1, fits.sfits)) ∙ ap (λ m. Ok (pos m)) k.1
parse-signed_decimal_wide w (negsuc n) bs r fits small is h =
    let k = decimal_is_IsNumeral_wide (suc n) (omega arith) in
    let read = parse_signed_minus (numerals_by_value _ tells_digits) w (45 ∷ decimal (suc n)) r (subst (λ l. ParsesSigned w 10 l r) is h) refl in
    Ok-from_Ok_iff r _ _ read (k.0.1, k.0.0, omega (arith, k.1, fits.sfits)) ∙ ap (λ m. Ok (neg_ℤ (pos m))) k.1

decimal_injective_wide : (m n : ℕ) → m < 10 ^ 64 → n < 10 ^ 64 → decimal m ≡ decimal n → m ≡ n
decimal_injective_wide m n p q e = sym (decimal_is_IsNumeral_wide m p).1 ∙ ap (digits_value 10) e ∙ (decimal_is_IsNumeral_wide n q).1

decimal-ne_minus_wide : (n : ℕ) (ds : List ℕ) → n < 10 ^ 64 → decimal n ≢ 45 ∷ ds
decimal-ne_minus_wide n ds h e = omega (arith, digit_from_value 45 (subst (AllDigits 10) e (decimal_is_IsNumeral_wide n h).0.1).0)

pub signed_decimal_injective_wide : (y z : ℤ) → mag y + 1 < 10 ^ 64 → mag z + 1 < 10 ^ 64 → signed_decimal y ≡ signed_decimal z → y ≡ z
signed_decimal_injective_wide (pos m) (pos n) p q e = ap pos (decimal_injective_wide m n (omega arith) (omega arith) e)
signed_decimal_injective_wide (pos m) (negsuc n) p q e = absurd (decimal-ne_minus_wide m _ (omega arith) e)
signed_decimal_injective_wide (negsuc m) (pos n) p q e = absurd (decimal-ne_minus_wide n _ (omega arith) (sym e))
signed_decimal_injective_wide (negsuc m) (negsuc n) p q e =
    ap negsuc (omega (arith, decimal_injective_wide (suc m) (suc n) (omega arith) (omega arith) (ap (drop 1) e)))
