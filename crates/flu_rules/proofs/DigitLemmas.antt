-- How many digits a number is written with.
use Rattle.std.proofs.Common.{◌≡◌, ◌+◌, ◌<◌, ◌≤◌, ◌/◌, ◌^◌, ℕ, length, ap, sym, ◌∙◌}
use Rattle.std.specs.Fmt.{decimal}
use Rattle.std.proofs.lemmas.Fmt.{decimal_digit, decimal_step}
use Rattle.std.proofs.lemmas.List.{length-append}

pub one_digit : (n : ℕ) → n < 10 → 1 ≡ length (decimal n)
one_digit n lt = ap length (sym (decimal_digit n lt))

pub one_more : (n : ℕ) → 10 ≤ n → n < 2 ^ 64 → length (decimal (n / 10)) + 1 ≡ length (decimal n)
one_more n le small = sym (ap length (decimal_step n le small) ∙ length-append (decimal (n / 10)) _)
