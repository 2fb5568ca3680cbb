use Rattle.std.proofs.Common.{◌-◌, ◌^◌, arith, rules, get_or, ◌≡◌, true, refl}
use Rattle.std.specs.Char.{is_ascii_digit}
use Rattle.std.proofs.lemmas.List.Folds.{list_all_more}
use Rattle.flu_lemmas.proofs.Digits.{digits_value_capped}
use Rattle.flu_words.proofs.numbers.number_of.Goals as goal

pub loop-digit-preserved : goal.loop-digit-preserved
loop-digit-preserved c =
    let i = c.loop-digit.digit-index in
    let ds = c.args.digits.now in
    let digit : is_ascii_digit (get_or ds i 0) ≡ true = search rules in
    let e = digits_value_capped ds i (2 ^ 32 - 1) c.loop-digit.number (omega arith) digit c.loop-digit-test.true c.loop-digit.invariant.value in
    record {
      value = grind arith;
      digits = rw (list_all_more is_ascii_digit ds i 0 c.loop-digit-test.true, c.loop-digit.invariant.digits, digit) refl;
    }
