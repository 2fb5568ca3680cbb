use Rattle.std.proofs.Common.{◌-◌, ◌^◌, arith}
use Rattle.std.specs.Char.{is_ascii_digit}
use Rattle.std.proofs.lemmas.List.Sums.{AllPass-from_list_all}
use Rattle.flu_lemmas.proofs.Digits.{digits_value_capped}
use Rattle.flu_parse.proofs.fields.number_of.Goals as goal

pub loop-digit-preserved : goal.loop-digit-preserved
loop-digit-preserved c =
    let digits = c.args.digits.now in
    let i = c.loop-digit.digit-index in
    let passes = AllPass-from_list_all is_ascii_digit digits c.requires i 0 c.loop-digit-test.true in
    let e = digits_value_capped digits i (2 ^ 64 - 1) c.loop-digit.number (omega arith) passes c.loop-digit-test.true c.loop-digit.invariant in
    grind arith
