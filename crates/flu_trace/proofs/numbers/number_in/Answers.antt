use Rattle.std.proofs.Common.{◌≡◌, ◌<◌, ◌≤◌, ◌-◌, ◌^◌, min, true, false, get_or, length, take, refl, ap, sym, ◌∙◌, arith, rules}
use Rattle.std.specs.Char.{is_ascii_digit}
use Rattle.std.specs.Str.Parse.{digits_value}
use Rattle.std.specs.List.{list_all}
use Rattle.std.proofs.lemmas.Bool.Decides.{nat_tests}
use Rattle.std.proofs.lemmas.Grind.{common_steps}
use Rattle.std.proofs.lemmas.List.{take_all}
use Rattle.std.proofs.lemmas.List.Folds.{list_all_more}
use Rattle.flu_lemmas.proofs.Digits.{digits_value_capped}
use Rattle.flu_trace.proofs.Numerals.{is_written, not_behind_zero, not_empty, not_long, not_other}
use Rattle.flu_trace.proofs.numbers.number_in.Goals as goal
use Rattle.flu_trace.proofs.numbers.number_in.Goals.{else-digits-gt1-via-then-digits-gt1+else-digits-eq48, else-digits-gt1-via-else-digits-gt1}

pub returns-then-is_empty-clause-none : goal.returns-then-is_empty-clause-none
returns-then-is_empty-clause-none c =
    let none : length c.args.digits.now ≡ 0 = grind (arith, nat_tests, c.is_empty.ensures, c.if-is_empty.true) in
    not_empty c.args.digits.now none

pub returns-then-digits-gt-MOST_DIGITS-clause-none : goal.returns-then-digits-gt-MOST_DIGITS-clause-none
returns-then-digits-gt-MOST_DIGITS-clause-none c = not_long c.args.digits.now c.if-digits-gt-MOST_DIGITS.true

pub returns-then-digits-eq48-clause-none : goal.returns-then-digits-eq48-clause-none
returns-then-digits-eq48-clause-none c = not_behind_zero c.args.digits.now c.if-digits-eq48.true c.if-digits-gt1.true

pub loop-digit-init : goal.loop-digit-init
loop-digit-init c =
    let nought : get_or c.args.digits.now 0 0 ≡ 48 → length c.args.digits.now ≤ 1 =
    elim c.else-digits-gt1.branch [
      | else-digits-gt1-via-then-digits-gt1+else-digits-eq48 w ↦ λ e. absurd (w.if-digits-eq48.false e)
      | else-digits-gt1-via-else-digits-gt1 w ↦ λ e. w.if-digits-gt1.false
    ] in
    record { zero = nought; value = grind (arith, common_steps); digits = refl }

pub returns-then-not-is_ascii_digit-clause-none : goal.returns-then-not-is_ascii_digit-clause-none
returns-then-not-is_ascii_digit-clause-none c =
    let i = c.loop-digit.digit-index in
    let ds = c.args.digits.now in
    let other : is_ascii_digit (get_or ds i 0) ≡ false = search rules in
    not_other ds i c.loop-digit-test.true other

pub loop-digit-preserved : goal.loop-digit-preserved
loop-digit-preserved c =
    let i = c.loop-digit.digit-index in
    let ds = c.args.digits.now in
    let digit : is_ascii_digit (get_or ds i 0) ≡ true = search rules in
    let e = digits_value_capped ds i (2 ^ 32 - 1) c.loop-digit.number (omega arith) digit c.loop-digit-test.true c.loop-digit.invariant.value in
    record {
      zero = c.loop-digit.invariant.zero;
      value = grind arith;
      digits = rw (list_all_more is_ascii_digit ds i 0 c.loop-digit-test.true, c.loop-digit.invariant.digits, digit) refl;
    }

pub returns-clause-some : goal.returns-clause-some
returns-clause-some c =
    let ds = c.args.digits.now in
    let all : take c.loop-digit.digit-index ds ≡ ds = take_all c.loop-digit.digit-index ds c.loop-digit-test.false in
    let some : 0 < length ds = grind (arith, nat_tests, c.is_empty.ensures, c.if-is_empty.false) in
    is_written ds c.loop-digit.number some c.if-digits-gt-MOST_DIGITS.false c.loop-digit.invariant.zero
    (ap (list_all is_ascii_digit) (sym all) ∙ c.loop-digit.invariant.digits)
    (c.loop-digit.invariant.value ∙ ap (λ l. min (digits_value 10 l) (2 ^ 32 - 1)) all)
