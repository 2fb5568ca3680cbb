use Rattle.std.proofs.Common.{◌≡◌, ◌<◌, ◌≤◌, get_or, length, true, arith, rules, refl}
use Rattle.std.specs.List.{list_all}
use Rattle.std.specs.Char.{is_ascii_digit}
use Rattle.std.proofs.lemmas.List.Folds.{list_all_more}
use Rattle.std.proofs.Math.Seq.{take-length}
use Rattle.flu_calendar.proofs.Fractions.{stepped, started, unit_fits, all_stepped}
use Rattle.flu_calendar.proofs.read.digits_in.Goals as goal

pub overflow_add-units : goal.overflow_add-units
overflow_add-units c =
    let passes : is_ascii_digit (get_or c.args.digits.now c.loop-digit.digit-index 0) ≡ true = search rules in
    let few : c.loop-digit.digit-index < 9 = omega arith in
    let next = stepped c.args.unit c.args.digits.now c.loop-digit.digit-index c.loop-digit.units c.loop-digit.weight c.from.result
    c.loop-digit.invariant.step few c.loop-digit-test.true passes c.from.ensures in
    let less = next.less in
    omega (arith, unit_fits c.args.unit)

pub loop-digit-init : goal.loop-digit-init
loop-digit-init c = record { step = started c.args.unit c.args.digits.now c.in_second-weight.result c.in_second-weight.ensures; digits = refl }

pub loop-digit-preserved : goal.loop-digit-preserved
loop-digit-preserved c =
    let i = c.loop-digit.digit-index in
    let ds = c.args.digits.now in
    let passes : is_ascii_digit (get_or ds i 0) ≡ true = search rules in
    let few : i < 9 = omega arith in
    record {
      step = stepped c.args.unit ds i c.loop-digit.units c.loop-digit.weight c.from.result c.loop-digit.invariant.step few c.loop-digit-test.true passes c.from.ensures;
      digits = rw (list_all_more is_ascii_digit ds i 0 c.loop-digit-test.true, c.loop-digit.invariant.digits, passes) refl;
    }

pub returns-clause-some : goal.returns-clause-some
returns-clause-some c =
    let ds = c.args.digits.now in
    let at_end : c.loop-digit.digit-index ≡ length ds = omega arith in
    let some : 1 ≤ length ds = grind arith in
    let all : list_all is_ascii_digit ds ≡ true = rw take-length at (rw at_end at c.loop-digit.invariant.digits) in (
      record { all_digits = all; at_most_nine = c.if-digits-gt-MOST_DIGITS.false },
      some,
      all_stepped c.args.unit ds c.loop-digit.digit-index c.loop-digit.units c.loop-digit.weight c.loop-digit.invariant.step at_end,
    )

pub returns-clause-less : goal.returns-clause-less
returns-clause-less c = c.loop-digit.invariant.step.less
