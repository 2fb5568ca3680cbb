use Rattle.std.proofs.Common.{◌≡◌, ◌-◌, true, get_or, length, drop, length-drop, refl, rules, arith}
use Rattle.std.proofs.lemmas.List.{take_all}
use Rattle.std.specs.Char.{is_ascii_digit}
use Rattle.std.proofs.lemmas.List.Folds.{list_all_more}
use Rattle.flu_rows.proofs.Cuts.{more_digits, digit_below, front_digits}
use Rattle.flu_rows.proofs.cutting.cut_digits.Goals as goal

pub loop-count-preserved : goal.loop-count-preserved
loop-count-preserved c =
    let i = c.loop-count.count in
    let bytes = c.args.bytes.now in
    let so_far = c.loop-count.invariant in
    let digit : is_ascii_digit (get_or bytes i 0) ≡ true = search rules in
    let more = more_digits bytes i c.loop-count.number digit c.loop-count-test.true so_far.value in
    let below = digit_below (get_or bytes i 0) digit in
    record {
      value = grind arith;
      digits = rw (list_all_more is_ascii_digit bytes i 0 c.loop-count-test.true, so_far.digits, digit) refl;
      small = omega arith;
    }

pub returns-then-not-is_ascii_digit : goal.returns-then-not-is_ascii_digit
returns-then-not-is_ascii_digit c =
    let i = c.loop-count.count in
    let bytes = c.args.bytes.now in
    let so_far = c.loop-count.invariant in
    let behind = take_all (length bytes - i) (drop i bytes) (omega (arith, length-drop i bytes)) in
    record {
      value = rw behind (front_digits bytes i c.loop-count.number (omega arith) c.loop-count-test.true so_far.digits so_far.value);
      range = so_far.small;
    }
