use Rattle.std.proofs.Common.{◌≡◌, false, get_or, rules, arith}
use Rattle.flu_rows.specs.LoopFields.{is_bare}
use Rattle.flu_rows.proofs.Cuts.{cuts_digits, cuts_minus}
use Rattle.flu_rows.proofs.FieldCuts.{behind_one, cons_is}
use Rattle.flu_rows.proofs.cutting.cut_number.Goals as goal

pub returns-in-45 : goal.returns-in-45
returns-in-45 c =
    let bytes = c.args.bytes.now in
    let cut = c.in_ok-size in
    let number = c.number_below_zero in
    let minus : get_or bytes 0 0 ≡ 45 = search rules in
    let ends : is_bare (get_or cut.rest.now 0 0) ≡ false = search rules in
    rw (number.ensures.item, number.ensures.value)
    (cuts_minus bytes (behind_one bytes) cut.size cut.rest.now (cons_is 45 bytes (omega arith) minus) cut.ensures.value cut.ensures.range ends)

pub returns : goal.returns
returns c =
    let cut = c.in_ok-size-2 in
    let number = c.number_from_zero in
    let ends : is_bare (get_or cut.rest.now 0 0) ≡ false = search rules in
    rw (number.ensures.item, number.ensures.value) (cuts_digits c.args.bytes.now cut.size cut.rest.now cut.ensures.value cut.ensures.range ends)
