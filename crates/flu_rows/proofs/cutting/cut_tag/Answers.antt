use Rattle.std.proofs.Common.{◌≡◌, false, get_or, sym, rules, arith}
use Rattle.flu_rows.specs.LoopFields.{is_bare}
use Rattle.flu_rows.proofs.Cuts.{cuts_name, cuts_keyed}
use Rattle.flu_rows.proofs.FieldCuts.{behind_one, cons_is}
use Rattle.flu_rows.proofs.cutting.cut_tag.Goals as goal

pub returns-in_default-clause-value : goal.returns-in_default-clause-value
returns-in_default-clause-value c =
    let cut = c.in_ok-name in
    let ends : is_bare (get_or cut.rest.now 0 0) ≡ false = search rules in
    cuts_name c.args.bytes.now cut.name cut.rest.now (sym cut.ensures) ends

pub returns-clause-value : goal.returns-clause-value
returns-clause-value c =
    let cut = c.in_ok-name in
    let key = c.in_ok-key in
    let opens : get_or cut.rest.now 0 0 ≡ 91 = search rules in
    let closes : get_or key.rest.now 0 0 ≡ 93 = search rules in
    let ends : is_bare (get_or (behind_one key.rest.now) 0 0) ≡ false = search rules in
    cuts_keyed c.args.bytes.now cut.name cut.rest.now (behind_one cut.rest.now) key.key key.rest.now (behind_one key.rest.now) (sym cut.ensures)
    (cons_is 91 cut.rest.now (omega arith) opens) key.ensures.value (cons_is 93 key.rest.now (omega arith) closes) (omega arith) ends
