use Rattle.std.proofs.Common.{◌≡◌, false, get_or, rules, arith}
use Rattle.flu_rows.specs.LoopFields.{is_bare}
use Rattle.flu_rows.proofs.Cuts.{cuts_time}
use Rattle.flu_rows.proofs.cutting.cut_time.Goals as goal

pub returns-clause-value : goal.returns-clause-value
returns-clause-value c =
    let cut = c.in_ok-time in
    let ends : is_bare (get_or cut.rest.now 0 0) ≡ false = search rules in
    cuts_time c.args.form.now c.args.bytes.now cut.time cut.rest.now cut.ensures.value (omega arith) ends
