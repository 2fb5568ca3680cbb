use Rattle.std.proofs.Common.{◌≡◌, false, sym, ◌∙◌, rules}
use Rattle.flu_names.specs.LoopReserved.{may_be_reserved}
use Rattle.flu_names.proofs.ReservedWords.{not_reserved}
use Rattle.flu_names.proofs.is_reserved.Goals as goal

pub returns-else-may_be_reserved : goal.returns-else-may_be_reserved
returns-else-may_be_reserved c =
    let none : may_be_reserved c.args.bytes.now ≡ false = search rules in
    let is : c.may_be_reserved.result ≡ false = search rules in
    is ∙ sym (not_reserved c.args.bytes.now none)
