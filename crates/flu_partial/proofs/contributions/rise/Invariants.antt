use Rattle.std.proofs.Common.{◌≡◌, None, drop}
use Rattle.flu_partial.specs.Partial.{rise}
use Rattle.flu_partial.proofs.contributions.rise.Given as goal

abbrev pub invariant-loop-amount : goal.invariant-loop-amount
invariant-loop-amount l = rise None l.amounts ≡ rise l.last (drop l.amount-index l.amounts)
