use Rattle.std.proofs.Common.{◌≡◌, ◌<◌, ℕ, false}
use Rattle.flu_model.specs.Owners.{owns}
use Rattle.flu_valid.proofs.owners.next_owner.Given as goal

abbrev pub invariant-loop-b : goal.invariant-loop-b
invariant-loop-b l = (w : ℕ) → l.a < w → w < l.b → owns l.p l.plan.nodes w l.i ≡ false
