use Rattle.std.proofs.Common.{◌≡◌, ◌+◌, drop}
use Rattle.flu_plan.specs.Numbering.{number_of}
use Rattle.flu_plan.proofs.numbering.number_of.Given as goal

abbrev pub invariant-loop-visit : goal.invariant-loop-visit
invariant-loop-visit l = (l.number ≡ l.visit-index) × (l.number + number_of (drop l.visit-index l.order) l.v ≡ number_of l.order l.v)
