use Rattle.std.proofs.Common.{◌≡◌, ℕ, drop}
use Rattle.std.specs.Prelude.{◌==◌, ◌||◌}
use Rattle.std.specs.List.{list_any}
use Rattle.flu_plan.specs.Shape.{is_met}
use Rattle.flu_plan.proofs.shape.met.Given as goal

abbrev pub invariant-loop-visit : goal.invariant-loop-visit
invariant-loop-visit l = (v : ℕ) → (list_any (λ u. v == u) l.found.keys || is_met (drop l.visit-index l.order) v) ≡ is_met l.order v
