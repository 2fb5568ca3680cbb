use Rattle.std.proofs.Common.{◌≡◌, ◌-◌, length}
use Rattle.std.specs.Prelude.{◌==◌}
use Rattle.std.specs.List.{list_any}
use Rattle.flu_model.specs.Owners.{climb, is_within}
use Rattle.flu_deps.proofs.nodes.is_within.Given as goal

abbrev pub invariant-climb : goal.invariant-climb
invariant-climb l =
    list_any (λ u. u == l.w) (climb (length l.plan.nodes - l._climbed) l.plan.nodes l.at) ≡ is_within l.plan.nodes l.w l.v
