use Rattle.std.proofs.Common.{◌≡◌, ◌≤◌, ◌-◌}
use Rattle.std.specs.Prelude.{◌==◌, ◌&&◌, not}
use Rattle.flu_model.specs.Contents.{key_count}
use Rattle.flu_cells.specs.Holding.{held}
use Rattle.flu_cells.specs.Sets.{is_in, only}
use Rattle.flu_cells.proofs.NearLemmas.{IsClearBelow}
use Rattle.flu_cells.proofs.state.State.clear_family_but.Given as goal

abbrev pub invariant-loop-key : goal.invariant-loop-key
invariant-loop-key l =
    (only (λ c. not ((c.family == l.family) && not (is_in l.but c))) (held l.self)
    ≡ only (λ c. not ((c.family == l.family) && not (is_in l.but c))) (held l.initial.self))
    × IsClearBelow (only (λ c. not (is_in l.but c)) (held l.self)) l.family l.from × (l.from ≤ key_count)

abbrev pub decreases-loop-key : goal.decreases-loop-key
decreases-loop-key l = key_count - l.from
