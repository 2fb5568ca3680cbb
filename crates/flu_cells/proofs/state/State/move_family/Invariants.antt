use Rattle.std.proofs.Common.{◌≤◌, ◌-◌}
use Rattle.std.specs.Prelude.{◌==◌, not}
use Rattle.flu_model.specs.Contents.{key_count}
use Rattle.flu_cells.specs.Entries.{overlay}
use Rattle.flu_cells.specs.Holding.{held}
use Rattle.flu_cells.specs.Sets.{only, Moves}
use Rattle.flu_cells.proofs.NearLemmas.{IsClearBelow}
use Rattle.flu_cells.proofs.state.State.move_family.Given as goal

abbrev pub invariant-loop-key : goal.invariant-loop-key
invariant-loop-key l =
    Moves (λ c. c.family == l.family) (held l.self) (only (λ c. not (c.family == l.family)) (held l.initial.self)) (held l.other)
    (overlay (held l.initial.other) (only (λ c. c.family == l.family) (held l.initial.self)))
    × IsClearBelow (held l.self) l.family l.from × (l.from ≤ key_count)

abbrev pub decreases-loop-key : goal.decreases-loop-key
decreases-loop-key l = key_count - l.from
