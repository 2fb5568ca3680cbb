use Rattle.std.proofs.Common.{◌≡◌, ◌<◌, ◌≤◌, ◌-◌, ℕ, Some, None}
use Rattle.flu_model.specs.declared.events.Cell.{Cell}
use Rattle.flu_model.specs.declared.events.Worth.{Worth}
use Rattle.flu_model.specs.Contents.{join}
use Rattle.flu_dense.specs.Holding.{value_at}
use Rattle.flu_cells.specs.Entries.{near_held}
use Rattle.flu_cells.specs.Holding.{held}
use Rattle.flu_cells.proofs.state.State.absorb_near.Given as goal

abbrev pub invariant-loop-slot : goal.invariant-loop-slot
invariant-loop-slot l =
    (join (held l.self) (near_held l.near) ≡ join (held l.initial.self) (near_held l.initial.near))
    × ((c : Cell) (w : Worth) → near_held l.near c ≡ Some w → near_held l.initial.near c ≡ Some w)
    × ((s : ℕ) → s < l.from → value_at l.near s ≡ None)
    × (l.from ≤ 4096)

abbrev pub decreases-loop-slot : goal.decreases-loop-slot
decreases-loop-slot l = 4096 - l.from
