use Rattle.std.proofs.Common.{◌≡◌, drop}
use Rattle.std.specs.Prelude.{◌==◌, ◌&&◌, not}
use Rattle.flu_cells.specs.Entries.{overlay}
use Rattle.flu_cells.specs.Holding.{held}
use Rattle.flu_cells.specs.Sets.{is_in, only}
use Rattle.flu_cells.proofs.Parting.{has_key}
use Rattle.flu_cells.proofs.state.State.copy_family.Given as goal

abbrev pub invariant-loop-key : goal.invariant-loop-key
invariant-loop-key l =
    overlay (held l.self) (only (λ c. (c.family == l.family) && has_key (drop l.key-index l.key-items) c.key && not (is_in l.but c)) (held l.other))
    ≡ overlay (held l.initial.self) (only (λ c. (c.family == l.family) && not (is_in l.but c)) (held l.other))
