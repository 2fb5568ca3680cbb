use Rattle.std.proofs.Common.{◌≡◌, ◌≤◌, ◌-◌}
use Rattle.std.specs.Prelude.{is_some}
use Rattle.std.specs.List.{filter, range_with_len}
use Rattle.flu_model.specs.Contents.{cell, key_count}
use Rattle.flu_cells.specs.Holding.{held}
use Rattle.flu_cells.proofs.state.State.keys.Given as goal

abbrev pub invariant-loop-key : goal.invariant-loop-key
invariant-loop-key l = (l.keys.items ≡ filter (λ k. is_some (held l.self (cell l.family k))) (range_with_len 0 l.from)) × (l.from ≤ key_count)

abbrev pub decreases-loop-key : goal.decreases-loop-key
decreases-loop-key l = key_count - l.from
