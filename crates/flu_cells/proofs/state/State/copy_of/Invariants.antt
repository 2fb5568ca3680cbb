use Rattle.std.proofs.Common.{◌≡◌}
use Rattle.std.specs.Prelude.{◌&&◌, not}
use Rattle.flu_cells.specs.Entries.{overlay}
use Rattle.flu_cells.specs.Holding.{held}
use Rattle.flu_cells.specs.Sets.{is_in, is_in_but, only}
use Rattle.flu_cells.proofs.Parting.{in_families, in_cells}
use Rattle.flu_cells.proofs.state.State.copy_of.Given as goal

abbrev pub invariant-loop-family : goal.invariant-loop-family
invariant-loop-family l =
    overlay (held l.copy) (only (λ c. in_families l.family-iterator c && not (is_in l.but c)) (held l.self))
    ≡ only (λ c. in_families l.wanted.whole.keys c && not (is_in l.but c)) (held l.self)

abbrev pub invariant-loop-cell : goal.invariant-loop-cell
invariant-loop-cell l = overlay (held l.copy) (only (in_cells l.cell-iterator) (held l.self)) ≡ only (is_in_but l.but l.wanted) (held l.self)
