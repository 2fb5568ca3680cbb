use Rattle.std.proofs.Common.{◌≡◌}
use Rattle.std.specs.Prelude.{◌&&◌, not}
use Rattle.flu_cells.specs.Holding.{held}
use Rattle.flu_cells.specs.Sets.{is_in, is_in_but, only}
use Rattle.flu_cells.proofs.Parting.{in_families, in_cells}
use Rattle.flu_cells.proofs.state.State.clear_all.Given as goal

abbrev pub invariant-loop-family : goal.invariant-loop-family
invariant-loop-family l =
    only (λ c. not (in_families l.family-iterator c && not (is_in l.but c))) (held l.self)
    ≡ only (λ c. not (in_families l.unwanted.whole.keys c && not (is_in l.but c))) (held l.fn.self)

abbrev pub invariant-loop-cell : goal.invariant-loop-cell
invariant-loop-cell l = only (λ c. not (in_cells l.cell-iterator c)) (held l.self) ≡ only (λ c. not (is_in_but l.but l.unwanted c)) (held l.fn.self)
