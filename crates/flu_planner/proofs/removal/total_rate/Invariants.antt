use Rattle.std.proofs.Common.{◌≡◌, ◌≤◌, ◌+◌, ◌*◌, drop}
use Rattle.flu_planner.specs.Graphs.{total_rate}
use Rattle.flu_planner.proofs.removal.total_rate.Given as goal

abbrev pub invariant-loop-i : goal.invariant-loop-i
invariant-loop-i l = record {
  room : l.total ≤ 18446744073709551615 * l.i-index;
  rest : l.total + total_rate l.rates (drop l.i-index l.itags) ≡ total_rate l.rates l.itags;
}
