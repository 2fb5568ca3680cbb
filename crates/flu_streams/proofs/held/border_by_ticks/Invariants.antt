use Rattle.std.proofs.Common.{◌≡◌}
use Rattle.flu_streams.proofs.Ticking.{IsLowered}
use Rattle.flu_streams.proofs.held.border_by_ticks.Given as goal

abbrev pub invariant-loop-source : goal.invariant-loop-source
invariant-loop-source l = record {
  number : l.number ≡ l.source-index;
  lowered : IsLowered l.p l.rows l.above l.span l.fn.end l.source-index l.end;
}
