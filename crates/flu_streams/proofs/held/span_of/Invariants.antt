use Rattle.std.proofs.Common.{◌≡◌, drop, length}
use Rattle.flu_model.specs.Moments.{end_of_times}
use Rattle.flu_streams.specs.LoopClocks.{IsEarly, span_from, span_of}
use Rattle.flu_streams.proofs.held.span_of.Given as goal

abbrev pub invariant-loop-inlet : goal.invariant-loop-inlet
invariant-loop-inlet l = record {
  number : l.number ≡ l.inlet-index;
  span : span_from (length l.p.sources) l.inlet-index l.span (drop l.inlet-index l.inlets) ≡ span_of l.p l.inlets;
  early : IsEarly (length l.p.sources) (end_of_times l.p) l.span;
}
