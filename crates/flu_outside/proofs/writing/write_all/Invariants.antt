use Rattle.std.proofs.Common.{◌≡◌, ◌≤◌, ◌++◌, length}
use Rattle.flu_outside.specs.Outside.{WhereTold}
use Rattle.flu_outside.proofs.writing.write_all.Given as goal

abbrev pub invariant-loop-rest : goal.invariant-loop-rest
invariant-loop-rest g l = record {
  told : WhereTold (g.K.Sink.taken l.fn.out) (g.K.Sink.taken l.out) (λ old new. new ++ l.rest ≡ old ++ l.bytes);
  size : length l.rest ≤ length l.bytes;
  quiet : g.K.Sink.faults l.out ≡ g.K.Sink.faults l.fn.out;
}

abbrev pub decreases-loop-rest : goal.decreases-loop-rest
decreases-loop-rest g l = length l.rest
