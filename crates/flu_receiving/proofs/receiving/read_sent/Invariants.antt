use Rattle.std.proofs.Common.{◌+◌, ◌≤◌, length}
use Rattle.flu_receiving.proofs.Steps.{HaveCome, AreFaults}
use Rattle.flu_receiving.proofs.receiving.read_sent.Given as goal

abbrev pub invariant-lines : goal.invariant-lines
invariant-lines l = record {
  came : HaveCome l.p l.fn.bytes l.rest l.lines l.sent.items l.last;
  faults : AreFaults l.p l.fn.bytes l.number l.lines l.rest;
  few : l.number + length l.rest ≤ length l.fn.bytes + 2;
}

abbrev pub decreases-lines : goal.decreases-lines
decreases-lines l = length l.rest
