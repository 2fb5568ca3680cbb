use Rattle.std.proofs.Common.{◌≡◌, ◌<◌, ℕ, length}
use Rattle.flu_deps.specs.LoopClashes.{IsDone, KeepsClashes}
use Rattle.flu_deps.proofs.clashes.Clashes.note.Given as goal

abbrev pub invariant-loop-a : goal.invariant-loop-a
invariant-loop-a l = record {
  version : l.visit.version ≡ l.p.version;
  kept : KeepsClashes l.fn.self l.self;
  done : (a : ℕ) → a < l.a → (b : ℕ) → b < length l.p.kinds → IsDone l.p l.one l.other a b l.self;
}
