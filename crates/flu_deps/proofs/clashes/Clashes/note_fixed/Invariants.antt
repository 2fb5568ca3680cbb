use Rattle.std.proofs.Common.{◌≡◌, ◌<◌, ℕ, length}
use Rattle.flu_deps.specs.LoopClashes.{IsFixedNoted, KeepsClashes}
use Rattle.flu_deps.proofs.clashes.Clashes.note_fixed.Given as goal

abbrev pub invariant-loop-j : goal.invariant-loop-j
invariant-loop-j l =
    (length l.self.fixed ≡ 256) × KeepsClashes l.fn.self l.self × ((k : ℕ) → k < l.j → IsFixedNoted l.p l.marks l.meeting l.a l.b l.self k)
