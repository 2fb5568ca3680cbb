use Rattle.std.proofs.Common.{◌≡◌, ◌<◌, ℕ, true}
use Rattle.std.specs.List.{list_all}
use Rattle.flu_deps.specs.LoopVisits.{action_all}
use Rattle.flu_deps.specs.LoopClashes.{kind_actions, marked_test, IsDone, KeepsClashes}
use Rattle.flu_deps.proofs.clashes.Clashes.note_kind.Given as goal

abbrev pub invariant-loop-b : goal.invariant-loop-b
invariant-loop-b l = record {
  version : l.visit.version ≡ l.p.version;
  marked : list_all (action_all (marked_test l.p.version l.one l.visit.marks)) (kind_actions l.p l.a) ≡ true;
  kept : KeepsClashes l.fn.self l.self;
  done : (b : ℕ) → b < l.b → IsDone l.p l.one l.other l.a b l.self;
}
