use Rattle.std.proofs.Common.{◌≡◌}
use Rattle.flu_thread_tests.specs.Passing.{IsAbove}
use Rattle.flu_thread_tests.proofs.passing.takes.Given as goal

abbrev pub invariant-loop : goal.invariant-loop
invariant-loop g l = record {
  can_next : (goal.iterator-loop g).can_next l.iterator';
  is_finite : (goal.iterator-loop g).is_finite l.iterator';
  at : IsAbove l.up;
  link : l.up.link ≡ l.fn.up.link;
}
