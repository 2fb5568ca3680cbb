use Rattle.std.proofs.Common.{◌≡◌, length}
use Rattle.flu_thread_tests.proofs.arrivals.watch_all.Given as goal

abbrev pub invariant-loop : goal.invariant-loop
invariant-loop g l = record {
  can_next : (goal.iterator-loop g).can_next l.iterator';
  is_finite : (goal.iterator-loop g).is_finite l.iterator';
  two : length l.watch.limits ≡ 2;
}
