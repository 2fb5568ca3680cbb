use Rattle.std.proofs.Common.{◌≡◌}
use Rattle.flu_thread_tests.specs.Passing.{IsBelow}
use Rattle.flu_thread_tests.proofs.passing.hears.Given as goal

abbrev pub invariant-loop : goal.invariant-loop
invariant-loop g l = record {
  can_next : (goal.iterator-loop g).can_next l.iterator';
  is_finite : (goal.iterator-loop g).is_finite l.iterator';
  at : IsBelow l.low;
  link : l.low.link ≡ l.fn.low.link;
  case : l.low.case ≡ l.fn.low.case;
  held : l.low.held ≡ l.fn.low.held;
}
