use Rattle.std.proofs.Common.{◌≡◌, ◌<◌, ◌≤◌, ℕ, length}
use Rattle.std.specs.Prelude.{slice_index}
use Rattle.flu_run.proofs.feeding.feed_all.Given as goal

abbrev pub invariant-loop-i : goal.invariant-loop-i
invariant-loop-i l = record {
  limits : l.feeder.limits ≡ l.fn.feeder.limits;
  long : length l.feeder.counts ≡ length l.fn.feeder.counts;
  behind : (j : ℕ) → j < l.i → slice_index l.feeder.counts j ≡ slice_index l.fn.feeder.limits j;
  ahead : (j : ℕ) → l.i ≤ j → slice_index l.feeder.counts j ≡ 0;
}
