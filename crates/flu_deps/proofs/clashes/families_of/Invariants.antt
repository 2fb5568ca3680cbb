use Rattle.std.proofs.Common.{◌≡◌, length}
use Rattle.flu_deps.specs.LoopClashes.{HasFamiliesBelow}
use Rattle.flu_deps.proofs.clashes.families_of.Given as goal

abbrev pub invariant-loop-a : goal.invariant-loop-a
invariant-loop-a l = record {
  version : l.visit.version ≡ l.p.version;
  size : length l.families ≡ 64;
  below : HasFamiliesBelow l.p l.class l.families l.a;
}
