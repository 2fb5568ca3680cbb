use Rattle.std.proofs.Common.{◌≡◌, ℕ, Some, length}
use Rattle.std.specs.Prelude.{slice_get}
use Rattle.flu_deps.specs.Validated.{plan_of}
use Rattle.flu_tables.specs.declared.shares.Share.{Share}
use Rattle.flu_tables.specs.LoopShares.{IsShareOf}
use Rattle.flu_tables.proofs.shares.shares.Given as goal

abbrev pub invariant-loop-w : goal.invariant-loop-w
invariant-loop-w l = record {
  so_many : length l.shares.items ≡ l.w;
  of_nodes : (w : ℕ) (share : Share) → slice_get l.shares.items w ≡ Some share → IsShareOf l.p (plan_of l.v).nodes w share;
}
