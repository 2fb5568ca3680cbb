use Rattle.std.proofs.Common.{◌≡◌, ℕ, Some, length}
use Rattle.std.specs.Prelude.{slice_get}
use Rattle.flu_deps.specs.Validated.{plan_of}
use Rattle.flu_fork.specs.declared.rights.Right.{Right}
use Rattle.flu_fork.specs.Tables.{IsRightAt}
use Rattle.flu_fork.proofs.rights.rights.Given as goal

abbrev pub invariant-loop-w : goal.invariant-loop-w
invariant-loop-w l = record {
  so_many : length l.tables.items ≡ l.w;
  right : (w : ℕ) (table : Right) → slice_get l.tables.items w ≡ Some table → IsRightAt l.p (plan_of l.v).nodes w table;
}
