use Rattle.std.proofs.Common.{◌≡◌, ◌<◌, ℕ, false, length}
use Rattle.std.specs.Prelude.{slice_index_or}
use Rattle.flu_deps.specs.Validated.{plan_of}
use Rattle.flu_apart.specs.Classes.{inside}
use Rattle.flu_apart.proofs.classes.insides_of.Given as goal

abbrev pub invariant-loop-i : goal.invariant-loop-i
invariant-loop-i l =
    (length l.insides ≡ 256) × ((k : ℕ) → k < l.i → slice_index_or l.insides k false ≡ inside l.p (plan_of l.v).nodes l.w k)
