use Rattle.std.proofs.Common.{◌≡◌, ◌<◌, ℕ, false, length}
use Rattle.std.specs.Prelude.{slice_index_or}
use Rattle.flu_deps.specs.Validated.{plan_of}
use Rattle.flu_contribution.specs.Sharing.{is_itag_of_none}
use Rattle.flu_joining.proofs.table.of_none.Given as goal

abbrev pub invariant-loop-i : goal.invariant-loop-i
invariant-loop-i l =
    (length l.table ≡ 256)
    × ((k : ℕ) → k < l.i → slice_index_or l.table k false ≡ is_itag_of_none l.p (plan_of l.v).nodes l.nodes_apart k)
