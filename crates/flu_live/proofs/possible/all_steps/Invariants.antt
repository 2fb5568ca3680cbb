use Rattle.std.proofs.Common.{◌≡◌, ◌++◌, length, map}
use Rattle.std.specs.List.{flat_map, range_with_len}
use Rattle.flu_model.specs.Itags.{count_of_itags}
use Rattle.flu_fork.specs.Lots.{job, nodes}
use Rattle.flu_live.specs.Possible.{arrival, steps_of}
use Rattle.flu_live.proofs.possible.all_steps.Given as goal

abbrev pub invariant-loop-w : goal.invariant-loop-w
invariant-loop-w l =
    (l.w-end ≡ length (nodes l.case))
    × (l.steps.items ≡ map arrival (range_with_len 0 (count_of_itags (job l.case))) ++ flat_map steps_of (range_with_len 0 l.w))
