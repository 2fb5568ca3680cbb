use Rattle.std.proofs.Common.{ℕ, ◌<◌}
use Rattle.std.specs.Prelude.{IfSome}
use Rattle.flu_model.specs.Itags.{tag_of_itag}
use Rattle.flu_check.specs.LoopFound.{tag_at, IsFound, KeepsPassed, PassesPair}
use Rattle.flu_check.proofs.search.first_of_tag.Given as goal

abbrev pub invariant-loop-j : goal.invariant-loop-j
invariant-loop-j l =
    (IfSome l.found (IsFound l.p)) × (KeepsPassed l.fn.found l.found)
    × ((k : ℕ) → k < l.j → PassesPair l.p (tag_of_itag l.p l.i) (tag_at l.p k) l.found)
