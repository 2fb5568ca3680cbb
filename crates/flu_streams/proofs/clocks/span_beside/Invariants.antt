use Rattle.std.proofs.Common.{◌++◌, ℕ, List, length, take}
use Rattle.flu_model.specs.Moments.{end_of_times}
use Rattle.flu_streams.specs.LoopClocks.{HasSpan, IsEarly}
use Rattle.flu_streams.proofs.clocks.span_beside.Given as goal

abbrev pub invariant-loop-rank : goal.invariant-loop-rank
invariant-loop-rank l =
    ((ranks : List ℕ) → HasSpan l.fn.span ranks → HasSpan l.span (take l.rank-index l.beside ++ ranks))
    × IsEarly (length l.p.sources) (end_of_times l.p) l.span
