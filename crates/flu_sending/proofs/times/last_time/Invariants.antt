use Rattle.std.proofs.Common.{◌≡◌, max}
use Rattle.std.specs.List.{flat_map, range_with_len, reduce}
use Rattle.flu_model.specs.Listed.{listed}
use Rattle.flu_sending.specs.Lines.{times_of_itag}
use Rattle.flu_sending.proofs.times.last_time.Given as goal

abbrev pub invariant-loop-i : goal.invariant-loop-i
invariant-loop-i l = l.last ≡ reduce max (flat_map (times_of_itag l.p (listed l.streams)) (range_with_len 0 l.i))
