use Rattle.std.proofs.Common.{◌≡◌, drop}
use Rattle.flu_model.specs.Streaming.{is_stream_from}
use Rattle.flu_tree_tests.proofs.streams.is_stream.Given as goal

abbrev pub invariant-loop-at : goal.invariant-loop-at
invariant-loop-at l = is_stream_from l.itag l.low (drop l.at l.items) ≡ is_stream_from l.itag 0 l.items
