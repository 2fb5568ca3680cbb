use Rattle.std.proofs.Common.{◌≡◌, map}
use Rattle.std.specs.List.{range_with_len}
use Rattle.flu_gen.specs.DemoStreams.{ended, of_itag}
use Rattle.flu_gen.proofs.streams.lists_of.Given as goal

abbrev pub invariant-loop-itag : goal.invariant-loop-itag
invariant-loop-itag l = map (λ v. v.items) l.lists.items ≡ map (λ itag. ended (of_itag itag l.drawn.items)) (range_with_len 0 l.itag)
