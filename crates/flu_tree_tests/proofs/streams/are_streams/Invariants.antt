use Rattle.std.proofs.Common.{◌≡◌, drop, map}
use Rattle.flu_model.specs.Streaming.{are_streams}
use Rattle.flu_tree_tests.proofs.streams.are_streams.Given as goal

abbrev pub invariant-loop-items : goal.invariant-loop-items
invariant-loop-items l =
    (l.itag ≡ l.items-index) × (are_streams l.itag (map (λ v. v.items) (drop l.items-index l.lists)) ≡ are_streams 0 (map (λ v. v.items) l.lists))
