use Rattle.std.proofs.Common.{◌≡◌, ℕ, List, true, take, vec_len}
use Rattle.std.specs.Prelude.{sum_by}
use Rattle.flu_model.specs.Streaming.{are_streams}
use Rattle.flu_rows.specs.declared.rows.Next.{Next}
use Rattle.flu_streams.specs.Holding.{HaveAtMost, most_held}
use Rattle.flu_streams.specs.Lists.{lists_in}
use Rattle.flu_streams.specs.LoopHeld.{AreBehind}
use Rattle.flu_streams.specs.Tags.{width}
use Rattle.flu_streams.proofs.Cuts.{lists_first}
use Rattle.flu_streams.proofs.held.lists_to.Given as goal

abbrev pub invariant-loop-source : goal.invariant-loop-source
invariant-loop-source l = record {
  number : l.number ≡ l.source-index;
  len : vec_len l.lists ≡ sum_by width (take l.source-index l.p.sources);
  few : HaveAtMost (most_held l.p) (lists_in l.lists);
  streams : are_streams 0 (lists_in l.lists) ≡ true;
  lists : (lines : ℕ → List Next) → AreBehind l.p l.above lines l.inlets
      → lists_in l.lists ≡ lists_first l.p l.above l.fn.end lines (take l.source-index l.p.sources);
}
