use Rattle.std.proofs.Common.{◌≡◌, ℕ, ◌≤◌, ◌++◌, List, true, take, drop, vec_len}
use Rattle.std.specs.Prelude.{sum_by}
use Rattle.flu_model.specs.Itags.{count_of_itags}
use Rattle.flu_model.specs.Streaming.{are_streams}
use Rattle.flu_rows.specs.declared.row.Row.{Row}
use Rattle.flu_streams.specs.Clocks.{Declared, ranks_among}
use Rattle.flu_streams.specs.LoopGathering.{HasRows}
use Rattle.flu_streams.specs.Lists.{lists_in}
use Rattle.flu_streams.specs.Tags.{width}
use Rattle.flu_streams.proofs.TickLists.{AreTicked}
use Rattle.flu_streams.proofs.reading.with_ticks.Given as goal

abbrev pub invariant-loop-source : goal.invariant-loop-source
invariant-loop-source l =
    let earlier = take l.source-index l.p.sources in
    record {
      number : l.number ≡ l.source-index;
      first : l.first ≡ sum_by width earlier;
      few : l.held ≤ 16777216;
      len : vec_len l.lists ≡ count_of_itags l.p;
      streams : are_streams 0 (lists_in l.lists) ≡ true;
      ticked : (beside : List ℕ) (rows : Declared → List Row) → HasRows l.p beside l.fn.gathered rows
          → AreTicked l.p (beside ++ ranks_among l.p rows) rows earlier (drop l.source-index l.p.sources) l.fn.gathered.held l.held (lists_in l.lists);
    }
