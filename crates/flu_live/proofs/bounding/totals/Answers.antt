use Rattle.std.proofs.Common.{◌≡◌, [], length, ap, ◌∙◌, arith}
use Rattle.std.specs.Prelude.{slice_index_or}
use Rattle.flu_model.specs.Listed.{listed}
use Rattle.flu_model.specs.Merging.{events_of as events_among}
use Rattle.flu_net.specs.Measure.{events_of, items_of}
use Rattle.flu_live.proofs.Bounds.{total_more}
use Rattle.flu_live.proofs.bounding.totals.Goals as goal

pub loop-i-preserved : goal.loop-i-preserved
loop-i-preserved c =
    let k = c.args.case.now in
    let stream : c.items-stream.result.now ≡ slice_index_or (listed k.streams) c.loop-i.i [] =
    c.items-stream.ensures ∙ ap (λ s. slice_index_or (listed s) c.loop-i.i []) c.streams.ensures in
    record {
      end = c.loop-i.invariant.end;
      items = total_more (items_of k) c.loop-i.i c.loop-i.items (length c.items-stream.result.now) c.loop-i.invariant.items (ap length stream);
      events =
          total_more (events_of k) c.loop-i.i c.loop-i.events c.count_events.result c.loop-i.invariant.events
          (c.count_events.ensures ∙ ap (λ l. length (events_among l)) stream);
      few_items = omega (arith, c.loop-i.invariant.few_items);
      few_events = omega (arith, c.loop-i.invariant.few_events);
    }

pub returns-clause-few : goal.returns-clause-few
returns-clause-few c =
    let few = c.args.case.now.checked.program.few_itags in
    (omega (arith, few, c.loop-i.invariant.few_items, c.loop-i.invariant.end), omega (arith, few, c.loop-i.invariant.few_events, c.loop-i.invariant.end))
