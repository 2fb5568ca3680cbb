use Rattle.std.proofs.Common.{sym, ap, ◌∙◌, ◌<◌, length, arith}
use Rattle.std.proofs.lemmas.List.{get_or_default}
use Rattle.flu_model.specs.Listed.{listed}
use Rattle.flu_model.specs.Merging.{merged, events_of}
use Rattle.flu_streams.specs.Counts.{counted_on}
use Rattle.flu_adaptive.proofs.Events.{counted_in_list}
use Rattle.flu_adaptive.proofs.Growing.{one_more, all_grown}
use Rattle.flu_adaptive.proofs.counting.count_events.Goals as goal

pub loop-number-preserved : goal.loop-number-preserved
loop-number-preserved c =
    let lists = listed c.args.s.now in
    let number = c.loop-number.number in
    let counts = c.loop-number.counts.items in
    let lt : number < length counts = omega (
      arith,
      c.loop-number-test.true,
      c.itag_count-number-end.ensures,
      c.requires.one_each,
      c.loop-number.invariant.len,
      c.args.counts.now.ok,
    ) in
    let was = c.index_mut-count.ensures.value ∙ get_or_default counts number c.index_mut-count.result.now 0 lt in
    one_more number (merged lists) c.args.counts.now.items counts c.saturating_add.result c.event_count-events.result c.loop-number.invariant lt
    (c.saturating_add.ensures ∙ ap (λ count. counted_on count c.event_count-events.result) was)
    (c.event_count-events.ensures ∙ ap (λ items. length (events_of items)) c.items.ensures ∙ sym (counted_in_list lists number c.args.s.now.good))

pub returns : goal.returns
returns c =
    all_grown c.loop-number.number (merged (listed c.args.s.now)) c.args.counts.now.items c.loop-number.counts.items c.loop-number.invariant
    (omega (arith, c.loop-number-test.false, c.loop-number.auto.number-end, c.itag_count-number-end.ensures, c.requires.one_each, c.args.counts.now.ok))
