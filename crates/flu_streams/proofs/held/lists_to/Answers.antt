use Rattle.std.proofs.Common.{◌≡◌, ◌+◌, ◌<◌, ◌≤◌, List, ◌++◌, ◌∷◌, [], Some, length, map, take, vec_len, refl, sym, ap, ◌∙◌, arith}
use Rattle.std.specs.Prelude.{slice_get, sum_by}
use Rattle.std.proofs.lemmas.Grind.{common_steps}
use Rattle.std.proofs.lemmas.List.{length-map, map-append, take_all}
use Rattle.std.proofs.lemmas.List.Elements.{All-append}
use Rattle.std.proofs.lemmas.List.Sums.{sum_by-append}
use Rattle.std.proofs.lemmas.Option.{slice_get_read}
use Rattle.flu_model.specs.declared.events.Item.{Item}
use Rattle.flu_streams.specs.Holding.{most_held}
use Rattle.flu_streams.specs.Lists.{lists_in}
use Rattle.flu_streams.specs.LoopClocks.{span_of}
use Rattle.flu_streams.specs.Tags.{width}
use Rattle.flu_streams.proofs.Cuts.{lists_first, lists_more, own_of, streams_both}
use Rattle.flu_streams.proofs.Gatherings.{total_width}
use Rattle.flu_streams.proofs.Rounding.{source_at}
use Rattle.flu_streams.proofs.Ticking.{few_in_span}
use Rattle.flu_streams.proofs.Turns.{turn}
use Rattle.flu_streams.proofs.held.lists_to.Goals as goal

pub overflow_cast-first : goal.overflow_cast-first
overflow_cast-first c =
    let t = turn c.args.p.now c.items-source-items.result.now c.loop-source.source-index c.source-item.result c.items-source-items.ensures
    c.loop-source-test.true c.source-item.is in
    omega (arith, t.narrow, c.loop-source.invariant.len, c.len-first.ensures)

pub lists_of_one-requires-clause-source : goal.lists_of_one-requires-clause-source
lists_of_one-requires-clause-source c =
    ap (slice_get c.args.p.now.sources) c.loop-source.invariant.number
    ∙ source_at c.args.p.now c.items-source-items.result.now c.loop-source.source-index c.source-item.result c.items-source-items.ensures c.loop-source-test.true
    c.source-item.is

pub lists_of_one-requires-clause-narrow : goal.lists_of_one-requires-clause-narrow
lists_of_one-requires-clause-narrow c =
    let t = turn c.args.p.now c.items-source-items.result.now c.loop-source.source-index c.source-item.result c.items-source-items.ensures
    c.loop-source-test.true c.source-item.is in
    omega (arith, t.narrow, c.loop-source.invariant.len, c.len-first.ensures)

pub lists_of_one-requires-clause-few : goal.lists_of_one-requires-clause-few
lists_of_one-requires-clause-few c =
    let p = c.args.p.now in
    let n = c.loop-source.number in
    let s = c.source-item.result in
    let here : slice_get p.sources n ≡ Some s = ap (slice_get p.sources) c.loop-source.invariant.number
    ∙ source_at p c.items-source-items.result.now c.loop-source.source-index s c.items-source-items.ensures c.loop-source-test.true c.source-item.is in
    few_in_span p 4096 c.args.above c.span_for_clocks-span.result (span_of p c.args.inlets.now) c.args.end n s here c.span_for_clocks-span.ensures.span
    c.requires.few

pub lists_of_one-requires-clause-timed : goal.lists_of_one-requires-clause-timed
lists_of_one-requires-clause-timed c =
    let n = c.loop-source.number in
    let h = c.index-inlets-number.result in
    let inv = c.loop-source.invariant in
    let lt : n < length c.args.inlets.now = omega (arith, inv.number, c.requires.count, c.loop-source-test.true, ap length c.items-source-items.ensures) in
    let is : slice_get c.args.inlets.now n ≡ Some h = slice_get_read c.args.inlets.now (length c.args.inlets.now) n h refl lt c.index-inlets-number.is in
    c.requires.timed n h is

pub lists_of_one-requires-clause-caught : goal.lists_of_one-requires-clause-caught
lists_of_one-requires-clause-caught c =
    let n = c.loop-source.number in
    let h = c.index-inlets-number.result in
    let inv = c.loop-source.invariant in
    let lt : n < length c.args.inlets.now = omega (arith, inv.number, c.requires.count, c.loop-source-test.true, ap length c.items-source-items.ensures) in
    let is : slice_get c.args.inlets.now n ≡ Some h = slice_get_read c.args.inlets.now (length c.args.inlets.now) n h refl lt c.index-inlets-number.is in
    c.requires.caught n h is

pub lists_of_one-requires-clause-uncounted : goal.lists_of_one-requires-clause-uncounted
lists_of_one-requires-clause-uncounted c =
    let n = c.loop-source.number in
    let h = c.index-inlets-number.result in
    let inv = c.loop-source.invariant in
    let lt : n < length c.args.inlets.now = omega (arith, inv.number, c.requires.count, c.loop-source-test.true, ap length c.items-source-items.ensures) in
    let is : slice_get c.args.inlets.now n ≡ Some h = slice_get_read c.args.inlets.now (length c.args.inlets.now) n h refl lt c.index-inlets-number.is in
    c.requires.uncounted n h is

pub loop-source-preserved : goal.loop-source-preserved
loop-source-preserved c =
    let i = c.loop-source.source-index in
    let n = c.loop-source.number in
    let p = c.args.p.now in
    let s = c.source-item.result in
    let h = c.index-inlets-number.result in
    let inv = c.loop-source.invariant in
    let lists = c.loop-source.lists in
    let own = c.in_ok-own.own in
    let end = c.args.end in
    let above = c.args.above in
    let inlets = c.args.inlets.now in
    let earlier = take i p.sources in
    let first = c.len-first.result in
    let t = turn p c.items-source-items.result.now i s c.items-source-items.ensures c.loop-source-test.true c.source-item.is in
    let at : slice_get p.sources i ≡ Some s =
    source_at p c.items-source-items.result.now i s c.items-source-items.ensures c.loop-source-test.true c.source-item.is in
    let lt : n < length inlets = omega (arith, inv.number, c.requires.count, c.loop-source-test.true, ap length c.items-source-items.ensures) in
    let is : slice_get inlets n ≡ Some h = slice_get_read inlets (length inlets) n h refl lt c.index-inlets-number.is in
    let here : slice_get inlets i ≡ Some h = ap (slice_get inlets) (sym inv.number) ∙ is in
    let one : sum_by width (take (i + 1) p.sources) ≡ sum_by width earlier + width s =
    ap (sum_by width) t.more ∙ sum_by-append width earlier (s ∷ []) ∙ omega arith in
    let more : c.append.new.self.items ≡ lists.items ++ own.items = grind (arith, common_steps) in
    let len : vec_len c.append.new.self ≡ vec_len lists + vec_len own = grind (arith, common_steps) in
    let both : lists_in c.append.new.self ≡ lists_in lists ++ lists_in own = ap (map (λ v. v.items)) more ∙ map-append (λ v. v.items) lists.items own.items in
    let size : length (lists_in lists) ≡ first = simp length-map (omega (arith, lists.ok.0, c.len-first.ensures)) in
    let from : first ≡ sum_by width earlier = c.len-first.ensures ∙ inv.len in
    record {
      number = omega (arith, inv.number);
      len = omega (arith, len, one, inv.len, c.in_ok-own.ensures.len);
      few = rw both (All-append (λ (items : List Item). length items ≤ most_held p + 1) (lists_in lists) (lists_in own) inv.few c.in_ok-own.ensures.few);
      streams = rw both (streams_both (lists_in lists) (lists_in own) first size inv.streams c.in_ok-own.ensures.streams);
      lists = λ lines behind.
          both ∙ lists_more p above end lines earlier s (lists_in lists) (lists_in own) (inv.lists lines behind)
          (own_of p above end lines inlets i n first s h c.span_for_clocks-span.result (lists_in own) (sym t.size) inv.number at from here c.requires.count
          c.span_for_clocks-span.ensures.span behind c.in_ok-own.ensures.ticks c.in_ok-own.ensures.rows)
          ∙ ap (lists_first p above end lines) (sym t.more);
    }

pub returns-clause-len : goal.returns-clause-len
returns-clause-len c =
    let p = c.args.p.now in
    let all : take c.loop-source.source-index p.sources ≡ p.sources =
    take_all c.loop-source.source-index p.sources (omega (arith, ap length c.items-source-items.ensures)) in
    c.loop-source.invariant.len ∙ ap (sum_by width) all ∙ sym (total_width 0 p.sources)

pub returns-clause-lists : goal.returns-clause-lists
returns-clause-lists c lines behind =
    let p = c.args.p.now in
    let all : take c.loop-source.source-index p.sources ≡ p.sources =
    take_all c.loop-source.source-index p.sources (omega (arith, ap length c.items-source-items.ensures)) in
    c.loop-source.invariant.lists lines behind ∙ ap (lists_first p c.args.above c.args.end lines) all
