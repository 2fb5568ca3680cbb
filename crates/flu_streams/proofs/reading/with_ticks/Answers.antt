use Rattle.std.proofs.Common.{◌≡◌, ℕ, ◌≤◌, ◌<◌, ◌+◌, ◌++◌, ◌∷◌, [], List, None, length, vec_len, take, drop, true, false, sym, ap, subst, ◌∙◌, arith, refl}
use Rattle.std.specs.Prelude.{slice_get, sum_by, set}
use Rattle.std.specs.List.{flat_map, filter}
use Rattle.std.proofs.lemmas.List.{append-nil, drop_all, length-map, map-set, take_all}
use Rattle.std.proofs.lemmas.List.Sums.{sum_by-append}
use Rattle.flu_model.specs.Listing.{listed_tags}
use Rattle.flu_model.specs.Moments.{timing_of}
use Rattle.flu_model.specs.Rules.{is_clock}
use Rattle.flu_model.specs.Streaming.{is_stream_from, are_streams}
use Rattle.flu_rows.specs.declared.row.Row.{Row}
use Rattle.flu_streams.specs.declared.border.Border.TheVariants.{Closed}
use Rattle.flu_streams.specs.Before.{each_with_before}
use Rattle.flu_streams.specs.Clocks.{Declared, ranks_among, ticks_of, items_of_ticks}
use Rattle.flu_streams.specs.Good.{lists_of_source}
use Rattle.flu_streams.specs.LoopClocks.{ranks_in}
use Rattle.flu_streams.specs.LoopGathering.{IsTickFault, HasRows}
use Rattle.flu_streams.specs.Lists.{lists_in}
use Rattle.flu_streams.specs.Rounds.{is_within}
use Rattle.flu_streams.specs.Tags.{width}
use Rattle.flu_streams.proofs.SourceFiles.{clock_width}
use Rattle.flu_streams.proofs.Spans.{any_clock}
use Rattle.flu_streams.proofs.TickLists.{AreTicked, as_ticked, found_ticks, ticks_alone, ticks_stream, streams_set, rest_here, here_at, first_within}
use Rattle.flu_streams.proofs.TickLists.{goes_on, ticks_on, ticks_stop}
use Rattle.flu_streams.proofs.Turns.{IsTurn, turn}
use Rattle.flu_streams.proofs.reading.with_ticks.Goals.{then-is_some+else-count-left+in-Ok, else-is_some}
use Rattle.flu_streams.proofs.reading.with_ticks.Goals as goal

pub tag_count-width-requires : goal.tag_count-width-requires
tag_count-width-requires c =
    let p = c.args.p.now in
    let s = c.source-item.result in
    let t = turn p c.items-source-items.result.now c.loop-source.source-index s c.items-source-items.ensures c.loop-source-test.true c.source-item.is in
    let w : length (flat_map listed_tags c.items.result.now) ≡ width s = ap (λ tags. length (flat_map listed_tags tags)) c.items.ensures in
    omega (arith, t.narrow, w)

pub ticks_within-ticks-requires-clause-source : goal.ticks_within-ticks-requires-clause-source
ticks_within-ticks-requires-clause-source c =
    let p = c.args.p.now in
    ap (slice_get p.sources) c.loop-source.invariant.number
    ∙ here_at p.sources c.items-source-items.result.now c.loop-source.source-index c.source-item.result c.items-source-items.ensures c.loop-source-test.true
    c.source-item.is

pub returns-then-count-left-clause-fault : goal.returns-then-count-left-clause-fault
returns-then-count-left-clause-fault c =
    let p = c.args.p.now in
    let i = c.loop-source.source-index in
    let s = c.source-item.result in
    let items = c.items-source-items.result.now in
    let t = turn p items i s c.items-source-items.ensures c.loop-source-test.true c.source-item.is in
    let at = here_at p.sources items i s c.items-source-items.ensures c.loop-source-test.true c.source-item.is in
    let clock : is_clock s ≡ true = sym c.is_some.ensures ∙ c.if-is_some.true in
    let ticks = subst (λ n. c.ticks_within-ticks.result ≡ filter (is_within None Closed) (ticks_of p (ranks_in c.args.gathered.span) (take n p.sources, s)))
    c.loop-source.invariant.number c.ticks_within-ticks.ensures.ticks in
    let within : c.loop-source.number < length p.sources =
    (let number = c.loop-source.invariant.number in let same = ap length c.items-source-items.ensures in let lt = c.loop-source-test.true in omega arith) in
    λ beside. subst (IsTickFault p beside c.args.gathered) (sym c.too_many.ensures) (
      within,
      λ rows has.
          let ranks = beside ++ ranks_among p rows in
          let all = ap length (found_ticks p ranks c.args.gathered.span i s c.ticks_within-ticks.result (has.span (any_clock p.sources i s at clock)) ticks) in
          let is = subst (λ l. AreTicked p ranks rows (take i p.sources) l c.args.gathered.held c.loop-source.held (lists_in c.loop-source.lists))
          (rest_here p.sources items i s c.items-source-items.ensures c.loop-source-test.true c.source-item.is) (c.loop-source.invariant.ticked beside rows has) in
          let count = c.count.ensures in
          let few = c.loop-source.invariant.few in
          let many = c.if-count-left.true in
          ticks_stop p ranks rows (take i p.sources) (drop (i + 1) p.sources) s c.args.gathered.held c.loop-source.held (lists_in c.loop-source.lists) is
          c.loop-source.number _ t.split (c.loop-source.invariant.number ∙ t.size) few (omega (arith, all, count, many, few)) refl,
    )

pub index_mut-requires : goal.index_mut-requires
index_mut-requires c =
    let p = c.args.p.now in
    let i = c.loop-source.source-index in
    let s = c.source-item.result in
    let items = c.items-source-items.result.now in
    let t = turn p items i s c.items-source-items.ensures c.loop-source-test.true c.source-item.is in
    let at = here_at p.sources items i s c.items-source-items.ensures c.loop-source-test.true c.source-item.is in
    let clock : is_clock s ≡ true = sym c.is_some.ensures ∙ c.if-is_some.true in
    let one = clock_width p i s at clock in
    let within = first_within p (take i p.sources) (drop (i + 1) p.sources) s t.split in
    omega (arith, within, one, c.loop-source.invariant.first, c.loop-source.invariant.len)

pub overflow_add-first : goal.overflow_add-first
overflow_add-first c =
    let p = c.args.p.now in
    let s = c.source-item.result in
    let t = turn p c.items-source-items.result.now c.loop-source.source-index s c.items-source-items.ensures c.loop-source-test.true c.source-item.is in
    let w : c.tag_count-width.result ≡ width s = c.tag_count-width.ensures ∙ ap (λ tags. length (flat_map listed_tags tags)) c.items.ensures in
    omega (arith, t.narrow, w, c.loop-source.invariant.first)

turn_of : (c : goal.Joined-is_some) → IsTurn c.args.p.now c.loop-source.source-index c.source-item.result
turn_of c =
    turn c.args.p.now c.items-source-items.result.now c.loop-source.source-index c.source-item.result c.items-source-items.ensures c.loop-source-test.true
    c.source-item.is

-- the number of the first itag of the next source
first_next : (c : goal.Joined-is_some)
    → c.loop-source.first + c.tag_count-width.result ≡ sum_by width (take (c.loop-source.source-index + 1) c.args.p.now.sources)
first_next c =
    let p = c.args.p.now in
    let s = c.source-item.result in
    let earlier = take c.loop-source.source-index p.sources in
    let t = turn_of c in
    let w : c.tag_count-width.result ≡ width s = c.tag_count-width.ensures ∙ ap (λ tags. length (flat_map listed_tags tags)) c.items.ensures in
    let one : sum_by width (take (c.loop-source.source-index + 1) p.sources) ≡ sum_by width earlier + width s =
    ap (sum_by width) t.more ∙ sum_by-append width earlier (s ∷ []) ∙ omega arith in
    omega (arith, one, w, c.loop-source.invariant.first)

-- what was known of the sources, of which this one is the next
ticked_here : (c : goal.Joined-is_some) (beside : List ℕ) (rows : Declared → List Row) → HasRows c.args.p.now beside c.args.gathered rows
    → AreTicked c.args.p.now (beside ++ ranks_among c.args.p.now rows) rows (take c.loop-source.source-index c.args.p.now.sources)
    (c.source-item.result ∷ drop (c.loop-source.source-index + 1) c.args.p.now.sources) c.args.gathered.held c.loop-source.held (lists_in c.loop-source.lists)
ticked_here c beside rows has =
    let p = c.args.p.now in
    let i = c.loop-source.source-index in
    subst (λ l. AreTicked p (beside ++ ranks_among p rows) rows (take i p.sources) l c.args.gathered.held c.loop-source.held (lists_in c.loop-source.lists))
    (rest_here p.sources c.items-source-items.result.now i c.source-item.result c.items-source-items.ensures c.loop-source-test.true c.source-item.is)
    (c.loop-source.invariant.ticked beside rows has)

pub loop-source-preserved : goal.loop-source-preserved
loop-source-preserved c = elim c.if-is_some.branch [
  | then-is_some+else-count-left+in-Ok w ↦
      let p = c.args.p.now in
      let i = c.loop-source.source-index in
      let s = c.source-item.result in
      let earlier = take i p.sources in
      let t = turn_of c in
      let at = here_at p.sources c.items-source-items.result.now i s c.items-source-items.ensures c.loop-source-test.true c.source-item.is in
      let clock : is_clock s ≡ true = sym c.is_some.ensures ∙ w.if-is_some.true in
      let width_is = clock_width p i s at clock in
      let ticks = subst (λ n. w.ticks_within-ticks.result ≡ filter (is_within None Closed) (ticks_of p (ranks_in c.args.gathered.span) (take n p.sources, s)))
      c.loop-source.invariant.number w.ticks_within-ticks.ensures.ticks in
      let items = w.in-Ok.items.items in
      let own : items ≡ items_of_ticks w.timing_of.result c.loop-source.first w.ticks_within-ticks.result = w.in-Ok.ensures in
      let first = c.loop-source.invariant.first in
      let lists_are : lists_in c.if-is_some.lists ≡ set (lists_in c.loop-source.lists) (sum_by width earlier) items =
      ap lists_in w.lists-is ∙ map-set (λ v. v.items) c.loop-source.lists.items c.loop-source.first w.in-Ok.items
      ∙ ap (λ n. set (lists_in c.loop-source.lists) n items) first in
      let fits = w.timing_of.ensures.fits in
      let some = fits.some in
      let within = fits.within in
      let alone = ticks_alone p c.args.gathered.span i s w.ticks_within-ticks.result ticks in
      let from : 0 + sum_by width earlier ≡ c.loop-source.first = omega (arith, first) in
      let stream : is_stream_from (0 + sum_by width earlier) 0 items ≡ true =
      ap (λ n. is_stream_from n 0 items) from
      ∙ ap (is_stream_from c.loop-source.first 0) (own ∙ ap (items_of_ticks w.timing_of.result c.loop-source.first) alone)
      ∙ ticks_stream p i s c.args.gathered.span w.timing_of.result c.loop-source.first at (omega (arith, some, within)) in
      let size : vec_len c.loop-source.lists ≡ length (lists_in c.loop-source.lists) = simp length-map (omega (arith, c.loop-source.lists.ok.0)) in
      let room = first_within p earlier (drop (i + 1) p.sources) s t.split in
      let lt : sum_by width earlier < length (lists_in c.loop-source.lists) = omega (arith, size, room, width_is, c.loop-source.invariant.len) in
      let count = w.count.ensures in
      let held = w.count-held.ensures in
      let few = w.if-count-left.false in
      let most = c.loop-source.invariant.few in
      let sum = w.held-is in
      record {
        number = omega (arith, c.loop-source.invariant.number);
        first = first_next c;
        few = omega (arith, count, held, few, most, sum);
        len = ap vec_len w.lists-is ∙ c.loop-source.invariant.len;
        streams = ap (are_streams 0) lists_are
            ∙ streams_set 0 (sum_by width earlier) (lists_in c.loop-source.lists) items lt c.loop-source.invariant.streams stream;
        ticked = λ beside rows has.
            let ranks = beside ++ ranks_among p rows in
            let found = found_ticks p ranks c.args.gathered.span i s w.ticks_within-ticks.result (has.span (any_clock p.sources i s at clock)) ticks in
            let all = ap length found in
            let timing : w.timing_of.result ≡ timing_of p (length earlier) = w.timing_of.ensures.value
            ∙ ap (timing_of p) (c.loop-source.invariant.number ∙ t.size) in
            let its : items ≡ items_of_ticks (timing_of p (length earlier)) (sum_by width earlier) (ticks_of p ranks (earlier, s)) =
            own ∙ ap (λ x. items_of_ticks x c.loop-source.first w.ticks_within-ticks.result) timing
            ∙ ap (λ n. items_of_ticks (timing_of p (length earlier)) n w.ticks_within-ticks.result) first
            ∙ ap (items_of_ticks (timing_of p (length earlier)) (sum_by width earlier)) found in
            as_ticked p ranks rows (earlier ++ s ∷ []) (take (i + 1) p.sources) (drop (i + 1) p.sources) c.args.gathered.held
            (c.loop-source.held + length (ticks_of p ranks (earlier, s))) c.if-is_some.held
            (set (lists_in c.loop-source.lists) (sum_by width earlier) items) (lists_in c.if-is_some.lists) t.more
            (omega (arith, sum, held, all)) lists_are
            (ticks_on p ranks rows earlier (drop (i + 1) p.sources) s c.args.gathered.held c.loop-source.held (lists_in c.loop-source.lists)
            (ticked_here c beside rows has) items
            clock width_is (omega (arith, all, count, few, most)) its);
      }
  | else-is_some w ↦
      let p = c.args.p.now in
      let i = c.loop-source.source-index in
      let s = c.source-item.result in
      let earlier = take i p.sources in
      let t = turn_of c in
      let file : is_clock s ≡ false = sym c.is_some.ensures ∙ w.if-is_some.false in
      record {
        number = omega (arith, c.loop-source.invariant.number);
        first = first_next c;
        few = (let most = c.loop-source.invariant.few in let same = w.held-is in omega (arith, most, same));
        len = ap vec_len w.lists-is ∙ c.loop-source.invariant.len;
        streams = ap (λ lists. are_streams 0 (lists_in lists)) w.lists-is ∙ c.loop-source.invariant.streams;
        ticked = λ beside rows has.
            let ranks = beside ++ ranks_among p rows in
            as_ticked p ranks rows (earlier ++ s ∷ []) (take (i + 1) p.sources) (drop (i + 1) p.sources) c.args.gathered.held c.loop-source.held c.if-is_some.held
            (lists_in c.loop-source.lists) (lists_in c.if-is_some.lists) t.more w.held-is (ap lists_in w.lists-is)
            (goes_on p ranks rows earlier (drop (i + 1) p.sources) s c.args.gathered.held c.loop-source.held (lists_in c.loop-source.lists) (ticked_here c beside rows has)
            file c.loop-source.invariant.few);
      }
]

pub returns-clause-ticks : goal.returns-clause-ticks
returns-clause-ticks c = λ beside rows has.
    let p = c.args.p.now in
    let i = c.loop-source.source-index in
    let ranks = beside ++ ranks_among p rows in
    let size = ap length c.items-source-items.ensures in
    let past = c.loop-source-test.false in
    let long : length p.sources ≤ i = omega (arith, size, past) in
    let front : take i p.sources ≡ p.sources = take_all i p.sources long in
    let behind : drop i p.sources ≡ [] = drop_all i p.sources long in
    let is = subst (λ l. AreTicked p ranks rows p.sources l c.args.gathered.held c.loop-source.held (lists_in c.loop-source.lists)) behind
    (subst (λ l. AreTicked p ranks rows l (drop i p.sources) c.args.gathered.held c.loop-source.held (lists_in c.loop-source.lists)) front
    (c.loop-source.invariant.ticked beside rows has)) in (
      c.new.ensures ∙ is.lists_are
          ∙ append-nil (flat_map (λ e. lists_of_source p (rows e) (ticks_of p ranks e) e) (each_with_before p.sources)),
      is.none,
    )
