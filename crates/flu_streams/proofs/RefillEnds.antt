-- What a refill leaves, where it is done and where it stops.
use Rattle.std.proofs.Common.{◌≡◌, ℕ, ◌-◌, ◌/◌, ◌^◌, ◌<◌, ◌≤◌, true, false, List, ◌∷◌, ◌++◌, length, take, map, Option, Some, None, refl, sym, ap, subst}
use Rattle.std.proofs.Common.{◌∙◌, append_assoc, arith}
use Rattle.std.specs.Prelude.{is_some, slice_get}
use Rattle.std.specs.List.{list_all}
use Rattle.std.proofs.lemmas.List.{length-map, take_all}
use Rattle.std.proofs.lemmas.Option.{slice_get_within}
use Rattle.flu_model.specs.Erasure.{job_of}
use Rattle.flu_lemmas.specs.Elements.{AtEach}
use Rattle.flu_lemmas.proofs.Places.{slice_get-there}
use Rattle.flu_lemmas.proofs.Tests.{not_both, and_left}
use Rattle.flu_model.specs.declared.jobs.Source.{Source}
use Rattle.flu_model.specs.declared.jobs.Program.{Program}
use Rattle.flu_model.specs.declared.moments.Timing.{Timing}
use Rattle.flu_model.specs.Moments.{timing_of, limit_of_times, moments_a_time}
use Rattle.std.proofs.Math.Nat.{div-le_self}
use Rattle.flu_outside.specs.Outside.{Contents, WhereTold, Rose}
use Rattle.flu_outside.specs.Taking.{IsReadOut}
use Rattle.flu_rows.specs.declared.rows.Next.{Next}
use Rattle.flu_rows.specs.Row.{form_of}
use Rattle.flu_rows.specs.Reading.{ahead}
use Rattle.flu_streams.specs.declared.border.Border.{Border}
use Rattle.flu_streams.specs.declared.border.Border.TheVariants.{At, Closed}
use Rattle.flu_streams.specs.declared.faults.GatherFault.{GatherFault}
use Rattle.flu_streams.specs.declared.faults.GatherFault.TheVariants.{ReadFault as ReadFaulty}
use Rattle.flu_streams.specs.declared.faults.Why.{Why}
use Rattle.flu_streams.specs.declared.held.Stage.{Stage}
use Rattle.flu_streams.specs.declared.held.Stage.TheVariants.{Filled}
use Rattle.flu_streams.specs.declared.inlet.Inlet.{Inlet}
use Rattle.flu_streams.specs.declared.stop.Stop.{Stop}
use Rattle.flu_streams.specs.declared.stop.Stop.TheVariants.{Defect, ReadFault, NoMemory}
use Rattle.flu_streams.specs.Holding.{HeldSource, IsHeldBehind, AreHeldBehind, AreClosed, ClosedAreReadOut, IsNewBorder, IsRefillFault, HidesNoRoundFault}
use Rattle.flu_streams.specs.Holding.{first_itag}
use Rattle.flu_streams.specs.Holding.{unread_source, still}
use Rattle.flu_streams.specs.Lists.{item_time}
use Rattle.flu_streams.specs.LoopStop.{fault_of_stop}
use Rattle.flu_streams.specs.LoopHeld.{source_of, earliest, IsRefilled, MeetsDefect, IsStopOf, HasRefilled, StopsAtSource, IsSettledAt, IsSettledBy}
use Rattle.flu_streams.specs.LoopHeld.{IsTurnOf, IsWellAt, StopsBehind, AreTimed}
use Rattle.flu_streams.specs.LoopMoments.{border_moment}
use Rattle.flu_streams.specs.LoopHeld.{AreWell, AreCaughtUp, AreUncounted, IsWell, IsFew, count_above}
use Rattle.flu_streams.specs.Before.{or_else}
use Rattle.flu_streams.specs.declared.clocks.Span.{Span}
use Rattle.flu_streams.specs.Clocks.{Declared, ticks_of}
use Rattle.flu_streams.specs.LoopClocks.{IsNotAbove, IsByTicks, EndsByTicks, Stays, Lowers, last_in_span, ranks_in, span_of}
use Rattle.flu_streams.specs.Rounds.{Turn, Open, Shut, Reads, Meets, IsWithin, line_defect, defect_in, is_above, is_within, is_enough}
use Rattle.flu_streams.proofs.Moments.{end_limit}
use Rattle.flu_streams.proofs.Ticking.{passes_at, few_ticks}
use Rattle.flu_streams.proofs.Counted.{never_many}
use Rattle.flu_streams.proofs.RoundLaws.{or_none}
use Rattle.flu_streams.proofs.RoundOf.{told_from, at_told, choose, reads_at, turn_of, passed, holding, behind_at, all_closed, earliest_within, earliest_among}
use Rattle.flu_lemmas.proofs.Mapped.{from_mapped}
use Rattle.flu_streams.proofs.Starts.{to_mapped, one_there, fresh_at}

-- ---- what is held behind a refill
-- what was done to one source
record IsOne (p : Program) (rows : ℕ) (olds news : List Inlet) (a b : Option Contents) (ends : List Border) (i : ℕ) (s : Source) : Type 0 where
  pub end : Border
  pub old : Inlet
  pub new : Inlet
  pub at_end : slice_get ends i ≡ Some end
  pub was : slice_get olds i ≡ Some old
  pub is : slice_get news i ≡ Some new
  pub done : IsRefilled p.kinds s (first_itag p i) (Some rows) old new a b end

one_of : (p : Program) (rows : ℕ) (olds news : List Inlet) (a b : Option Contents) (end : Border) → length olds ≡ length p.sources
    → (has : HasRefilled p rows olds news a b end)
    → (i : ℕ) (s : Source) → slice_get p.sources i ≡ Some s → IsOne p rows olds news a b has.ends i s
one_of p rows olds news a b end count has i s at =
    let lt = slice_get_within p.sources i s at in
    let e = slice_get-there has.ends i (rw has.count lt) in
    let old = slice_get-there olds i (rw count lt) in
    let new = slice_get-there news i (rw (has.all.size, count) lt) in
    record { end = e.0; old = old.0; new = new.0; at_end = e.1; was = old.1; is = new.1; done = has.all.each i s at e.0 old.0 new.0 e.1 old.1 new.1 }

-- what is well by how the job numbers the rows of a source is so by how its inlet does
own_well : (p : Program) (i : ℕ) (s : Source) (border : Option ℕ) (h : Inlet) → IsWellAt (timing_of p i) s border h → IsWellAt h.timing s border h
own_well p i s border h well = subst (λ (timing : Timing). IsWellAt timing s border h) (sym well.timing_is) well

refill_border : (p : Program) (rows : ℕ) (border : Option ℕ) (olds news : List Inlet) (a b : Option Contents) (end : Border)
    → AreWell p rows border olds → HasRefilled p rows olds news a b end → IsNewBorder border end
refill_border p rows border olds news a b Closed well has = tt
refill_border p rows border olds news a b (At t) well has =
    let low = earliest_among has.ends t (sym has.earliest) in
    let s = slice_get-there p.sources low.0 (rw (← has.count) (slice_get_within has.ends low.0 (At t) low.1)) in
    let one = one_of p rows olds news a b (At t) well.count has low.0 s.0 s.1 in
    let same : one.end ≡ At t = one_there has.ends low.0 one.end (At t) one.at_end low.1 in
    subst (IsNewBorder border) same (one.done.border border (own_well p low.0 s.0 border one.old (well.each low.0 s.0 s.1 one.old one.was)))

-- the last tick of a clock is above the border
new_tick : (p : Program) (rows t : ℕ) (border : Option ℕ) (span : Option Span) (e : Declared) → last_in_span p rows border span e ≡ Some t
    → t < limit_of_times p → IsNewBorder border (At t)
new_tick p rows t border span e at lt =
    let up = passes_at (is_within border Closed) (ticks_of p (ranks_in span) e) (rows - 1) t at in
    let most = end_limit p in
    let whole = div-le_self (2 ^ 63) (moments_a_time p) in
    (and_left (is_above border t) true up, omega (arith, lt, most, whole))

pub lowered_border : (p : Program) (rows : ℕ) (border : Option ℕ) (span : Option Span) (olds news : List Inlet) (a b : Option Contents) (end low : Border)
    → AreWell p rows border olds → HasRefilled p rows olds news a b end → IsByTicks p rows border span end low → IsNewBorder border low
lowered_border p rows border span olds news a b end low well has ticks = by_end ticks.ends
  where
    by_end : EndsByTicks p rows border span end low → IsNewBorder border low
    by_end (Stays is) = subst (IsNewBorder border) (sym is) (refill_border p rows border olds news a b end well has)
    by_end (Lowers i s t at last lt is) = subst (IsNewBorder border) (sym is) (new_tick p rows t border span (take i p.sources, s) last lt)

refill_keeps : (p : Program) (rows : ℕ) (border : Option ℕ) (olds news : List Inlet) (a b : Option Contents) (end : Border)
    → AreWell p rows border olds → HasRefilled p rows olds news a b end → AreWell p rows border news
refill_keeps p rows border olds news a b end well has = record {
  some = well.some;
  most = well.most;
  count = has.all.size ∙ well.count;
  forms = λ i h f.
      let s = slice_get-there p.sources i (rw (← well.count, ← has.all.size) (slice_get_within news i h f)) in
      let one = one_of p rows olds news a b end well.count has i s.0 s.1 in
      ap (λ (g : Inlet). g.rows.form) (sym (one_there news i one.new h one.is f)) ∙ one.done.form ∙ well.forms i one.old one.was;
  few = λ i s at h f.
      let one = one_of p rows olds news a b end well.count has i s at in
      subst (IsFew (Some rows) s) (one_there news i one.new h one.is f) (one.done.few (well.few i s at one.old one.was));
  each = λ i s at h f.
      let one = one_of p rows olds news a b end well.count has i s at in
      let was = well.each i s at one.old one.was in
      subst (IsWellAt (timing_of p i) s border) (one_there news i one.new h one.is f)
      (subst (λ (timing : Timing). IsWellAt timing s border one.new) was.timing_is (one.done.keeps border (own_well p i s border one.old was)));
}

settled_turn : (s : Source) (h : Inlet) (end : Border) (t : ℕ) → IsTurnOf s h end → IsWithin t (turn_of end) → IsSettledAt s (Some t) h
settled_turn s h (At u) t turn le goes v e = let same : t ≡ v = cc in (u, turn, omega (arith, same, le))
settled_turn s h Closed t turn le goes v e = absurd (not_both h.closed turn goes)

within_lower : (t u : ℕ) (turn : Turn) → t ≤ u → IsWithin u turn → IsWithin t turn
within_lower t u (Open v) le is = omega (arith, le, is)
within_lower t u Shut le is = tt
within_lower t u (Meets row why) le is = is

-- a border that is not above the earliest one is within the turn of each source
pub lowered_within : (ends : List Border) (i t : ℕ) (end own : Border) → end ≡ earliest ends → IsNotAbove (At t) end → slice_get ends i ≡ Some own
    → IsWithin t (turn_of own)
lowered_within ends i t Closed own is below at = subst (λ e. IsWithin t (turn_of e)) (sym (all_closed ends i own (sym is) at)) tt
lowered_within ends i t (At u) own is below at = within_lower t u (turn_of own) below (earliest_within ends i u own (sym is) at)

refill_settles : (p : Program) (rows : ℕ) (border : Option ℕ) (span : Option Span) (olds news : List Inlet) (a b : Option Contents) (end low : Border)
    → AreWell p rows border olds → HasRefilled p rows olds news a b end → IsByTicks p rows border span end low → IsSettledBy p border low news
refill_settles p rows border span olds news a b end Closed well has ticks = tt
refill_settles p rows border span olds news a b end (At t) well has ticks = (
  (lowered_border p rows border span olds news a b end (At t) well has ticks).0,
  λ i s at h f.
      let one = one_of p rows olds news a b end well.count has i s at in
      subst (IsSettledAt s (Some t)) (one_there news i one.new h one.is f)
      (settled_turn s one.new one.end t one.done.turn (lowered_within has.ends i t end one.end has.earliest ticks.below one.at_end)),
)

refill_caught : (p : Program) (rows : ℕ) (border : Option ℕ) (olds news : List Inlet) (a b : Option Contents) (end : Border)
    → AreWell p rows border olds → HasRefilled p rows olds news a b end → AreCaughtUp news
refill_caught p rows border olds news a b end well has i h f =
    let s = slice_get-there p.sources i (rw (← well.count, ← has.all.size) (slice_get_within news i h f)) in
    let one = one_of p rows olds news a b end well.count has i s.0 s.1 in
    ap (λ (g : Inlet). g.goal) (sym (one_there news i one.new h one.is f)) ∙ one.done.caught

pub refill_well : (p : Program) (rows : ℕ) (border : Option ℕ) (olds news : List Inlet) (a b : Option Contents) (end low : Border)
    → AreWell p rows border olds → HasRefilled p rows olds news a b end → IsByTicks p rows border (span_of p news) end low → AreUncounted news
    → IsWell p rows border (Filled low) news
refill_well p rows border olds news a b end low well has ticks free = (
  (
    refill_keeps p rows border olds news a b end well has,
    refill_settles p rows border (span_of p news) olds news a b end low well has ticks,
    refill_caught p rows border olds news a b end well has,
    few_ticks p rows border (span_of p news) low well.some ticks.most,
  ),
  free,
)

pub refill_out : (p : Program) (rows : ℕ) (border : Option ℕ) (stage stage' : Stage) (olds news : List Inlet) (a b : Option Contents) (end : Border)
    → AreWell p rows border olds → HasRefilled p rows olds news a b end
    → ClosedAreReadOut (holding p rows border stage olds) a → ClosedAreReadOut (holding p rows border stage' news) b
refill_out p rows border stage stage' olds news a b end well has was i s at source f goes closed =
    let k = from_mapped source_of news i source f in
    let one = one_of p rows olds news a b end well.count has i s at in
    let same : one.new ≡ k.0 = one_there news i one.new k.0 one.is k.1 in
    let file_was : one.old.rows.file ≡ s.file = (well.each i s at one.old one.was).file in
    let file_is : k.0.rows.file ≡ s.file = ((refill_keeps p rows border olds news a b end well has).each i s at k.0 k.1).file in
    let shut : one.new.closed ≡ true = ap (λ (h : Inlet). h.closed) same ∙ ap (λ (h : HeldSource). h.closed) (sym k.2) ∙ closed in
    let out = one.done.out
    (λ before. subst (λ n. IsReadOut n a) file_was (was i s at (source_of one.old) (to_mapped source_of olds i one.old one.was) goes before))
    shut in
    subst (λ n. IsReadOut n b) (sym (ap (λ (h : HeldSource). h.place.file) k.2 ∙ file_is)) out

-- the last border is Closed only where that of the sources is
pub closed_below : (low end : Border) → IsNotAbove low end → low ≡ Closed → end ≡ Closed
closed_below Closed end below is = below
closed_below (At t) end below is = absurd cc

pub refill_closed : (p : Program) (rows : ℕ) (border : Option ℕ) (stage : Stage) (olds news : List Inlet) (a b : Option Contents) (end : Border)
    → AreWell p rows border olds → HasRefilled p rows olds news a b end
    → end ≡ Closed → AreClosed (holding p rows border stage news)
refill_closed p rows border stage olds news a b end well has shut i source f =
    let k = from_mapped source_of news i source f in
    let s = slice_get-there p.sources i (rw (← well.count, ← has.all.size) (slice_get_within news i k.0 k.1)) in
    let one = one_of p rows olds news a b end well.count has i s.0 s.1 in
    let last : one.end ≡ Closed = all_closed has.ends i one.end (sym has.earliest ∙ shut) one.at_end in
    let turn : one.new.closed ≡ true = subst (IsTurnOf s.0 one.new) last one.done.turn in
    ap (λ (h : HeldSource). h.closed) k.2 ∙ ap (λ (h : Inlet). h.closed) (sym (one_there news i one.new k.0 one.is k.1)) ∙ turn

-- ---- where it stops
few_last : (timing : Timing) (s : Source) (rows : ℕ) (border : Option ℕ) (before more : List Next)
    → ((k : ℕ) → k ≤ length more → is_enough timing rows border s (before ++ take k more) ≡ false)
    → is_enough timing rows border s (before ++ more) ≡ false
few_last timing s rows border before more few =
    ap (λ (l : List Next). is_enough timing rows border s (before ++ l)) (sym (take_all (length more) more (omega arith))) ∙ few (length more) (omega arith)

meets_reads : (timing : Timing) (p : Program) (s : Source) (rows : ℕ) (border : Option ℕ) (before whole now : List Next) (old : Inlet) (a b : Option Contents)
    (x y : Contents) (row : ℕ) (why : Why)
    → (m : MeetsDefect timing p.kinds s (Some rows) border before old a b row why) → is_some old.held ≡ false → a ≡ Some x → b ≡ Some y
    → whole ≡ before ++ still (source_of old) x → now ≡ before ++ m.more
    → Reads timing p.kinds s rows border whole before now (Meets row why)
meets_reads timing p s rows border before whole now old a b x y row why m free e f all is =
    let told = at_told (λ was at. (rest : List Next) × (still (source_of old) was ≡ m.more ++ (m.next ∷ rest))) a b x y e f m.told in
    let line_is = line_defect timing p.kinds s (before ++ m.more) m.next in
    let defect : line_is ≡ Some (row, why) =
    sym (ap (or_else line_is) (never_many old.held s m.more m.next free) ∙ or_none line_is) ∙ m.defect in
    let line : whole ≡ (before ++ m.more) ++ (m.next ∷ told.0) = all ∙ ap (λ (rest : List Next). before ++ rest) told.1
    ∙ sym (append_assoc before m.more (m.next ∷ told.0)) in
    subst (λ l. Reads timing p.kinds s rows border whole before l (Meets row why)) (sym is) (record {
      more = m.more;
      further = refl;
      sound = m.sound;
      shortest = λ k lt. m.few k (omega (arith, lt));
      stops = ((m.next, told.0, line, defect), few_last timing s rows border before m.more m.few);
    })

-- where the inlet of a source stops, by how the job numbers the rows of the source
meets_at : (p : Program) (i : ℕ) (s : Source) (rows : ℕ) (border : Option ℕ) (before : List Next) (old : Inlet) (a b : Option Contents) (row : ℕ) (why : Why)
    → old.timing ≡ timing_of p i → IsStopOf p.kinds s (first_itag p i) (Some rows) old a b (Defect row why)
    → IsHeldBehind (timing_of p i) p.kinds (first_itag p i) s border before (source_of old)
    → MeetsDefect (timing_of p i) p.kinds s (Some rows) border before old a b row why
meets_at p i s rows border before old a b row why timed own behind =
    subst (λ (timing : Timing). IsHeldBehind timing p.kinds (first_itag p i) s border before (source_of old)
    → MeetsDefect timing p.kinds s (Some rows) border before old a b row why) timed (own border before) behind

stops_behind_at : (p : Program) (i : ℕ) (s : Source) (rows : ℕ) (border : Option ℕ) (before : List Next) (old : Inlet) (a b : Option Contents)
    → old.timing ≡ timing_of p i → IsStopOf p.kinds s (first_itag p i) (Some rows) old a b ReadFault
    → IsHeldBehind (timing_of p i) p.kinds (first_itag p i) s border before (source_of old)
    → StopsBehind (timing_of p i) p.kinds s (Some rows) border before old a b
stops_behind_at p i s rows border before old a b timed own behind =
    subst (λ (timing : Timing). IsHeldBehind timing p.kinds (first_itag p i) s border before (source_of old)
    → StopsBehind timing p.kinds s (Some rows) border before old a b) timed (own border before) behind

pub refill_fault : (p : Program) (rows : ℕ) (border : Option ℕ) (stage : Stage) (olds : List Inlet) (a b : Option Contents)
    (Q : Contents → Contents → Type 0) (fault : GatherFault) (faults faults' : List ℕ → ℕ) → length olds ≡ length p.sources
    → AreTimed p olds → AreUncounted olds → WhereTold a b Q → StopsAtSource p rows olds a b faults faults' fault
    → IsRefillFault (holding p rows border stage olds) a b fault
refill_fault p rows border stage olds a b Q fault faults faults' count timed free told st =
    subst (IsRefillFault (holding p rows border stage olds) a b) (sym st.cause) (by_stop st.stop st.own)
  where
    by_stop : (stop : Stop) → ((old : Inlet) → slice_get olds (length st.ends) ≡ Some old
        → IsStopOf p.kinds st.source (first_itag p (length st.ends)) (Some rows) old a b stop)
        → IsRefillFault (holding p rows border stage olds) a b (fault_of_stop (length st.ends) stop)
    by_stop (Defect row why) own = (
      slice_get_within p.sources (length st.ends) st.source st.is,
      λ before behind.
          let own_behind = behind_at p rows border stage olds before behind in
          let old = slice_get-there olds (length st.ends) (rw count (slice_get_within p.sources (length st.ends) st.source st.is)) in
          let m = meets_at p (length st.ends) st.source rows border (before (length st.ends)) old.0 a b row why
          (timed (length st.ends) old.0 old.1) (own old.0 old.1) (own_behind (length st.ends) st.source st.is old.0 old.1) in
          let picked = choose p rows border before olds st.news a b st.ends m.more count timed own_behind st.all in
          told_from Q _ a b told (λ x y e f whole all. record {
            now = picked.0;
            earlier = λ i s at lt.
                let r = (picked.1 i s at).0 lt in (
                  turn_of r.end,
                  reads_at p rows border before olds st.news a b st.ends i s (picked.0 i) (whole i) x y r e f
                      (all i (source_of r.old) (to_mapped source_of olds i r.old r.was)),
                  passed r.end,
                );
            source = (
              st.source,
              st.is,
              meets_reads (timing_of p (length st.ends)) p st.source rows border (before (length st.ends)) (whole (length st.ends)) (picked.0 (length st.ends))
                  old.0 a b x y row why m (free (length st.ends) old.0 old.1) e f
                  (all (length st.ends) (source_of old.0) (to_mapped source_of olds (length st.ends) old.0 old.1))
                  ((picked.1 (length st.ends) st.source st.is).1 refl),
            );
          }),
    )
    by_stop ReadFault own = tt
    by_stop NoMemory own = tt

front_more : (before more rest now : List Next) → now ≡ before ++ more → before ++ (more ++ rest) ≡ now ++ rest
front_more before more rest now is = sym (append_assoc before more rest) ∙ ap (λ (l : List Next). l ++ rest) (sym is)

pub refill_hides : (p : Program) (rows : ℕ) (border : Option ℕ) (stage : Stage) (olds : List Inlet) (a b : Option Contents)
    (Q : Contents → Contents → Type 0) (fault : GatherFault) (faults faults' : List ℕ → ℕ) → length olds ≡ length p.sources
    → AreTimed p olds → AtEach (λ i h. h.rows.form ≡ form_of (job_of p)) olds
    → WhereTold a b Q → StopsAtSource p rows olds a b faults faults' fault → fault ≡ ReadFaulty → (before : ℕ → List Next)
    → AreHeldBehind (holding p rows border stage olds) before
    → HidesNoRoundFault (holding p rows border stage olds) a b faults faults' before
refill_hides p rows border stage olds a b Q fault faults faults' count timed forms told st is before behind = by_stop st.stop st.own st.rose (sym st.cause ∙ is)
  where
    by_stop : (stop : Stop) → ((old : Inlet) → slice_get olds (length st.ends) ≡ Some old
        → IsStopOf p.kinds st.source (first_itag p (length st.ends)) (Some rows) old a b stop)
        → (stop ≡ ReadFault → Rose (faults st.source.file) (faults' st.source.file))
        → fault_of_stop (length st.ends) stop ≡ ReadFaulty → HidesNoRoundFault (holding p rows border stage olds) a b faults faults' before
    by_stop (Defect row why) own rose e = absurd cc
    by_stop NoMemory own rose e = absurd cc
    by_stop ReadFault own rose e =
        let own_behind = behind_at p rows border stage olds before behind in
        let old = slice_get-there olds (length st.ends) (rw count (slice_get_within p.sources (length st.ends) st.source st.is)) in
        let m = stops_behind_at p (length st.ends) st.source rows border (before (length st.ends)) old.0 a b
        (timed (length st.ends) old.0 old.1) (own old.0 old.1) (own_behind (length st.ends) st.source st.is old.0 old.1) in
        let picked = choose p rows border before olds st.news a b st.ends m.more count timed own_behind st.all in
        let now_is : picked.0 (length st.ends) ≡ before (length st.ends) ++ m.more = (picked.1 (length st.ends) st.source st.is).1 refl in
        record {
          at = length st.ends;
          source = st.source;
          is = st.is;
          has_file = st.has_file;
          rose = rose refl;
          now = picked.0;
          more = m.more;
          further = now_is;
          sound = ap (defect_in (timing_of p (length st.ends)) p.kinds st.source) now_is ∙ m.sound;
          few = m.few;
          place = m.place;
          form = m.form ∙ forms (length st.ends) old.0 old.1;
          file = m.file;
          undecided = m.undecided;
          told = told_from Q _ a b told (λ x y e f whole all. (
            λ i s at lt.
                let r = (picked.1 i s at).0 lt in (
                  turn_of r.end,
                  reads_at p rows border before olds st.news a b st.ends i s (picked.0 i) (whole i) x y r e f
                      (all i (source_of r.old) (to_mapped source_of olds i r.old r.was)),
                  passed r.end,
                ),
            all (length st.ends) (source_of old.0) (to_mapped source_of olds (length st.ends) old.0 old.1)
                ∙ ap (λ (rest : List Next). before (length st.ends) ++ rest)
                (at_told (λ was at. still (source_of old.0) was ≡ m.more ++ ahead m.place at) a b x y e f m.told)
                ∙ front_more (before (length st.ends)) m.more (ahead m.place y) (picked.0 (length st.ends)) now_is,
          ));
        }

-- ---- before the first round
pub fresh_well : (p : Program) (rows : ℕ) (border : Option ℕ) (inlets : List Inlet) → 1 ≤ rows → rows ≤ 4096
    → map source_of inlets ≡ map (unread_source (form_of (job_of p)) border) p.sources → AreTimed p inlets → AreWell p rows border inlets
fresh_well p rows border inlets some most is timed = record {
  some = some;
  most = most;
  count = sym (length-map inlets source_of) ∙ ap length is ∙ length-map p.sources (unread_source (form_of (job_of p)) border);
  forms = λ i h f.
      let k = from_mapped (unread_source (form_of (job_of p)) border) p.sources i (source_of h)
      (ap (λ (l : List HeldSource). slice_get l i) (sym is) ∙ to_mapped source_of inlets i h f) in
      ap (λ (k : HeldSource). k.place.form) k.2;
  few = λ i s at h f.
      let same : source_of h ≡ unread_source (form_of (job_of p)) border s = fresh_at p border i s (source_of h) at
      (ap (λ (l : List HeldSource). slice_get l i) (sym is) ∙ to_mapped source_of inlets i h f) in
      let e : count_above h.timing h.goal h.items ≡ 0 = ap (λ (k : HeldSource). count_above h.timing k.goal k.items) same in
      omega (arith, e);
  each = λ i s at h f.
      let same : source_of h ≡ unread_source (form_of (job_of p)) border s = fresh_at p border i s (source_of h) at
      (ap (λ (l : List HeldSource). slice_get l i) (sym is) ∙ to_mapped source_of inlets i h f) in
      record {
        timing_is = timed i h f;
        file = ap (λ (k : HeldSource). k.place.file) same;
        goal = λ t e. ap (λ (k : HeldSource). k.goal) (sym same) ∙ e;
        clock = λ ticks. ap (λ (k : HeldSource). k.closed) same ∙ ticks;
        above = λ none. ap (λ (k : HeldSource). list_all (λ item. is_above (border_moment (timing_of p i) border) (item_time item)) k.items) same;
        settled = λ none goes t e. absurd (no_border t (sym (ap (λ (k : HeldSource). k.goal) (sym same) ∙ none) ∙ e));
      };
}
  where
    no_border : (t : ℕ) → None ≡ Some t → ⊥
    no_border t e = cc
