-- What a refill comes to where clocks tick.
use Rattle.std.proofs.Common.{◌≡◌, ℕ, ◌<◌, true, List, [], ◌∷◌, ◌++◌, length, map, take, Option, Some, refl, sym, ap, subst, ◌∙◌, append_assoc, arith}
use Rattle.std.specs.Prelude.{slice_get}
use Rattle.std.proofs.lemmas.List.{length-map}
use Rattle.std.proofs.lemmas.Option.{slice_get_within}
use Rattle.flu_lemmas.specs.Elements.{AtEach}
use Rattle.flu_lemmas.proofs.Mapped.{from_mapped}
use Rattle.flu_lemmas.proofs.Places.{slice_get-there}
use Rattle.flu_model.specs.declared.jobs.Source.{Source}
use Rattle.flu_model.specs.declared.jobs.Program.{Program}
use Rattle.flu_model.specs.Moments.{timing_of}
use Rattle.flu_model.specs.Rules.{is_clock}
use Rattle.flu_outside.specs.Outside.{Contents, WhereTold}
use Rattle.flu_rows.specs.declared.rows.Next.{Next}
use Rattle.flu_streams.specs.declared.border.Border.{Border}
use Rattle.flu_streams.specs.declared.border.Border.TheVariants.{At, Closed}
use Rattle.flu_streams.specs.declared.held.Stage.{Stage}
use Rattle.flu_streams.specs.declared.inlet.Inlet.{Inlet}
use Rattle.flu_streams.specs.Holding.{HeldSource, IsHeldBehind, AreHeldBehind, Fills, first_itag, still}
use Rattle.flu_streams.specs.LoopClocks.{HasSpan, IsByTicks, EndsByTicks, Stays, Lowers, span_of}
use Rattle.flu_streams.specs.LoopHeld.{source_of, earliest, HasRefilled, AreWell, AreTimed, AreBehind}
use Rattle.flu_streams.specs.Rounds.{Reads, IsRound, IsFull, BySource, ByTick, ranks}
use Rattle.flu_streams.proofs.RefillEnds.{lowered_within, closed_below}
use Rattle.flu_streams.proofs.RoundOf.{told_from, at_told, IsReadAt, IsChosen, choose, reads_at, turn_of, holding, behind_at, all_closed, earliest_among}
use Rattle.flu_streams.proofs.Starts.{to_mapped, one_there}
use Rattle.flu_streams.proofs.Ticking.{span_has, last_held}

-- ---- clocks among what is held
-- nothing is read of a clock
abbrev pub ClocksAreShut : Program → List Inlet → Type 0
ClocksAreShut p inlets = AtEach (λ i s. (h : Inlet) → slice_get inlets i ≡ Some h → is_clock s ≡ true → h.closed ≡ true) p.sources

pub clocks_shut : (p : Program) (rows : ℕ) (border : Option ℕ) (inlets : List Inlet) → AreWell p rows border inlets → ClocksAreShut p inlets
clocks_shut p rows border inlets well = λ i s at h f. (well.each i s at h f).clock

pub behind_with : (p : Program) (rows : ℕ) (border : Option ℕ) (stage : Stage) (inlets : List Inlet) (lines : ℕ → List Next)
    → length inlets ≡ length p.sources → ClocksAreShut p inlets → AreBehind p border lines inlets
    → AreHeldBehind (holding p rows border stage inlets) lines
behind_with p rows border stage inlets lines count shut is = record {
  count = length-map inlets source_of ∙ count;
  clocks = λ i s at source f ticks.
      let k = from_mapped source_of inlets i source f in
      ap (λ (h : HeldSource). h.closed) k.2 ∙ shut i s at k.0 k.1 ticks;
  each = λ i s source e f.
      let k = from_mapped source_of inlets i source f in
      subst (λ h. IsHeldBehind (timing_of p i) p.kinds (first_itag p i) s border (lines i) h) (sym k.2) (is i s e k.0 k.1);
}

-- ---- the round
abbrev Whole : (ℕ → List Next) → List Inlet → Contents → (ℕ → List Next) → Type 0
Whole lines inlets left whole = AtEach (λ i source. whole i ≡ lines i ++ still source left) (map source_of inlets)

module _ (p : Program) (rows : ℕ) (border : Option ℕ) (before now whole : ℕ → List Next) (olds news : List Inlet) (a b : Option Contents) (x y : Contents)
    (ends : List Border) (count : length ends ≡ length p.sources) (e : a ≡ Some x) (f : b ≡ Some y) (all : Whole before olds x whole)
    (picks : AtEach (λ i s. IsChosen p rows border before olds news a b ends [] i s (now i)) p.sources) where
  read : (i : ℕ) (s : Source) → slice_get p.sources i ≡ Some s → IsReadAt p rows border before olds news a b ends i s (now i)
  read i s at = (picks i s at).0 (rw count (slice_get_within p.sources i s at))

  reads : (i : ℕ) (s : Source) (at : slice_get p.sources i ≡ Some s)
      → Reads (timing_of p i) p.kinds s rows border (whole i) (before i) (now i) (turn_of (read i s at).end)
  reads i s at =
      let r = read i s at in
      reads_at p rows border before olds news a b ends i s (now i) (whole i) x y r e f (all i (source_of r.old) (to_mapped source_of olds i r.old r.was))

  full_at : (end : Border) (t : ℕ) → end ≡ earliest ends → HasSpan (span_of p news) (ranks p now)
      → EndsByTicks p rows border (span_of p news) end (At t) → IsFull p rows border whole before now t
  full_at end t is has (Stays same) =
      let low = earliest_among ends t (sym (same ∙ is)) in
      let source = slice_get-there p.sources low.0 (rw (← count) (slice_get_within ends low.0 (At t) low.1)) in
      let own : (read low.0 source.0 source.1).end ≡ At t =
      one_there ends low.0 (read low.0 source.0 source.1).end (At t) (read low.0 source.0 source.1).at_end low.1 in
      BySource low.0 source.0 source.1
      (subst (λ o. Reads (timing_of p low.0) p.kinds source.0 rows border (whole low.0) (before low.0) (now low.0) (turn_of o)) own
      (reads low.0 source.0 source.1))
  full_at end t is has (Lowers i s u at last lt same) =
      let time : u ≡ t = cc in
      ByTick i s at (sym (last_held p rows border now news (take i p.sources, s) has) ∙ last ∙ ap Some time)

  pub round_by_ticks : (end low : Border) → end ≡ earliest ends → HasSpan (span_of p news) (ranks p now)
      → IsByTicks p rows border (span_of p news) end low → IsRound p rows border whole before now low
  round_by_ticks end Closed is has ticks = record {
    each = λ i s at.
        subst (λ o. Reads (timing_of p i) p.kinds s rows border (whole i) (before i) (now i) (turn_of o))
        (all_closed ends i (read i s at).end (sym is ∙ closed_below Closed end ticks.below refl) (read i s at).at_end) (reads i s at);
    few = λ i s at. sym (last_held p rows border now news (take i p.sources, s) has) ∙ ticks.most i s at;
  }
  round_by_ticks end (At t) is has ticks = record {
    each = λ i s at. (turn_of (read i s at).end, reads i s at, lowered_within ends i t end (read i s at).end is ticks.below (read i s at).at_end);
    few = λ i s at last own. ticks.most i s at last (last_held p rows border now news (take i p.sources, s) has ∙ own);
    full = full_at end t is has ticks.ends;
  }

  pub in_all_then : length news ≡ length p.sources → Whole now news y whole
  in_all_then size i source at =
      let k = from_mapped source_of news i source at in
      let s = slice_get-there p.sources i (rw (← size) (slice_get_within news i k.0 k.1)) in
      let r = read i s.0 s.1 in
      let more = r.reads.so_far.more in
      let same : source_of r.new ≡ source = ap source_of (one_there news i r.new k.0 r.is k.1) ∙ sym k.2 in
      let told : still (source_of r.old) x ≡ more ++ still (source_of r.new) y = at_told
      (λ was now. still (source_of r.old) was ≡ more ++ still (source_of r.new) now) a b x y e f r.reads.so_far.told in
      all i (source_of r.old) (to_mapped source_of olds i r.old r.was) ∙ ap (λ (rest : List Next). before i ++ rest) told
      ∙ sym (append_assoc (before i) more (still (source_of r.new) y)) ∙ ap (λ (l : List Next). l ++ still (source_of r.new) y) (sym r.now_is)
      ∙ ap (λ (h : HeldSource). now i ++ still h y) same

-- A REFILL FILLS A ROUND, which may end before all sources are settled, with the last tick of a clock
pub fills_by_ticks : (p : Program) (rows : ℕ) (border : Option ℕ) (stage stage' : Stage) (olds news : List Inlet) (a b : Option Contents)
    (Q : Contents → Contents → Type 0) (end low : Border) → length olds ≡ length p.sources → AreTimed p olds → ClocksAreShut p news
    → WhereTold a b Q → HasRefilled p rows olds news a b end → IsByTicks p rows border (span_of p news) end low
    → (before : ℕ → List Next) → AreHeldBehind (holding p rows border stage olds) before
    → Fills (holding p rows border stage olds) (holding p rows border stage' news) a b low before
fills_by_ticks p rows border stage stage' olds news a b Q end low count timed shut told has ticks before behind =
    let own = behind_at p rows border stage olds before behind in
    let picked = choose p rows border before olds news a b has.ends [] count timed own has.all in
    let now = picked.0 in
    let these : AreBehind p border now news = λ i s e h f.
    let r = (picked.1 i s e).0 (rw has.count (slice_get_within p.sources i s e)) in
    subst (λ l. IsHeldBehind (timing_of p i) p.kinds (first_itag p i) s border l (source_of h)) (sym r.now_is)
    (subst (λ (g : Inlet). IsHeldBehind (timing_of p i) p.kinds (first_itag p i) s border (before i ++ r.reads.so_far.more) (source_of g))
    (one_there news i r.new h r.is f) r.reads.so_far.behind) in
    let size : length news ≡ length p.sources = has.all.size ∙ count in
    let spanned : HasSpan (span_of p news) (ranks p now) = span_has p border now news size these in
    record {
      now = now;
      behind = behind_with p rows border stage' news now size shut these;
      round = told_from Q _ a b told (λ x y e f whole all. (
        round_by_ticks p rows border before now whole olds news a b x y has.ends has.count e f all picked.1 end low has.earliest spanned ticks,
        in_all_then p rows border before now whole olds news a b x y has.ends has.count e f all picked.1 size,
      ));
    }
