-- What rounds have read has times and values in range; and behind the rounds up to a border the rest of a run is that of the later rows.
use Rattle.std.proofs.Common.{◌≡◌, ℕ, zero, suc, ◌+◌, ◌-◌, ◌<◌, ◌≤◌, ◌^◌, Bool, true, false, cond, Option, Some, None, List, [], ◌∷◌, refl, sym, ap}
use Rattle.std.proofs.Common.{subst, ◌∙◌, arith, append-nil, length, take}
use Rattle.std.specs.Prelude.{nat_le, nat_lt, slice_get, if◌then◌else◌}
use Rattle.std.proofs.lemmas.Bool.{le-ltb, lt-leb}
use Rattle.std.proofs.lemmas.List.{length-take-le}
use Rattle.std.proofs.lemmas.Option.{slice_get_within, slice_get_past}
use Rattle.std.specs.List.{AllByRecursion, filter}
use Rattle.flu_lemmas.specs.Elements.{AtEach}
use Rattle.flu_lemmas.proofs.Elements.{all_front}
use Rattle.flu_lemmas.specs.Sorting.{in_order}
use Rattle.flu_model.specs.declared.events.Event.{Event}
use Rattle.flu_model.specs.declared.events.Item.{Item}
use Rattle.flu_model.specs.declared.jobs.Kind.{Kind}
use Rattle.flu_model.specs.declared.jobs.Source.{Source}
use Rattle.flu_model.specs.declared.jobs.Program.{Program}
use Rattle.flu_model.specs.declared.moments.Timing.{Timing}
use Rattle.flu_model.specs.Moments.{moments_a_time, time_of_moment, timing_of}
use Rattle.flu_model.specs.Rules.{is_clock}
use Rattle.flu_model.specs.Merging.{all_events, merged, is_before}
use Rattle.flu_outside.specs.Outside.{Contents as Files}
use Rattle.flu_outside.specs.Taking.{bytes_left}
use Rattle.flu_rows.specs.Laws.{TimesAreInRange}
use Rattle.flu_model.specs.Erasure.{job_of}
use Rattle.flu_rows.specs.Row.{form_of}
use Rattle.flu_rows.specs.Reading.{read_file}
use Rattle.flu_rows.specs.declared.rows.Next.{Next}
use Rattle.flu_streams.specs.declared.border.Border.TheVariants.{Closed}
use Rattle.flu_streams.specs.Borders.{ItemsAreCut, beyond}
use Rattle.flu_streams.specs.Good.{lists_of}
use Rattle.flu_streams.specs.Rounds.{Turn, Open, Shut, Meets, Reads, IsWithin, IsFull, BySource, ByTick, IsRound, IsRoundAt, ComesFrom, Starts, GoesOn}
use Rattle.flu_streams.specs.Rounds.{LawOfLastRound, LawOfLastAbove, LinesIn, count_settled, defect_in, ticks_between, lists_between, settled}
use Rattle.flu_streams.specs.Tests.{rows_of, times_of, greatest, margin}
use Rattle.flu_command.proofs.TickRanges.{all_at, between_low}
use Rattle.flu_command.proofs.RowRanges.{NextFits, LinesFit, EventFits, file_read, latest_low, all_events_fit, lists_between_fit}

-- ---- what a round has read
turn_fits : (timing : Timing) (kinds : List Kind) (s : Source) (rows : ℕ) (above : Option ℕ) (whole before now : List Next) (t : ℕ) (turn : Turn)
    → Reads timing kinds s rows above whole before now turn → IsWithin t turn → AllByRecursion NextFits whole → AllByRecursion NextFits now
turn_fits timing kinds s rows above whole before now t (Open u) reads within fit =
    let stop = reads.stops.0 in
    all_front NextFits now stop.0 (subst (AllByRecursion NextFits) stop.1 fit)
turn_fits timing kinds s rows above whole before now t Shut reads within fit = subst (AllByRecursion NextFits) reads.stops.0 fit
turn_fits timing kinds s rows above whole before now t (Meets row why) reads within fit = absurd within

settled_from : (behind : ℕ) (o : Option ℕ) (t : ℕ) → settled behind o ≡ Some t → (last : ℕ) × (o ≡ Some last) × (t ≤ last)
settled_from behind None t e = absurd cc
settled_from behind (Some last) t e = (last, refl, by (nat_le behind last) e)
  where
    by : (b : Bool) → cond b (Some (last - behind)) None ≡ Some t → t ≤ last
    by true f = let same : last - behind ≡ t = cc in omega (arith, same)
    by false f = absurd cc

-- the lines of files, by the source's number
lines_of_files : TimesAreInRange → (p : Program) (left : Files) (whole : ℕ → List Next) → LinesIn p left whole
    → AtEach (λ i s. AllByRecursion NextFits (whole i)) p.sources
lines_of_files times p left whole is i s at = subst (AllByRecursion NextFits) (sym (is i s at)) (by (is_clock s))
  where
    by : (b : Bool) → AllByRecursion NextFits (if b then [] else read_file (form_of (job_of p)) (bytes_left left s.file))
    by true = tt
    by false = file_read times (form_of (job_of p)) (bytes_left left s.file)

-- a round with a border, and some border of it
pub record RoundTo (p : Program) (rows : ℕ) (whole : ℕ → List Next) (above : Option ℕ) (before : ℕ → List Next) : Type 0 where
  pub border : ℕ
  pub is : above ≡ Some border
  pub last : Option ℕ
  pub reads : ℕ → List Next
  pub round : IsRoundAt p rows last whole reads before border

pub round_to : (p : Program) (rows : ℕ) (whole : ℕ → List Next) (start : Option ℕ) (done : List (List (List Item))) (above : Option ℕ) (before : ℕ → List Next)
    → ComesFrom p rows whole start done above before → (done ≡ [] → ⊥) → RoundTo p rows whole above before
round_to p rows whole start done above before (Starts reads none) some = absurd (some refl)
round_to p rows whole start done above before (GoesOn others last reads now t comes round) some =
    record { border = t; is = refl; last = last; reads = reads; round = round }

module _ (p : Program) (rows : ℕ) (whole : ℕ → List Next) (fit : LinesFit p whole) (above : Option ℕ) (before : ℕ → List Next)
    (to : RoundTo p rows whole above before) where
  pub round_fits : LinesFit p before
  round_fits = record {
    each = λ i s at.
        let turn = to.round.each i s at in
        turn_fits (timing_of p i) p.kinds s rows to.last (whole i) (to.reads i) (before i) to.border turn.0 turn.1 turn.2 (fit.each i s at);
    sound = λ i s at. (to.round.each i s at).1.sound;
  }

  pub border_low : to.border < 2 ^ 63
  border_low = by to.round.full
    where
      -- it is settled behind a row, or it is the tick of a clock
      by : IsFull p rows to.last whole to.reads before to.border → to.border < 2 ^ 63
      by (BySource i s there reads) =
          let last = settled_from (margin (timing_of p i) s.slack) (greatest (times_of (rows_of (before i)))) to.border reads.stops.2 in
          let low = latest_low (before i) last.0 (round_fits.each i s there) last.1 in
          let late = last.2 in
          omega (arith, low, late)
      by (ByTick i s there last) =
          let lt = slice_get_within p.sources i s there in
          let earlier = take i p.sources in
          let here : slice_get p.sources (length earlier) ≡ Some s = ap (slice_get p.sources) (length-take-le i p.sources (omega (arith, lt))) ∙ there in
          all_at (λ t. t < 2 ^ 63) (ticks_between p to.last Closed before (earlier, s)) (rows - 1) to.border
          (between_low p before round_fits.sound earlier s here to.last Closed) last

-- ---- all rows
-- each number of a list's elements is below some number
most : {X : Type 0} (f : ℕ → X → ℕ) (xs : List X) → (n : ℕ) × AtEach (λ i x. f i x < n) xs
most f [] = (0, λ i x at. absurd cc)
most {X} f (x ∷ xs) =
    let rest = most (λ i. f (suc i)) xs in
    (suc (f 0 x + rest.0), below rest.0 rest.1)
  where
    below : (m : ℕ) → AtEach (λ i y. f (suc i) y < m) xs → (i : ℕ) (y : X) → slice_get (x ∷ xs) i ≡ Some y → f i y < suc (f 0 x + m)
    below m rest zero y at = let same : x ≡ y = cc in subst (λ z. f 0 z < suc (f 0 x + m)) same (omega arith)
    below m rest (suc i) y at = let low = rest i y at in omega (arith, low)

module _ (p : Program) (left : Files) (whole : ℕ → List Next) (lines : LinesIn p left whole)
    (sound : AtEach (λ i s. defect_in (timing_of p i) p.kinds s (whole i) ≡ None) p.sources) where
  -- the ticks of a clock
  abbrev all_ticks : ℕ → Source → List ℕ
  all_ticks i s = ticks_between p None Closed whole (take i p.sources, s)

  -- a round that asks for more rows and ticks than there are reads all of them
  bound : (n : ℕ) × AtEach (λ i (s : Source). count_settled (timing_of p i) None s (whole i) + length (all_ticks i s) < n) p.sources
  bound = most (λ i (s : Source). count_settled (timing_of p i) None s (whole i) + length (all_ticks i s)) p.sources

  read_all : IsRound p bound.0 None whole whole whole Closed
  read_all = record {
    each = λ i s at. record {
      more = [];
      further = sym (append-nil (whole i));
      sound = sound i s at;
      shortest = λ k low. absurd (omega (arith, low));
      stops = (refl, lt-leb bound.0 (count_settled (timing_of p i) None s (whole i)) (let few = bound.1 i s at in omega (arith, few)));
    };
    few = λ i s at. slice_get_past (all_ticks i s) (bound.0 - 1) (let few = bound.1 i s at in omega (arith, few));
  }

  pub all_rows : LawOfLastRound → lists_between p None Closed whole ≡ lists_of p left
  all_rows last = last p bound.0 None whole whole whole left lines read_all

  pub later_rows : LawOfLastAbove → (t : ℕ) → merged (lists_between p (Some t) Closed whole) ≡ merged (beyond p t (lists_of p left))
  later_rows later t = later p bound.0 None whole whole whole left t lines read_all

  pub fit : TimesAreInRange → LinesFit p whole
  fit times = record { each = lines_of_files times p left whole lines; sound = sound }

  pub all_fit : TimesAreInRange → LawOfLastRound → AllByRecursion (EventFits (moments_a_time p)) (all_events (lists_of p left))
  all_fit times last =
      subst (λ (lists : List (List Item)). AllByRecursion (EventFits (moments_a_time p)) (all_events lists)) (all_rows last)
      (all_events_fit (moments_a_time p) (lists_between p None Closed whole) (lists_between_fit p None Closed whole (fit times)))

  -- no row is later than the greatest border
  none_late : (xs : List Event) → AllByRecursion (EventFits (moments_a_time p)) xs → filter (λ x. nat_lt 9223372036854775807 (time_of_moment p x.time)) xs ≡ []
  none_late [] all = refl
  none_late (x ∷ xs) all =
      ap (λ b. cond b (x ∷ filter (λ y. nat_lt 9223372036854775807 (time_of_moment p y.time)) xs)
      (filter (λ y. nat_lt 9223372036854775807 (time_of_moment p y.time)) xs))
      (le-ltb 9223372036854775807 (time_of_moment p x.time) (omega (arith, all.0.0))) ∙ none_late xs all.1

  pub none_beyond : TimesAreInRange → LawOfLastRound → ItemsAreCut → merged (beyond p 9223372036854775807 (lists_of p left)) ≡ []
  none_beyond times last cut =
      ap (in_order is_before) ((cut p 9223372036854775807 (lists_of p left)).late ∙ none_late (all_events (lists_of p left)) (all_fit times last))
