-- Where no source has a defect, none of the rows up to a border is read behind the round that comes to it.
use Rattle.std.proofs.Common.{◌≡◌, refl, sym, ap, ◌∙◌, subst, ℕ, List, [], ◌∷◌, ◌++◌, Option, Some, None}
use Rattle.std.specs.Prelude.{nat_lt, nat_le}
use Rattle.std.specs.List.{filter}
use Rattle.flu_lemmas.specs.Elements.{AtEach}
use Rattle.flu_model.specs.declared.events.Event.{Event as EventOf}
use Rattle.flu_model.specs.declared.events.Item.{Item}
use Rattle.flu_model.specs.declared.jobs.Kind.{Kind}
use Rattle.flu_model.specs.declared.jobs.Source.{Source}
use Rattle.flu_model.specs.declared.jobs.Program.{Program}
use Rattle.flu_model.specs.declared.moments.Timing.{Timing}
use Rattle.flu_model.specs.Merging.{all_events}
use Rattle.flu_model.specs.Moments.{time_of_moment, timing_of}
use Rattle.flu_outside.specs.Outside.{Contents as Files}
use Rattle.flu_rows.specs.declared.rows.Next.{Next}
use Rattle.flu_streams.specs.declared.border.Border.TheVariants.{At, Closed}
use Rattle.flu_streams.specs.declared.faults.Why.{Why}
use Rattle.flu_streams.specs.Before.{with_before, first_some, or_else}
use Rattle.flu_streams.specs.Borders.{AreCutAt, beyond}
use Rattle.flu_streams.specs.Fronts.{LawOfFronts, LawOfFrontsAbove, LawOfMeeting}
use Rattle.flu_streams.specs.Good.{lists_of}
use Rattle.flu_streams.specs.Rounds.{Turn, Open, Shut, Meets, Reads, IsWithin, IsRoundAt, Starts, GoesOn, ComesFrom, LinesIn, line_defect, defect_in}
use Rattle.flu_streams.specs.Rounds.{rows_between, lists_between}
use Rattle.flu_streams.specs.Tests.{rows_of}
use Rattle.flu_streams.proofs.BorderLaws.{folds_in_turn, items_are_cut}
use Rattle.flu_streams.proofs.LastRound.{whole_lists}
use Rattle.flu_streams.proofs.RoundLaws.{Exceeds, defect_in-append, nothing_later, front_of_whole, between_cut, round_exceeds, exceeds_start, no_events}
use Rattle.flu_streams.proofs.Ticks.{ReadsFurther, told_by, lists_kept}

-- the rows up to the border of a round are those that are up to it in all lines
all_up_to : (timing : Timing) (kinds : List Kind) (s : Source) (rows b : ℕ) (start above : Option ℕ) (whole before mid : List Next) (turn : Turn)
    → defect_in timing kinds s whole ≡ None
    → Reads timing kinds s rows above whole before mid turn → IsWithin b turn
    → rows_between start (At b) (rows_of whole) ≡ rows_between start (At b) (rows_of mid)
all_up_to timing kinds s rows b start above whole before mid (Open u) sound reads within =
    let is = reads.stops.0.1 in
    ap (λ l. rows_between start (At b) (rows_of l)) is
    ∙ nothing_later timing kinds s start b mid reads.stops.0.0 u (ap (defect_in timing kinds s) (sym is) ∙ sound) reads.stops.2 within
all_up_to timing kinds s rows b start above whole before mid Shut sound reads within = ap (λ l. rows_between start (At b) (rows_of l)) reads.stops.0
all_up_to timing kinds s rows b start above whole before mid (Meets row why) sound reads within = absurd within

-- what is read of a source up to the border of a round is what all its lines have up to it
pub all_further : (p : Program) (rows b : ℕ) (above : Option ℕ) (whole before mid : ℕ → List Next)
    → AtEach (λ i s. defect_in (timing_of p i) p.kinds s (whole i) ≡ None) p.sources
    → IsRoundAt p rows above whole before mid b → ReadsFurther p b mid whole
all_further p rows b above whole before mid sound was = record {
  further = λ i s e. let h = was.each i s e in front_of_whole (timing_of p i) p.kinds s rows above (whole i) (mid i) h.0 h.1.stops;
  same = λ i s e start. let h = was.each i s e in
      all_up_to (timing_of p i) p.kinds s rows b start above (whole i) (before i) (mid i) h.0 (sound i s e) h.1 h.2;
  told = told_by p rows b above whole before mid whole was (λ i s e shut. shut.stops.0);
}

-- all rows above the start of a run are cut at the border that it comes to
module _ (p : Program) (rows : ℕ) (whole : ℕ → List Next) (start : Option ℕ)
    (sound : AtEach (λ i s. defect_in (timing_of p i) p.kinds s (whole i) ≡ None) p.sources)
    (exceeds : (done : List (List (List Item))) (above : Option ℕ) (before mid : ℕ → List Next) (b : ℕ) → ComesFrom p rows whole start done above before
    → IsRoundAt p rows above whole before mid b → Exceeds b start) where
  cut_at : (done : List (List (List Item))) (above : Option ℕ) (before : ℕ → List Next) → ComesFrom p rows whole start done above before → (t : ℕ)
      → above ≡ Some t
      → AreCutAt p t (lists_between p start Closed whole) (lists_between p start (At t) before) (lists_between p (Some t) Closed whole)
  cut_at done above before (Starts reads none) t is =
      subst (λ (o : Option ℕ). AreCutAt p t (lists_between p o Closed whole) (lists_between p o (At t) reads) (lists_between p (Some t) Closed whole)) (sym is)
      (let cut = between_cut p t (Some t) Closed whole (λ n e. refl) (λ n e. e) in
      record { early = no_events p t reads ∙ sym (no_events p t whole) ∙ cut.early; late = cut.late })
  cut_at done above before (GoesOn done' above' before' mid b came was) t is =
      let same : b ≡ t = cc in
      let cut = between_cut p b start Closed whole (λ n e. refl) (exceeds done' above' before' mid b came was) in
      let there = subst (λ l. AreCutAt p b (lists_between p start Closed whole) l (lists_between p (Some b) Closed whole))
      (lists_kept p b mid whole (all_further p rows b above' whole before' mid sound was) start) cut in
      subst (λ n. AreCutAt p n (lists_between p start Closed whole) (lists_between p start (At n) mid) (lists_between p (Some n) Closed whole)) same there

pub law_of_fronts : LawOfFronts
law_of_fronts p opening rows whole done t before left lines sound came =
    let all = whole_lists p whole left lines sound in
    folds_in_turn p opening t (lists_of p left) (lists_between p None (At t) before) (lists_between p (Some t) Closed whole)
    (subst (λ l. AreCutAt p t l (lists_between p None (At t) before) (lists_between p (Some t) Closed whole)) all
    (cut_at p rows whole None sound (λ done above before mid b comes round n e. refl) done (Some t) before came t refl))

-- the events of the rows above a border are the later ones of all
later_events : (p : Program) (start : ℕ) (whole : ℕ → List Next) (left : Files) → LinesIn p left whole
    → AtEach (λ i s. defect_in (timing_of p i) p.kinds s (whole i) ≡ None) p.sources
    → all_events (lists_between p (Some start) Closed whole) ≡ all_events (beyond p start (lists_of p left))
later_events p start whole left lines sound =
    (between_cut p start None Closed whole (λ n e. refl) (λ n e. refl)).late
    ∙ ap (λ lists. filter (λ (x : EventOf). nat_lt start (time_of_moment p x.time)) (all_events lists)) (whole_lists p whole left lines sound)
    ∙ sym (items_are_cut p start (lists_of p left)).late

pub law_of_fronts_above : LawOfFrontsAbove
law_of_fronts_above p opening rows whole start done t before left one lines sound came =
    let first = lists_between p (Some start) (At t) before in
    let second = lists_between p (Some t) Closed whole in
    let cut = cut_at p rows whole (Some start) sound (λ done above before mid b comes round. exceeds_start p rows b whole
    (Some start) done above before one comes (round_exceeds p rows b above whole before mid one round)) done (Some t) before came t refl in
    let all = later_events p start whole left lines sound in
    folds_in_turn p opening t (beyond p start (lists_of p left)) first second (record {
      early = cut.early ∙ ap (filter (λ (x : EventOf). nat_le (time_of_moment p x.time) t)) all;
      late = cut.late ∙ ap (filter (λ (x : EventOf). nat_lt t (time_of_moment p x.time))) all;
    })

-- ---- a defect that is met
pub law_of_meeting : LawOfMeeting
law_of_meeting timing kinds s rows above whole before now row why reads =
    let next = reads.stops.0.0 in
    let rest = reads.stops.0.1 in
    let f = λ (e : List Next × Next). line_defect timing kinds s e.0 e.1 in
    ap (defect_in timing kinds s) reads.stops.0.2 ∙ defect_in-append timing kinds s now (next ∷ rest)
    ∙ ap (λ (o : Option (ℕ × Why)). or_else o (first_some f (with_before now (next ∷ rest)))) reads.sound
    ∙ ap (λ (o : Option (ℕ × Why)). or_else o (first_some f (with_before (now ++ next ∷ []) rest))) reads.stops.0.3
