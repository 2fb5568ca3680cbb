-- Behind the last round all rows and ticks of the sources were run.
use Rattle.std.proofs.Common.{◌≡◌, ℕ, true, false, List, [], ◌∷◌, length, None, refl, sym, ap, ◌∙◌}
use Rattle.std.specs.Prelude.{nat_lt, sum_by, if◌then◌else◌}
use Rattle.std.specs.List.{filter}
use Rattle.flu_lemmas.specs.Elements.{AtEach}
use Rattle.flu_lemmas.specs.Sorting.{in_order}
use Rattle.flu_lemmas.proofs.Elements.{all_map}
use Rattle.flu_model.specs.declared.events.Event.{Event as EventOf}
use Rattle.flu_model.specs.declared.jobs.Program.{Program}
use Rattle.flu_model.specs.Erasure.{job_of}
use Rattle.flu_model.specs.Merging.{is_before, all_events}
use Rattle.flu_model.specs.Moments.{time_of_moment, timing_of}
use Rattle.flu_model.specs.Rules.{is_clock}
use Rattle.flu_outside.specs.Outside.{Contents}
use Rattle.flu_rows.specs.Row.{form_of}
use Rattle.flu_rows.specs.declared.rows.Next.{Next}
use Rattle.flu_streams.specs.declared.border.Border.TheVariants.{Closed}
use Rattle.flu_streams.specs.Before.{each_with_before}
use Rattle.flu_streams.specs.Clocks.{Declared, ticks_of, lists_of_ticks}
use Rattle.flu_streams.specs.Good.{rows_in, ticks_in, lists_of_rows, lists_of_source, lists_of}
use Rattle.flu_streams.specs.Rounds.{defect_in, is_within, ranks, rows_between, ticks_between, lists_between, LinesIn, LawOfLastRound, LawOfLastAbove}
use Rattle.flu_streams.specs.Tags.{width}
use Rattle.flu_streams.specs.Tests.{rows_of}
use Rattle.flu_streams.proofs.BorderLaws.{items_are_cut}
use Rattle.flu_streams.proofs.RoundEnds.{whole_rows}
use Rattle.flu_streams.proofs.RoundLaws.{between_cut, each_source, flat_same}
use Rattle.flu_streams.proofs.Ticks.{ranks_alike}

-- ---- all ticks
all_within : (ticks : List ℕ) → filter (is_within None Closed) ticks ≡ ticks
all_within [] = refl
all_within (t ∷ ticks) = ap (λ l. t ∷ l) (all_within ticks)

module _ (p : Program) (now : ℕ → List Next) (left : Contents)
    (same : AtEach (λ i s. rows_of (now i) ≡ rows_in (form_of (job_of p)) left s) p.sources)
    (sound : AtEach (λ i s. defect_in (timing_of p i) p.kinds s (now i) ≡ None) p.sources) where
  all_ticks : (e : Declared) → ticks_between p None Closed now e ≡ ticks_in p left e
  all_ticks e =
      all_within (ticks_of p (ranks p now) e)
      ∙ ap (λ rs. ticks_of p rs e) (ranks_alike p _ _ (each_source (λ i s. rows_of (now i) ≡ rows_in (form_of (job_of p)) left s) p.sources same))

  source_lists : (e : Declared) → rows_of (now (length e.0)) ≡ rows_in (form_of (job_of p)) left e.1
      → defect_in (timing_of p (length e.0)) p.kinds e.1 (now (length e.0)) ≡ None
      → lists_of_source p (rows_between None Closed (rows_of (now (length e.0)))) (ticks_between p None Closed now e) e
      ≡ lists_of_source p (rows_in (form_of (job_of p)) left e.1) (ticks_in p left e) e
  source_lists e rows fine =
      let timing = timing_of p (length e.0) in
      let first = sum_by width e.0 in
      let lines = now (length e.0) in
      elim (is_clock e.1) as (λ c. (if c then lists_of_ticks timing e.1 first (ticks_between p None Closed now e)
      else lists_of_rows timing p.kinds e.1 first (rows_between None Closed (rows_of lines)))
      ≡ (if c then lists_of_ticks timing e.1 first (ticks_in p left e) else lists_of_rows timing p.kinds e.1 first (rows_in (form_of (job_of p)) left e.1))) [
        | true ↦ ap (lists_of_ticks timing e.1 first) (all_ticks e)
        | false ↦ whole_rows timing p.kinds e.1 first lines fine ∙ ap (lists_of_rows timing p.kinds e.1 first) rows
      ]

  lists_are : lists_between p None Closed now ≡ lists_of p left
  lists_are =
      flat_same _ _ (each_with_before p.sources)
      (all_map (λ (e : Declared). (rows_of (now (length e.0)) ≡ rows_in (form_of (job_of p)) left e.1)
      × (defect_in (timing_of p (length e.0)) p.kinds e.1 (now (length e.0)) ≡ None)) _ (each_with_before p.sources)
      (λ e h. source_lists e h.0 h.1)
      (each_source (λ i s. (rows_of (now i) ≡ rows_in (form_of (job_of p)) left s) × (defect_in (timing_of p i) p.kinds s (now i) ≡ None)) p.sources
      (λ i s e. (same i s e, sound i s e))))

-- all lines of the sources
pub whole_lists : (p : Program) (whole : ℕ → List Next) (left : Contents) → LinesIn p left whole
    → AtEach (λ i s. defect_in (timing_of p i) p.kinds s (whole i) ≡ None) p.sources
    → lists_between p None Closed whole ≡ lists_of p left
whole_lists p whole left lines sound = lists_are p whole left (λ i s e. ap rows_of (lines i s e)) sound

-- ---- the last round
pub law_of_last_round : LawOfLastRound
law_of_last_round p rows above whole before now left lines round =
    lists_are p now left (λ i s e. ap rows_of (sym (round.each i s e).stops.0 ∙ lines i s e)) (λ i s e. (round.each i s e).sound)

pub law_of_last_above : LawOfLastAbove
law_of_last_above p rows above whole before now left t lines round =
    let all = law_of_last_round p rows above whole before now left lines round in
    let cut = between_cut p t None Closed now (λ n e. refl) (λ n e. refl) in
    ap (in_order is_before)
    (cut.late ∙ ap (λ lists. filter (λ (x : EventOf). nat_lt t (time_of_moment p x.time)) (all_events lists)) all
    ∙ sym (items_are_cut p t (lists_of p left)).late)
