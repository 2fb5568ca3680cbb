-- What a checkpoint that a run has put opens is the rest of the run.
use Rattle.std.proofs.Common.{◌≡◌, refl, sym, ap, ◌∙◌, subst, ℕ, ◌<◌, ◌≤◌, ◌^◌, List, [], ◌∷◌, ◌++◌, Option, Some, None, inl, inr, append-nil, append_assoc}
use Rattle.std.proofs.Common.{arith, Bool, true, false, cond}
use Rattle.std.specs.Prelude.{slice_get, option_map, unwrap_or, Contains, if◌then◌else◌}
use Rattle.std.specs.List.{AllByRecursion}
use Rattle.std.specs.Option.{option_map_or}
use Rattle.std.specs.Str.{bytes_eq}
use Rattle.std.proofs.lemmas.Slice.Eq.{bytes_eq-Decides}
use Rattle.flu_lemmas.proofs.Elements.{all_map}
use Rattle.flu_laws.specs.Updating.{FoldKeepsSorts}
use Rattle.flu_model.specs.declared.events.Event.{Event}
use Rattle.flu_model.specs.declared.events.Item.{Item}
use Rattle.flu_model.specs.declared.jobs.Source.{Source}
use Rattle.flu_model.specs.declared.jobs.Program.{Program}
use Rattle.flu_model.specs.Contents.{Contents as State, nothing_held}
use Rattle.flu_model.specs.Erasure.{job_of}
use Rattle.flu_model.specs.Folding.{final_state, final_outputs, state_after, outputs_of}
use Rattle.flu_model.specs.Merging.{merged}
use Rattle.flu_model.specs.Moments.{moments_a_time}
use Rattle.flu_model.specs.Reports.{report}
use Rattle.flu_model.specs.Rules.{is_clock}
use Rattle.flu_grammar.specs.Laws.{NormalFormIsShort, NormalFormIsUtf8}
use Rattle.flu_outside.specs.Outside.{Contents}
use Rattle.flu_outside.specs.Taking.{bytes_left}
use Rattle.flu_rows.specs.declared.rows.Next.{Next}
use Rattle.flu_rows.specs.Laws.{TimesAreInRange}
use Rattle.flu_rows.specs.Row.{form_of}
use Rattle.flu_rows.specs.Reading.{read_file}
use Rattle.flu_streams.specs.declared.border.Border.TheVariants.{At, Closed}
use Rattle.flu_streams.specs.Before.{each_with_before}
use Rattle.flu_streams.specs.Borders.{FoldsInTurn, ItemsAreCut, beyond}
use Rattle.flu_streams.specs.Clocks.{Declared, ranks_among, ticks_of}
use Rattle.flu_streams.specs.Files.{files_of}
use Rattle.flu_streams.specs.Fronts.{LawOfFronts, LawOfFrontsAbove}
use Rattle.flu_streams.specs.Good.{lines_in as lines_of_source, lists_of, lists_of_source, rows_in}
use Rattle.flu_streams.specs.Rounds.{ComesFrom, LawOfLastRound, LawOfLastAbove, LinesIn, lists_between}
use Rattle.flu_streams.specs.Tests.{rows_of}
use Rattle.flu_streams.proofs.RoundLaws.{each_source, flat_same}
use Rattle.flu_streams.proofs.Ticks.{ranks_alike}
use Rattle.flu_rounds.specs.Written.{AreSound, lines_in, lists_above, text_up_from}
use Rattle.flu_save.specs.Checkpoint.{IsSavable, save}
use Rattle.flu_save.specs.Forms.{IsSave, IsFaultOf}
use Rattle.flu_save.specs.Laws.{LawOfSaves, SavesHaveNoFault, SavesMeanThemselves}
use Rattle.flu_command.specs.Behind.{emptied_each, lists_behind}
use Rattle.flu_command.specs.Emptied.{emptied}
use Rattle.flu_command.specs.Openings.{Opening, OpensAt, report_from, state_from}
use Rattle.flu_command.specs.Reading.{HaveWritten, checkpoint_at, greatest_border, lines_behind, put_by, rows_in_round}
use Rattle.flu_command.specs.Resting.{IsOpeningOf, HasPut, Behind, AtTheEnd, IsRest, CheckpointsOpenTheRest, GoOn, Begun, Resumed, RunsGoOn, CheckpointsOpen}
use Rattle.flu_command.specs.Resting.{SourcesDecide, CheckpointsLeaveSources}
use Rattle.flu_command.proofs.Widths.{TagsFit, HasWord, fold_words}
use Rattle.flu_command.proofs.RowRanges.{EventFits, merged_fit}
use Rattle.flu_command.proofs.Starts.{file_there}
use Rattle.flu_command.proofs.Rests.{RoundTo, round_to, round_fits, border_low, all_rows, later_rows, none_beyond, fit}

-- ---- the laws that this rests on
pub record LawsOfRests : Type 0 where
  pub times : TimesAreInRange
  pub tags : TagsFit
  pub sorts : FoldKeepsSorts
  pub fronts : LawOfFronts
  pub fronts_above : LawOfFrontsAbove
  pub last : LawOfLastRound
  pub later : LawOfLastAbove
  pub cut : ItemsAreCut
  pub saves : LawOfSaves
  pub no_fault : SavesHaveNoFault
  pub meaning : SavesMeanThemselves

-- ---- openings
nothing_savable : (p : Program) → IsSavable p.families nothing_held
nothing_savable p = record { sorts = λ c. tt; width = λ c. tt }

opening_savable : (p : Program) (o : Opening) → IsOpeningOf p o → IsSavable p.families o.cells
opening_savable p o (inl new) = subst (λ (q : Opening). IsSavable p.families q.cells) (sym new.0) (nothing_savable p)
opening_savable p o (inr saved) = saved.1.save.checkpoint.state

opening_some : (p : Program) (o : Opening) → IsOpeningOf p o → 1 ≤ o.rows
opening_some p o (inl new) = new.1
opening_some p o (inr saved) = saved.1.some

-- an opening with this number of rows, this border and these cells
abbrev pub opening_at : ℕ → ℕ → State → Opening
opening_at rows t s = record { border = Some t; cells = s; rows = rows }

-- a checkpoint opens what it was made of, and nothing else
opens_itself : SavesMeanThemselves → (p : Program) (t : ℕ) (s : State) (checkpoint : List ℕ) (rest : Opening) → t < 2 ^ 63 → IsSavable p.families s
    → checkpoint ≡ save p t s → OpensAt p checkpoint rest → rest ≡ opening_at rest.rows t s
opens_itself meaning p t s checkpoint rest border savable is opens =
    let same = meaning p t opens.time s rest.cells border savable (subst (λ (bytes : List ℕ). IsSave p opens.time rest.cells bytes) is opens.save) in
    λ i. record { border = (opens.above ∙ ap Some same.0) i; cells = same.1 i; rows = rest.rows }

module _ (laws : LawsOfRests) (p : Program) (o : Opening) (left : Contents) (whole : ℕ → List Next) (lines : LinesIn p left whole)
    (sound : AreSound p whole) (can : IsOpeningOf p o) where
  abbrev items : List (List Item)
  items = lists_above p o.border (lists_of p left)

  -- a fold of events in range gives a state that can be saved
  state_savable : (lists : List (List Item)) → AllByRecursion (EventFits (moments_a_time p)) (merged lists) → IsSavable p.families (final_state p o.cells lists)
  state_savable lists fits =
      let start = opening_savable p o can in
      record {
        sorts = laws.sorts p o.cells lists start.sorts;
        width = fold_words laws.tags p o.cells (merged lists)
            (all_map (EventFits (moments_a_time p)) HasWord (merged lists) (λ x both. both.1) fits) start.width;
      }

  -- ---- behind some round
  module _ (t : ℕ) (done : List (List (List Item))) (before : ℕ → List Next)
      (comes : ComesFrom p o.rows whole o.border done (Some t) before) where
    abbrev early : List (List Item)
    early = lists_between p o.border (At t) before

    abbrev cells : State
    cells = final_state p o.cells early

    folds : FoldsInTurn p o.cells items early (lists_between p (Some t) Closed whole)
    folds = by o.border comes
      where
        by : (border : Option ℕ) → ComesFrom p o.rows whole border done (Some t) before
            → FoldsInTurn p o.cells (lists_above p border (lists_of p left)) (lists_between p border (At t) before) (lists_between p (Some t) Closed whole)
        by None came = laws.fronts p o.cells o.rows whole done t before left lines sound came
        by (Some start) came = laws.fronts_above p o.cells o.rows whole start done t before left (opening_some p o can) lines sound came

    late : merged (lists_between p (Some t) Closed whole) ≡ merged (beyond p t (lists_of p left))
    late = later_rows p left whole lines sound laws.later t

    pub report_of_both : report p (final_outputs p o.cells items)
        ≡ report p (final_outputs p o.cells early) ++ report p (final_outputs p cells (beyond p t (lists_of p left)))
    report_of_both = folds.lines ∙ ap (λ (xs : List Event). report p (final_outputs p o.cells early) ++ report p (outputs_of p cells xs)) late

    pub state_of_both : final_state p o.cells items ≡ final_state p cells (beyond p t (lists_of p left))
    state_of_both = folds.state ∙ ap (state_after p cells) late

    module _ (some : done ≡ [] → ⊥) where
      to : RoundTo p o.rows whole (Some t) before
      to = round_to p o.rows whole o.border done (Some t) before comes some

      same_border : to.border ≡ t
      same_border = let e = to.is in cc

      pub border_fits : t < 2 ^ 63
      border_fits =
          subst (λ (n : ℕ). n < 2 ^ 63) same_border (border_low p o.rows whole (fit p left whole lines sound laws.times) (Some t) before to)

      pub cells_savable : IsSavable p.families cells
      cells_savable =
          state_savable early (merged_fit p o.border (At t) before
          (round_fits p o.rows whole (fit p left whole lines sound laws.times) (Some t) before to))

  -- ---- behind all rounds
  all_savable : IsSavable p.families (final_state p o.cells items)
  all_savable = state_savable items (by o.border)
    where
      by : (border : Option ℕ) → AllByRecursion (EventFits (moments_a_time p)) (merged (lists_above p border (lists_of p left)))
      by None =
          subst (λ (lists : List (List Item)). AllByRecursion (EventFits (moments_a_time p)) (merged lists)) (all_rows p left whole lines sound laws.last)
          (merged_fit p None Closed whole (fit p left whole lines sound laws.times))
      by (Some start) =
          subst (AllByRecursion (EventFits (moments_a_time p))) (later_rows p left whole lines sound laws.later start)
          (merged_fit p (Some start) Closed whole (fit p left whole lines sound laws.times))

  nothing_later : merged (beyond p greatest_border (lists_of p left)) ≡ []
  nothing_later = none_beyond p left whole lines sound laws.times laws.last laws.cut

-- ---- what was put
-- the border and the state of a checkpoint that was put, and that what it opens is the rest, in rounds of any number of rows
pub record IsPut (p : Program) (o : Opening) (texts : List (List ℕ)) (left : Contents) (text checkpoint : List ℕ) : Type 0 where
  pub border : ℕ
  pub cells : State
  pub is : checkpoint ≡ save p border cells
  pub in_range : border < 2 ^ 63
  pub savable : IsSavable p.families cells
  pub rest : (rows : ℕ) → IsRest p o (opening_at rows border cells) texts left text

lines_are_in : (p : Program) (left : Contents) → LinesIn p left (lines_in p left)
lines_are_in p left i s at =
    ap (λ (found : Option Source). option_map_or (lines_of_source (form_of (job_of p)) left) found []) at

put_by_some : (p : Program) (o : Opening) (done : List (List (List Item))) (border : Option ℕ) (lines : ℕ → List Next) (checkpoint : List ℕ)
    → Some checkpoint ≡ put_by p o done border lines
    → (done ≡ [] → ⊥) × ((t : ℕ) × (border ≡ Some t) × (checkpoint ≡ checkpoint_at p o t lines))
put_by_some p o [] border lines checkpoint is = absurd cc
put_by_some p o (round ∷ rounds) None lines checkpoint is = absurd cc
put_by_some p o (round ∷ rounds) (Some t) lines checkpoint is = (λ none. absurd (not_empty none), (t, refl, cc))
  where
    not_empty : round ∷ rounds ≡ [] → ⊥
    not_empty e = cc

module _ (laws : LawsOfRests) (p : Program) (o : Opening) (texts : List (List ℕ)) (left : Contents) (sound : AreSound p (lines_behind texts left p))
    (can : IsOpeningOf p o) where
  abbrev files : Contents
  files = emptied_each texts left

  abbrev whole : ℕ → List Next
  whole = lines_behind texts left p

  lines : LinesIn p (emptied_each texts left) (lines_behind texts left p)
  lines = lines_are_in p (emptied_each texts left)

  put_behind_round : (text checkpoint : List ℕ) (written : HaveWritten p o (lines_behind texts left p) text (Some checkpoint))
      → IsPut p o texts left text checkpoint
  unfolding lists_behind
  put_behind_round text checkpoint written =
      let ran = written.ran in
      let found = put_by_some p o ran.done written.border ran.before checkpoint written.saved in
      let t = found.1.0 in
      let comes : ComesFrom p o.rows whole o.border ran.done (Some t) ran.before =
      subst (λ (border : Option ℕ). ComesFrom p o.rows whole o.border ran.done border ran.before) found.1.1 ran.comes in
      let wrote : text ≡ report p (final_outputs p o.cells (lists_between p o.border (At t) ran.before)) =
      ran.text ∙ ap (λ (border : Option ℕ). text_up_from p o.border o.cells border ran.before) found.1.1 in
      record {
        border = t;
        cells = final_state p o.cells (lists_between p o.border (At t) ran.before);
        is = found.1.2;
        in_range = border_fits laws p o files whole lines sound can t ran.done ran.before comes found.0;
        savable = cells_savable laws p o files whole lines sound can t ran.done ran.before comes found.0;
        rest = λ rows. record {
          report = report_of_both laws p o files whole lines sound can t ran.done ran.before comes
              ∙ ap (λ (bytes : List ℕ). bytes ++ report p (final_outputs p (final_state p o.cells (lists_between p o.border (At t) ran.before))
              (beyond p t (lists_of p files)))) (sym wrote);
          state = state_of_both laws p o files whole lines sound can t ran.done ran.before comes;
        };
      }

  put_at_the_end : (text checkpoint : List ℕ) → text ≡ report_from o texts left p → checkpoint ≡ save p greatest_border (state_from o texts left p)
      → IsPut p o texts left text checkpoint
  unfolding lists_behind
  put_at_the_end text checkpoint wrote is =
      let cells = state_from o texts left p in
      let none = nothing_later laws p o files whole lines sound can in
      record {
        border = greatest_border;
        cells = cells;
        is = is;
        in_range = omega arith;
        savable = all_savable laws p o files whole lines sound can;
        rest = λ rows. record {
          report = sym (append-nil (report_from o texts left p)) ∙ ap (λ (bytes : List ℕ). bytes ++ []) (sym wrote)
              ∙ ap (λ (xs : List Event). text ++ report p (outputs_of p cells xs)) (sym none);
          state = ap (state_after p cells) (sym none);
        };
      }

  pub put_is_rest : (text checkpoint : List ℕ) → HasPut p o texts left text checkpoint → IsPut p o texts left text checkpoint
  put_is_rest text checkpoint (Behind written) = put_behind_round text checkpoint written
  put_is_rest text checkpoint (AtTheEnd wrote is) = put_at_the_end text checkpoint wrote is

-- ---- laws
pub opens_the_rest : LawsOfRests → CheckpointsOpenTheRest
opens_the_rest laws p o rest texts left text checkpoint sound can put opens =
    let is = put_is_rest laws p o texts left sound can text checkpoint put in
    subst (λ (r : Opening). IsRest p o r texts left text)
    (sym (opens_itself laws.meaning p is.border is.cells checkpoint rest is.in_range is.savable is.is opens)) (is.rest rest.rows)

go_on : LawsOfRests → (p : Program) (texts : List (List ℕ)) (left : Contents) → AreSound p (lines_behind texts left p)
    → (o last : Opening) (text : List ℕ) → IsOpeningOf p o → GoOn p texts left o text last → IsRest p o last texts left text
go_on laws p texts left sound o last text can (Begun same) = record { report = refl; state = refl }
go_on laws p texts left sound o last text can (Resumed first next final front more checkpoint put opens others) =
    let one = opens_the_rest laws p o next texts left front checkpoint sound can put opens in
    let rest = go_on laws p texts left sound next last more (inr (checkpoint, opens)) others in
    record {
      report = one.report ∙ ap (λ (bytes : List ℕ). front ++ bytes) rest.report ∙ sym (append_assoc front more (report_from last texts left p));
      state = one.state ∙ rest.state;
    }

pub runs_go_on : LawsOfRests → RunsGoOn
runs_go_on laws p o last texts left text sound can runs = go_on laws p texts left sound o last text can runs

pub checkpoints_open : LawsOfRests → NormalFormIsShort → NormalFormIsUtf8 → CheckpointsOpen
checkpoints_open laws are_short are_utf8 p job o texts left text checkpoint job_text sound can put =
    let short = are_short p job job_text in
    let utf8 = are_utf8 job (job_of p) job_text in
    let is = put_is_rest laws p o texts left sound can text checkpoint put in
    let saved = laws.saves p is.border is.cells is.in_range is.savable short utf8 in (
      (
        opening_at rows_in_round is.border is.cells,
        record {
          time = is.border;
          above = refl;
          save = subst (λ (bytes : List ℕ). IsSave p is.border is.cells bytes) (sym is.is) saved;
          some = omega arith;
        },
      ),
      λ fault found. laws.no_fault p is.border is.cells is.in_range is.savable short utf8 fault
          (subst (λ (bytes : List ℕ). IsFaultOf p bytes fault) is.is found),
    )

-- ---- sources
module _ (p : Program) (one other : Contents) (same : (name : List ℕ) → Contains (files_of p.sources) name → bytes_left other name ≡ bytes_left one name) where
  -- of a source; a clock has no lines
  same_source : (i : ℕ) (s : Source) → slice_get p.sources i ≡ Some s
      → lines_of_source (form_of (job_of p)) other s ≡ lines_of_source (form_of (job_of p)) one s
  same_source i s at = by (is_clock s) (λ has. same s.file (file_there p.sources i s at has))
    where
      by : (b : Bool) → (b ≡ false → bytes_left other s.file ≡ bytes_left one s.file)
          → (if b then [] else read_file (form_of (job_of p)) (bytes_left other s.file))
          ≡ (if b then [] else read_file (form_of (job_of p)) (bytes_left one s.file))
      by true bytes = refl
      by false bytes = ap (read_file (form_of (job_of p))) (bytes refl)

  same_lines_at : (i : ℕ) → lines_in p other i ≡ lines_in p one i
  same_lines_at i = by (slice_get p.sources i) refl
    where
      by : (o : Option Source) → slice_get p.sources i ≡ o
          → option_map_or (lines_of_source (form_of (job_of p)) other) o [] ≡ option_map_or (lines_of_source (form_of (job_of p)) one) o []
      by None at = refl
      by (Some s) at = same_source i s at

  -- the rows of each, and so where all rows stand, among which clocks tick
  same_rows : AllByRecursion (λ (e : Declared). rows_in (form_of (job_of p)) other e.1 ≡ rows_in (form_of (job_of p)) one e.1) (each_with_before p.sources)
  same_rows =
      each_source (λ i s. rows_in (form_of (job_of p)) other s ≡ rows_in (form_of (job_of p)) one s) p.sources (λ i s at. ap rows_of (same_source i s at))

  same_ranks : ranks_among p (λ e. rows_in (form_of (job_of p)) other e.1) ≡ ranks_among p (λ e. rows_in (form_of (job_of p)) one e.1)
  same_ranks = ranks_alike p (λ e. rows_in (form_of (job_of p)) other e.1) (λ e. rows_in (form_of (job_of p)) one e.1) same_rows

  same_lists : lists_of p other ≡ lists_of p one
  same_lists =
      flat_same _ _ (each_with_before p.sources)
      (all_map (λ (e : Declared). rows_in (form_of (job_of p)) other e.1 ≡ rows_in (form_of (job_of p)) one e.1) _ (each_with_before p.sources)
      (λ e rows. λ j. lists_of_source p (rows j) (ticks_of p (same_ranks j) e) e) same_rows)

pub sources_decide : SourcesDecide
unfolding lists_behind
sources_decide p texts texts' left left' same =
    let one = emptied_each texts left in
    let other = emptied_each texts' left' in (
      λ i. λ j. same_lines_at p one other same j i,
      same_lists p one other same,
    )

-- one more text that is read
emptied_last : (texts : List (List ℕ)) (name : List ℕ) (left : Contents) → emptied_each (texts ++ name ∷ []) left ≡ emptied name (emptied_each texts left)
emptied_last [] name left = refl
emptied_last (text ∷ texts) name left = emptied_last texts name (emptied text left)

emptied_other : (text name : List ℕ) (left : Contents) → (text ≡ name → ⊥) → emptied text left name ≡ left name
unfolding emptied
emptied_other text name left apart =
    elim (bytes_eq name text) as (λ b. bytes_eq name text ≡ b → cond b (option_map (λ (bytes : List ℕ). []) (left name)) (left name) ≡ left name) [
      | true ↦ λ e. absurd (apart (sym ((bytes_eq-Decides name text).0 e)))
      | false ↦ λ e. refl
    ] refl

pub checkpoints_leave_sources : CheckpointsLeaveSources
checkpoints_leave_sources p texts left name apart file found =
    ap (λ (files : Contents). bytes_left files file) (emptied_last texts name left)
    ∙ ap (λ (o : Option (List ℕ)). unwrap_or o [])
    (emptied_other name file (emptied_each texts left) (λ same. apart (subst (Contains (files_of p.sources)) (sym same) found)))
