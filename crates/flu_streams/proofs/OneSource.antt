-- One more source that was read: what is known of its rows behind those of the sources before it, and what reading it did to the files.
use Rattle.std.proofs.Common.{◌≡◌, ℕ, ◌+◌, ◌/◌, ◌^◌, ◌<◌, ◌≤◌, min, max, Bool, true, false, List, [], ◌∷◌, ◌++◌, length, map, vec_len}
use Rattle.std.proofs.Common.{Option, Some, None, refl, sym, ap, ◌∙◌, length-append, subst, arith}
use Rattle.std.specs.Prelude.{unwrap_or, sum_by, option_map, if◌then◌else◌}
use Rattle.std.specs.List.{flat_map, list_any, Contains}
use Rattle.std.proofs.lemmas.List.{length-map, append-nil}
use Rattle.std.proofs.lemmas.List.Sums.{sum_by-append}
use Rattle.flu_lemmas.proofs.Told.{told_then, told_both, told_weaker}
use Rattle.flu_model.specs.Erasure.{job_of}
use Rattle.flu_model.specs.declared.jobs.Kind.{Kind}
use Rattle.flu_model.specs.declared.jobs.Source.{Source}
use Rattle.flu_model.specs.declared.jobs.Program.{Program}
use Rattle.flu_model.specs.declared.moments.Timing.{Timing}
use Rattle.flu_model.specs.Moments.{timing_of, end_of_times}
use Rattle.flu_model.specs.Rules.{is_clock}
use Rattle.flu_model.specs.Streaming.{are_streams}
use Rattle.flu_moments.specs.Moments.{moment}
use Rattle.flu_outside.specs.Outside.{Contents, WhereTold, Rose}
use Rattle.flu_outside.specs.Taking.{TakesFrom, IsReadOut}
use Rattle.flu_rows.specs.declared.row.RowForm.{RowForm}
use Rattle.flu_rows.specs.declared.rows.Next.{Next}
use Rattle.flu_rows.specs.Row.{form_of}
use Rattle.flu_rows.specs.Reading.{ahead, read_file}
use Rattle.flu_streams.specs.declared.clocks.Span.{Span}
use Rattle.flu_streams.specs.declared.faults.GatherFault.{GatherFault}
use Rattle.flu_streams.specs.declared.faults.GatherFault.TheVariants.{Source as SourceFaulty, ReadFault, NoMemory}
use Rattle.flu_streams.specs.declared.faults.SourceFault.{SourceFault}
use Rattle.flu_streams.specs.declared.faults.Why.{Why}
use Rattle.flu_streams.specs.declared.gathered.Gathered.{Gathered}
use Rattle.flu_streams.specs.Before.{each_with_before, first_some}
use Rattle.flu_streams.specs.Clocks.{Declared, ranks_of}
use Rattle.flu_streams.specs.Faults.{WasRead, HidesNothing, StopsWithout}
use Rattle.flu_streams.specs.Files.{files_of, LeavesOthers, AreReadOut}
use Rattle.flu_streams.specs.Good.{lists_of_rows, lines_in, rows_in, items_held, fault_of_source, fault_of_rows}
use Rattle.flu_streams.specs.Lists.{lists_in}
use Rattle.flu_streams.specs.LoopClocks.{HasSpan, IsEarly, span_with}
use Rattle.flu_streams.specs.LoopGathering.{AddsSource, IsBefore, IsFaultOf, HidesNoDefect, IsGathered, IsRowFault, lists_of_files, span_behind}
use Rattle.flu_streams.specs.Tags.{width}
use Rattle.flu_streams.specs.Tests.{rows_of, times_of, least, greatest, items_of, first_of}
use Rattle.flu_streams.proofs.ClockTimes.{limit_of_ranks, end_is_within}
use Rattle.flu_streams.proofs.Gatherings.{out_more}
use Rattle.flu_streams.proofs.SourceFiles.{files_with, files_without, others_join}
use Rattle.flu_streams.proofs.Spans.{clocks_are_newer, has_ties, span_with_has}
use Rattle.flu_streams.proofs.Streamings.{are_streams-append}
use Rattle.flu_streams.proofs.Ticking.{early_with}
use Rattle.flu_streams.proofs.TickLists.{flat_more, none_more, first_at}

-- ---- the lines of a source
-- those that a source has after the sources before it were read are those that it had at first
lines_at_first : (form : RowForm) (s : Source) (earlier : List Source) (x y : Contents) → LeavesOthers (files_of earlier) x y
    → (Contains (files_of earlier) s.file → ⊥) → lines_in form x s ≡ lines_in form y s
lines_at_first form s earlier x y others apart =
    ap (λ (o : Option (List ℕ)). if is_clock s then [] else read_file form (unwrap_or o [])) (sym (others s.file apart))

-- ---- what is known of the rows
record IsCounted (timing : ℕ → Timing) (form : RowForm) (kinds : List Kind) (sources : List Source) (gathered : Gathered) (old : Contents) : Type 0 where
  good : first_some (λ e. fault_of_source timing form kinds old e.0 e.1) (each_with_before sources) ≡ None
  lists : lists_in gathered.lists ≡ lists_of_files timing form kinds old sources
  held : gathered.held ≡ items_held form old sources

module _ (timing : ℕ → Timing) (form : RowForm) (kinds : List Kind) (clocked : Option ℕ) (earlier : List Source) (s : Source) (old new : Gathered)
    (a b c : Option Contents) (adds : AddsSource clocked (timing (length earlier)) form kinds s b c old new)
    (apart : Contains (files_of earlier) s.file → ⊥) where
  rows_at_first : (x y : Contents) → LeavesOthers (files_of earlier) x y → WasRead form s adds.read [] y → lines_in form x s ≡ adds.read
  rows_at_first x y others was = lines_at_first form s earlier x y others apart ∙ was ∙ append-nil adds.read

  counted_join : (x y : Contents) → vec_len old.lists ≡ sum_by width earlier → IsGathered timing form kinds earlier old x y → WasRead form s adds.read [] y
      → IsCounted timing form kinds (earlier ++ (s ∷ [])) new x
  counted_join x y len p q =
      let was = rows_at_first x y p.others q in
      let rows : rows_in form x s ≡ rows_of adds.read = ap rows_of was in
      let defect : first_of (timing (length earlier)) kinds s (items_held form x earlier) (lines_in form x s) ≡ None =
      ap (first_of (timing (length earlier)) kinds s (items_held form x earlier)) was
      ∙ ap (λ n. first_of (timing (length earlier)) kinds s n adds.read) (sym p.held) ∙ adds.passes in
      let own = λ (d : ℕ × Why). the_fault (length earlier) d in
      let f = λ (e : List Source × Source). fault_of_source timing form kinds x e.0 e.1 in
      let g = λ (e : List Source × Source). lists_of_rows (timing (length e.0)) kinds e.1 (sum_by width e.0) (rows_in form x e.1) in
      record {
        good = none_more f earlier s p.good (ap (option_map own) defect);
        lists = adds.lists ∙ ap (λ l. l ++ lists_of_rows (timing (length earlier)) kinds s (vec_len old.lists) (rows_of adds.read)) p.lists
            ∙ sym (flat_more g earlier s (lists_of_rows (timing (length earlier)) kinds s (vec_len old.lists) (rows_of adds.read))
            (ap (lists_of_rows (timing (length earlier)) kinds s (sum_by width earlier)) rows
            ∙ ap (λ n. lists_of_rows (timing (length earlier)) kinds s n (rows_of adds.read)) (sym len)));
        held = adds.held ∙ ap (λ n. n + items_of (width s) (rows_of adds.read)) p.held
            ∙ ap (λ rs. items_held form x earlier + items_of (width s) rs) (sym rows)
            ∙ sym (sum_by-append (λ (t : Source). items_of (width t) (rows_in form x t)) earlier (s ∷ []) ∙ omega arith);
      }
    where
      the_fault : ℕ → ℕ × Why → SourceFault
      the_fault n d = record { source = n; row = d.0; why = d.1 }

  pub gathered_more : WhereTold a b (IsGathered timing form kinds earlier old) → WhereTold b c (TakesFrom s.file) → (is_clock s ≡ true → c ≡ b)
      → vec_len old.lists ≡ sum_by width earlier → WhereTold a c (IsGathered timing form kinds (earlier ++ (s ∷ [])) new)
  gathered_more told taken idle len =
      let counted = told_then (IsGathered timing form kinds earlier old) (λ was now. WasRead form s adds.read [] was)
      (λ was now. IsCounted timing form kinds (earlier ++ (s ∷ [])) new was) a b c (λ x y z p q. counted_join x y len p q) told adds.told in
      let others = others_join earlier [] s a b c idle
      (told_weaker (IsGathered timing form kinds earlier old) (LeavesOthers (files_of earlier)) a b (λ x y k. k.others) told) taken in
      told_weaker (λ was now. IsCounted timing form kinds (earlier ++ (s ∷ [])) new was × LeavesOthers (files_of (earlier ++ (s ∷ []))) was now)
      (IsGathered timing form kinds (earlier ++ (s ∷ [])) new) a c
      (λ x y k. record { good = k.0.good; lists = k.0.lists; held = k.0.held; others = k.1 })
      (told_both (λ was now. IsCounted timing form kinds (earlier ++ (s ∷ [])) new was) (LeavesOthers (files_of (earlier ++ (s ∷ [])))) a c counted others)

  pub streams_more : are_streams 0 (lists_in old.lists) ≡ true → are_streams 0 (lists_in new.lists) ≡ true
  streams_more streams =
      let size : vec_len old.lists ≡ 0 + length (lists_in old.lists) = simp length-map (omega (arith, old.lists.ok.0)) in
      let own = lists_of_rows (timing (length earlier)) kinds s (vec_len old.lists) (rows_of adds.read) in
      let first : are_streams (0 + length (lists_in old.lists)) own ≡ true = ap (λ n. are_streams n own) (sym size) ∙ adds.streams in
      ap (are_streams 0) adds.lists ∙ are_streams-append 0 (lists_in old.lists) own streams first

-- ---- the span of the rows
-- where those of some sources that come first stand
abbrev pub ranks_to : Program → Contents → List Source → List ℕ
ranks_to p left sources = flat_map (λ e. ranks_of p (length e.0) (rows_in (form_of (job_of p)) left e.1)) (each_with_before sources)

abbrev pub IsSpanned : Program → List Source → Option Span → Contents → Contents → Type 0
IsSpanned p sources span was now = list_any is_clock p.sources ≡ true → HasSpan span (ranks_to p was sources)

-- among how many sources ranks are, which are asked for where the job has clocks
pub record IsClocked (p : Program) (clocked : Option ℕ) : Type 0 where
  pub any : list_any is_clock p.sources ≡ true → clocked ≡ Some (length p.sources)
  pub some : (n : ℕ) → clocked ≡ Some n → (list_any is_clock p.sources ≡ true) × (n ≡ length p.sources)

pub ranked : (p : Program) (clocked : Option ℕ) (n number : ℕ) → IsClocked p clocked → number < length p.sources → clocked ≡ Some n
    → (number < n) × (end_of_times p ≤ 2 ^ 63 / n)
ranked p clocked n number is lt e =
    let own = is.some n e in
    let limit = limit_of_ranks p (clocks_are_newer p own.0) (has_ties p) (omega (arith, lt)) in
    let end = end_is_within p in
    subst (λ m. (number < m) × (end_of_times p ≤ 2 ^ 63 / m)) (sym own.1) (lt, omega (arith, limit, end))

pub span_more : (p : Program) (clocked : Option ℕ) (earlier : List Source) (s : Source) (old new : Gathered) (a b c : Option Contents)
    → AddsSource clocked (timing_of p (length earlier)) (form_of (job_of p)) p.kinds s b c old new → IsClocked p clocked
    → (Contains (files_of earlier) s.file → ⊥) → old.number ≡ length earlier
    → WhereTold a b (IsGathered (timing_of p) (form_of (job_of p)) p.kinds earlier old) → WhereTold a b (IsSpanned p earlier old.span)
    → WhereTold a c (IsSpanned p (earlier ++ (s ∷ [])) new.span)
span_more p clocked earlier s old new a b c adds is apart number told spanned =
    let form = form_of (job_of p) in
    told_then (λ was now. IsGathered (timing_of p) form p.kinds earlier old was now × IsSpanned p earlier old.span was now)
    (λ was now. WasRead form s adds.read [] was) (IsSpanned p (earlier ++ (s ∷ [])) new.span) a b c
    (λ x y z k was any. join x (ap rows_of (rows_at_first (timing_of p) form p.kinds clocked earlier s old new a b c adds apart x y k.0.others was)) any
    (k.1 any))
    (told_both (IsGathered (timing_of p) form p.kinds earlier old) (IsSpanned p earlier old.span) a b told spanned) adds.told
  where
    times : List ℕ
    times = times_of (rows_of adds.read)

    span_is : list_any is_clock p.sources ≡ true → new.span ≡ span_with (length p.sources) (length earlier) old.span (least times) (greatest times)
    span_is any =
        adds.span ∙ ap (λ o. span_behind o old.number old.span times) (is.any any)
        ∙ ap (λ n. span_with (length p.sources) n old.span (least times) (greatest times)) number

    join : (x : Contents) → rows_in (form_of (job_of p)) x s ≡ rows_of adds.read → list_any is_clock p.sources ≡ true
        → HasSpan old.span (ranks_to p x earlier) → HasSpan new.span (ranks_to p x (earlier ++ (s ∷ [])))
    join x rows any has =
        let own = map (λ time. moment (length p.sources) 1 time (length earlier) 0) times in
        let all = flat_more (λ (e : Declared). ranks_of p (length e.0) (rows_in (form_of (job_of p)) x e.1)) earlier s own
        (ap (ranks_of p (length earlier)) rows) in
        subst (HasSpan new.span) (sym all)
        (subst (λ sp. HasSpan sp (ranks_to p x earlier ++ own)) (sym (span_is any))
        (span_with_has (length p.sources) (length earlier) old.span (least times) (greatest times) (ranks_to p x earlier) times has refl refl))

-- the least of some times is not above the greatest
in_turn : (times : List ℕ) (t : ℕ) → greatest times ≡ Some t → (f : ℕ) → least times ≡ Some f → f ≤ t
in_turn [] t high f low = absurd cc
in_turn (u ∷ times) t high f low =
    let most : max u (unwrap_or (greatest times) 0) ≡ t = cc in
    let few : min u (unwrap_or (least times) u) ≡ f = cc in
    omega (arith, most, few)

early_behind : (n : ℕ) (clocked : Option ℕ) (number end : ℕ) (span : Option Span) (times : List ℕ) → ((k : ℕ) → clocked ≡ Some k → k ≡ n)
    → number < n → IsBefore end times → IsEarly n end span → IsEarly n end (span_behind clocked number span times)
early_behind n None number end span times is lt before was = was
early_behind n (Some k) number end span times is lt before was =
    subst (λ m. IsEarly n end (span_with m number span (least times) (greatest times))) (sym (is k refl))
    (early_with n number end span (least times) (greatest times) lt (in_turn times) before was)

pub early_more : (p : Program) (clocked : Option ℕ) (earlier : List Source) (s : Source) (old new : Gathered) (b c : Option Contents)
    → AddsSource clocked (timing_of p (length earlier)) (form_of (job_of p)) p.kinds s b c old new → IsClocked p clocked → old.number < length p.sources
    → IsEarly (length p.sources) (end_of_times p) old.span → IsEarly (length p.sources) (end_of_times p) new.span
early_more p clocked earlier s old new b c adds is lt was =
    subst (IsEarly (length p.sources) (end_of_times p)) (sym adds.span)
    (early_behind (length p.sources) clocked old.number (end_of_times p) old.span (times_of (rows_of adds.read)) (λ k e. (is.some k e).1) lt adds.early was)

-- ---- the fault of a source behind good ones
fault_join : (p : Program) (earlier later : List Source) (s : Source) (gathered : Gathered) (f : SourceFault) (x y : Contents)
    → p.sources ≡ earlier ++ (s ∷ later) → f.source ≡ length earlier → (Contains (files_of earlier) s.file → ⊥)
    → IsGathered (timing_of p) (form_of (job_of p)) p.kinds earlier gathered x y
    → first_of (timing_of p (length earlier)) p.kinds s gathered.held (lines_in (form_of (job_of p)) y s) ≡ Some (f.row, f.why)
    → fault_of_rows p x ≡ Some f
fault_join p earlier later s gathered f x y split number apart g defect =
    let form = form_of (job_of p) in
    let here : first_of (timing_of p (length earlier)) p.kinds s (items_held form x earlier) (lines_in form x s) ≡ Some (f.row, f.why) =
    ap (first_of (timing_of p (length earlier)) p.kinds s (items_held form x earlier)) (lines_at_first form s earlier x y g.others apart)
    ∙ ap (λ n. first_of (timing_of p (length earlier)) p.kinds s n (lines_in form y s)) (sym g.held) ∙ defect in
    let F = λ (e : List Source × Source). fault_of_source (timing_of p) form p.kinds x e.0 e.1 in
    let fault : fault_of_source (timing_of p) form p.kinds x earlier s ≡ Some f =
    ap (option_map (the_fault (length earlier))) here ∙ ap (λ n. Some (the_fault n (f.row, f.why))) (sym number) in
    ap (λ sources. first_some F (each_with_before sources)) split ∙ first_at F earlier later s f g.good fault
  where
    the_fault : ℕ → ℕ × Why → SourceFault
    the_fault n d = record { source = n; row = d.0; why = d.1 }

pub gathered_fault : (p : Program) (earlier later : List Source) (s : Source) (gathered : Gathered) (number : ℕ) (fault : GatherFault) (a b c : Option Contents)
    → p.sources ≡ earlier ++ (s ∷ later) → number ≡ length earlier → (Contains (files_of earlier) s.file → ⊥)
    → WhereTold a b (IsGathered (timing_of p) (form_of (job_of p)) p.kinds earlier gathered)
    → IsFaultOf (timing_of p (length earlier)) (form_of (job_of p)) p.kinds s number gathered.held b c fault → IsRowFault p a c fault
gathered_fault p earlier later s gathered number (SourceFaulty f) a b c split size apart told fault = (
  omega (arith, fault.0, size, ap length split, length-append earlier (s ∷ later)),
  told_then (IsGathered (timing_of p) (form_of (job_of p)) p.kinds earlier gathered)
      (λ was now. first_of (timing_of p (length earlier)) p.kinds s gathered.held (lines_in (form_of (job_of p)) was s) ≡ Some (f.row, f.why))
      (λ was now. fault_of_rows p was ≡ Some f) a b c
      (λ x y z g defect. fault_join p earlier later s gathered f x y split (fault.0 ∙ size) apart g defect) told fault.1,
)
gathered_fault p earlier later s gathered number ReadFault a b c split size apart told fault = tt
gathered_fault p earlier later s gathered number NoMemory a b c split size apart told fault = tt

-- ---- a read fault behind good sources
hides_join : (timing : ℕ → Timing) (form : RowForm) (kinds : List Kind) (earlier : List Source) (s : Source) (gathered : Gathered) (read behind : List Next)
    (x y : Contents) → first_of (timing (length earlier)) kinds s gathered.held read ≡ None → (Contains (files_of earlier) s.file → ⊥)
    → IsGathered timing form kinds earlier gathered x y → WasRead form s read behind y → StopsWithout timing form kinds earlier s read behind x
hides_join timing form kinds earlier s gathered read behind x y passes apart g was = record {
  good = g.good;
  passes = ap (λ n. first_of (timing (length earlier)) kinds s n read) (sym g.held) ∙ passes;
  was = lines_at_first form s earlier x y g.others apart ∙ was;
}

pub hides_behind : (p : Program) (earlier later : List Source) (s : Source) (gathered : Gathered) (a b c : Option Contents) (before now : List ℕ → ℕ)
    → p.sources ≡ earlier ++ (s ∷ later) → is_clock s ≡ false → (Contains (files_of earlier) s.file → ⊥)
    → WhereTold a b (IsGathered (timing_of p) (form_of (job_of p)) p.kinds earlier gathered)
    → Rose (before s.file) (now s.file) → HidesNoDefect (timing_of p (length earlier)) (form_of (job_of p)) p.kinds s gathered.held b c
    → HidesNothing p a c before now
hides_behind p earlier later s gathered a b c before now split goes apart told rose h = record {
  earlier = earlier;
  source = s;
  later = later;
  split = split;
  has_file = goes;
  rose = rose;
  read = h.read;
  place = h.place;
  form = h.form_is;
  file = h.file;
  undecided = h.undecided;
  told = told_then (IsGathered (timing_of p) (form_of (job_of p)) p.kinds earlier gathered)
      (λ was now. WasRead (form_of (job_of p)) s h.read (ahead h.place now) was)
      (λ was now. StopsWithout (timing_of p) (form_of (job_of p)) p.kinds earlier s h.read (ahead h.place now) was) a b c
      (λ x y z g was. hides_join (timing_of p) (form_of (job_of p)) p.kinds earlier s gathered h.read (ahead h.place z) x y h.passes apart g was) told h.told;
}

-- ---- files that were read out; of a clock nothing is
pub out_join : (earlier : List Source) (s : Source) (b c : Option Contents) → WhereTold b c (TakesFrom s.file) → (Contains (files_of earlier) s.file → ⊥)
    → (is_clock s ≡ true → c ≡ b) → AreReadOut (files_of earlier) b → (is_clock s ≡ false → IsReadOut s.file c) → AreReadOut (files_of (earlier ++ (s ∷ []))) c
out_join earlier s b c taken apart idle outs out = by_kind (is_clock s) refl
  where
    by_kind : (k : Bool) → is_clock s ≡ k → AreReadOut (files_of (earlier ++ (s ∷ []))) c
    by_kind false goes =
        subst (λ l. AreReadOut l c) (sym (files_with earlier [] s goes ∙ append-nil (files_of earlier ++ (s.file ∷ []))))
        (out_more (files_of earlier) s.file b c taken apart outs (out goes))
    by_kind true ticks =
        subst (λ l. AreReadOut l c) (sym (files_without earlier [] s ticks ∙ append-nil (files_of earlier)))
        (subst (AreReadOut (files_of earlier)) (sym (idle ticks)) outs)
