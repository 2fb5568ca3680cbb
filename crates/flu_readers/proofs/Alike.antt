-- What is read of sources, and their first defect, depend on the bytes of the files alone that are read.
use Rattle.std.proofs.Common.{◌≡◌, ℕ, ◌+◌, true, false, List, [], ◌∷◌, ◌++◌, refl, sym, ap, ◌∙◌, inl, inr}
use Rattle.std.specs.Prelude.{Some, None, option_map, unwrap_or, length, Contains, if◌then◌else◌}
use Rattle.std.specs.List.{flat_map, cons_option, AllByRecursion}
use Rattle.std.proofs.lemmas.Bool.{cases_Bool}
use Rattle.std.proofs.lemmas.List.Sums.{sum_by-append}
use Rattle.flu_model.specs.Erasure.{job_of}
use Rattle.flu_model.specs.Moments.{timing_of}
use Rattle.flu_model.specs.Rules.{is_clock, file_of_source}
use Rattle.flu_lemmas.proofs.Containing.{contains_here, kept_later}
use Rattle.flu_lemmas.proofs.Elements.{all_push}
use Rattle.flu_model.specs.declared.jobs.Program.{Program}
use Rattle.flu_model.specs.declared.jobs.Source.{Source}
use Rattle.flu_outside.specs.Outside.{Contents}
use Rattle.flu_outside.specs.Taking.{bytes_left}
use Rattle.flu_rows.specs.declared.row.RowForm.{RowForm}
use Rattle.flu_rows.specs.Reading.{read_file}
use Rattle.flu_rows.specs.Row.{form_of}
use Rattle.flu_streams.specs.Before.{with_before, first_some, or_else}
use Rattle.flu_streams.specs.Clocks.{ranks_of, ticks_of, fault_among}
use Rattle.flu_streams.specs.Files.{files_of}
use Rattle.flu_streams.specs.Good.{lines_in, rows_in, ranks_in, items_held, ticks_beside, fault_of_source, first_fault_beside, lists_of_source, lists_beside}
use Rattle.flu_streams.specs.Tags.{width}
use Rattle.flu_streams.specs.Tests.{rows_of, items_of, first_of}
use Rattle.flu_selected.specs.Laws.{LawOfRanks, LawOfDefects, closed_files, selected}
use Rattle.flu_selected.specs.Selecting.{is_among, closed_at}
use Rattle.flu_readers.specs.Laws.{FilesThatAreReadMatter}

-- some sources have the same lines
abbrev Alike : RowForm → Contents → Contents → List Source → Type 0
Alike form a b sources = AllByRecursion (λ (s : Source). lines_in form a s ≡ lines_in form b s) sources

module _ (p : Program) (a b : Contents) where
  abbrev form : RowForm
  form = form_of (job_of p)

  ranks_from : (before sources : List Source) → Alike form a b sources
      → flat_map (λ e. ranks_of p (length e.0) (rows_in form a e.1)) (with_before before sources)
      ≡ flat_map (λ e. ranks_of p (length e.0) (rows_in form b e.1)) (with_before before sources)
  ranks_from before [] alike = refl
  ranks_from before (s ∷ sources) alike =
      let lines = alike.0 in
      let more = ranks_from (before ++ s ∷ []) sources alike.1 in
      λ k. ranks_of p (length before) (rows_of (lines k)) ++ more k

  ranks_alike : Alike form a b p.sources → ranks_in p a ≡ ranks_in p b
  ranks_alike alike = ranks_from [] p.sources alike

  held_alike : (sources : List Source) → Alike form a b sources → items_held form a sources ≡ items_held form b sources
  held_alike [] alike = refl
  held_alike (s ∷ sources) alike =
      let lines = alike.0 in
      let more = held_alike sources alike.1 in
      sum_by-append (λ (t : Source). items_of (width t) (rows_in form a t)) (s ∷ []) sources ∙ (λ k. (0 + items_of (width s) (rows_of (lines k))) + more k)
      ∙ sym (sum_by-append (λ (t : Source). items_of (width t) (rows_in form b t)) (s ∷ []) sources)

  faults_from : (before sources : List Source) → Alike form a b before → Alike form a b sources
      → first_some (λ e. fault_of_source (timing_of p) form p.kinds a e.0 e.1) (with_before before sources)
      ≡ first_some (λ e. fault_of_source (timing_of p) form p.kinds b e.0 e.1) (with_before before sources)
  faults_from before [] earlier alike = refl
  faults_from before (s ∷ sources) earlier alike =
      let lines = alike.0 in
      let held = held_alike before earlier in
      let more =
      faults_from (before ++ s ∷ []) sources (all_push (λ (t : Source). lines_in form a t ≡ lines_in form b t) before s earlier alike.0) alike.1 in
      λ k. or_else (option_map (λ d. record { source = length before; row = d.0; why = d.1 })
      (first_of (timing_of p (length before)) p.kinds s (held k) (lines k))) (more k)

  module _ (beside : List ℕ) (ranks : ranks_in p a ≡ ranks_in p b) where
    lists_from : (before sources : List Source) → Alike form a b sources
        → flat_map (λ e. lists_of_source p (rows_in form a e.1) (ticks_beside p beside a e) e) (with_before before sources)
        ≡ flat_map (λ e. lists_of_source p (rows_in form b e.1) (ticks_beside p beside b e) e) (with_before before sources)
    lists_from before [] alike = refl
    lists_from before (s ∷ sources) alike =
        let lines = alike.0 in
        let more = lists_from (before ++ s ∷ []) sources alike.1 in
        λ k. lists_of_source p (rows_of (lines k)) (ticks_of p (beside ++ ranks k) (before, s)) (before, s) ++ more k

    lists_alike : Alike form a b p.sources → lists_beside p beside a ≡ lists_beside p beside b
    lists_alike alike = lists_from [] p.sources alike

    faults_alike : Alike form a b p.sources → first_fault_beside p beside a ≡ first_fault_beside p beside b
    faults_alike alike =
        let rows = faults_from [] p.sources tt alike in
        let held = held_alike p.sources alike in
        λ k. or_else (rows k) (fault_among p.sources (held k) (ticks_of p (beside ++ ranks k)))

-- ---- where some names are closed
closed_alike : (names : List (List ℕ)) (a b : Contents) (name : List ℕ) → (is_among names name ≡ false → a name ≡ b name)
    → closed_at names a name ≡ closed_at names b name
closed_alike names a b name same =
    elim (cases_Bool (is_among names name)) [
      | inl closed ↦ rw closed refl
      | inr not_closed ↦ rw not_closed (same not_closed)
    ]

-- sources whose files have the same bytes have the same lines: a clock has none
all_alike : (row_form : RowForm) (a b : Contents) (sources : List Source) → ((name : List ℕ) → Contains (files_of sources) name → a name ≡ b name)
    → Alike row_form a b sources
all_alike row_form a b [] same = tt
all_alike row_form a b (s ∷ sources) same = (
  elim (is_clock s) as (λ clock. ((name : List ℕ) → Contains (cons_option (if clock then None else Some s.file) (files_of sources)) name → a name ≡ b name)
      → (if clock then [] else read_file row_form (bytes_left a s.file)) ≡ (if clock then [] else read_file row_form (bytes_left b s.file))) [
        | true ↦ λ files. refl
        | false ↦ λ files. ap (λ bytes. read_file row_form (unwrap_or bytes [])) (files s.file (contains_here s.file (files_of sources)))
      ] same,
  all_alike row_form a b sources (λ name there. same name (kept_later (file_of_source s) (files_of sources) name there)),
)

pub read_files_matter : LawOfRanks → LawOfDefects → FilesThatAreReadMatter
read_files_matter stand defects p is_read left other same =
    let names = closed_files p is_read in
    let mine = selected p is_read left in
    let others = selected p is_read other in
    let alike : Alike (form_of (job_of p)) mine others p.sources =
    all_alike (form_of (job_of p)) mine others p.sources (λ name there. closed_alike names left other name (λ not_closed. same name (there, not_closed))) in
    let ranks = ranks_alike p mine others alike in
    record {
      lists = λ beside. lists_alike p mine others beside ranks alike;
      ranks = sym (stand p is_read left) ∙ ranks ∙ stand p is_read other;
      faults = λ beside. sym (defects p beside is_read left) ∙ faults_alike p mine others beside ranks alike ∙ defects p beside is_read other;
    }
