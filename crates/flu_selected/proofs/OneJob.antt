-- Programs of one job read the same of the same selected sources.
use Rattle.std.proofs.Common.{◌≡◌, refl, sym, ◌∙◌, subst, ℕ, List, [], ◌++◌, map, length, Bool, true, false, None}
use Rattle.std.specs.Prelude.{option_map, Contains, if◌then◌else◌}
use Rattle.std.specs.List.{filter_map, flat_map}
use Rattle.std.specs.Option.{option_map_or}
use Rattle.flu_model.specs.declared.jobs.Program.{Program}
use Rattle.flu_model.specs.declared.jobs.Source.{Source}
use Rattle.flu_model.specs.declared.moments.Timing.{Timing}
use Rattle.flu_model.specs.Erasure.{Job, IsSameJob}
use Rattle.flu_model.specs.Rules.{is_clock}
use Rattle.flu_moments.specs.Clocks.{ticks_among}
use Rattle.flu_moments.specs.Moments.{moment}
use Rattle.flu_outside.specs.Outside.{Contents}
use Rattle.flu_outside.specs.Taking.{bytes_left}
use Rattle.flu_rows.specs.declared.row.RowForm.{RowForm}
use Rattle.flu_rows.specs.Reading.{read_file}
use Rattle.flu_rows.specs.Row.{form_of}
use Rattle.flu_streams.specs.declared.faults.Why.{Why}
use Rattle.flu_streams.specs.Before.{each_with_before, first_some, or_else}
use Rattle.flu_streams.specs.Clocks.{Declared, fault_among}
use Rattle.flu_streams.specs.Files.{files_of}
use Rattle.flu_streams.specs.Good.{lines_in, rows_in}
use Rattle.flu_streams.specs.OneJob.{JobsReadTheSame}
use Rattle.flu_streams.specs.Tests.{times_of, first_of}
use Rattle.flu_streams.proofs.OneJob.{timing_in}
use Rattle.flu_selected.specs.Gathering.{IsRead}
use Rattle.flu_selected.specs.Laws.{closed_file, closed_files, selected, read_ranks, read_items, first_read_fault}
use Rattle.flu_selected.specs.OneJob.{JobsSelectTheSame}
use Rattle.flu_selected.specs.Selecting.{is_among, closed_at}

-- where the rows of the sources that are read stand depends on the job alone, and so do the ticks of a clock among rows
abbrev ranks_by : Job → (ℕ → Bool) → Contents → List ℕ
ranks_by j is_read left =
    flat_map (λ (e : Declared). if is_read (length e.0)
    then map (λ time. moment (length j.sources) 1 time (length e.0) 0) (times_of (rows_in (form_of j) left e.1))
    else []) (each_with_before j.sources)

abbrev ticks_by : Job → List ℕ → Declared → List ℕ
ticks_by j ranks e = option_map_or (λ every. ticks_among (length j.sources) 1 every (length e.0) ranks) e.1.every []

module _ (law : JobsReadTheSame) (p q : Program) (same : IsSameJob p q) where
  same_closed : closed_files p ≡ closed_files q
  same_closed = λ i is_read. filter_map (closed_file is_read) (each_with_before (same i).sources)

  same_files : selected p ≡ selected q
  same_files = λ i is_read left. closed_at (same_closed i is_read) left

  same_ranks : read_ranks p ≡ read_ranks q
  same_ranks = λ i is_read left. ranks_by (same i) is_read left

  -- a source has the same first defect; a clock has no lines
  same_first : (timing : Timing) (form : RowForm) (left : Contents) (s : Source) (held : ℕ)
      → first_of timing p.kinds s held (lines_in form left s) ≡ first_of timing q.kinds s held (lines_in form left s)
  same_first timing form left s held = by_clock (is_clock s)
    where
      by_clock : (clock : Bool)
          → first_of timing p.kinds s held (if clock then [] else read_file form (bytes_left left s.file))
          ≡ first_of timing q.kinds s held (if clock then [] else read_file form (bytes_left left s.file))
      by_clock true = refl
      by_clock false = λ i. (law p q same).rows.defects timing form i s held (bytes_left left s.file)

  same_faults : first_read_fault p ≡ first_read_fault q
  same_faults = λ i beside is_read left. or_else
      (first_some (λ (e : Declared).
      if is_read (length e.0)
      then option_map (λ (d : ℕ × Why). record { source = length e.0; row = d.0; why = d.1 })
      (same_first (timing_in (same i) (length e.0)) (form_of (same i)) left e.1 (read_items (form_of (same i)) is_read left e.0) i)
      else None) (each_with_before (same i).sources))
      (fault_among (same i).sources (read_items (form_of (same i)) is_read left (same i).sources)
      (ticks_by (same i) (beside ++ ranks_by (same i) is_read left)))

  same_read : (is_read : ℕ → Bool) (name : List ℕ) → IsRead p is_read name → IsRead q is_read name
  same_read is_read name (is_file, unclosed) = (
    subst (λ sources. Contains (files_of sources) name) (λ i. (same i).sources) is_file,
    sym (λ i. is_among (same_closed i is_read) name) ∙ unclosed,
  )

pub jobs_select_the_same : JobsReadTheSame → JobsSelectTheSame
jobs_select_the_same law p q same = record {
  closed = same_closed law p q same;
  files = same_files law p q same;
  ranks = same_ranks law p q same;
  faults = same_faults law p q same;
  read = same_read law p q same;
}
