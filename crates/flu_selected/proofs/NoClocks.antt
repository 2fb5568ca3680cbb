-- Sources that have files, and a job without clocks, where each source has one: what is read of its sources is what is read of their files.
use Rattle.std.proofs.Common.{◌≡◌, ℕ, ◌+◌, ◌-◌, ◌≤◌, ◌∙◌, refl, ap, Bool, false, List, [], ◌∷◌, ◌++◌, length, map, Option, Some, None, arith}
use Rattle.std.specs.Prelude.{nat_lt, is_some, sum_by, if◌then◌else◌}
use Rattle.std.specs.List.{list_any, flat_map, cons_option, AllByRecursion}
use Rattle.std.specs.Option.{option_map_or}
use Rattle.std.proofs.lemmas.Bool.{or_parts}
use Rattle.std.proofs.lemmas.List.Sums.{sum_by-append}
use Rattle.flu_lemmas.proofs.Tests.{true_lt, false_if_not}
use Rattle.flu_model.specs.Erasure.{job_of}
use Rattle.flu_model.specs.Moments.{timing_of}
use Rattle.flu_model.specs.Rules.{is_clock}
use Rattle.flu_model.specs.declared.jobs.Source.{Source}
use Rattle.flu_model.specs.declared.jobs.Program.{Program}
use Rattle.flu_outside.specs.Outside.{Contents}
use Rattle.flu_outside.specs.Taking.{bytes_left}
use Rattle.flu_rows.specs.declared.row.RowForm.{RowForm}
use Rattle.flu_rows.specs.declared.row.Row.{Row}
use Rattle.flu_rows.specs.Reading.{read_file}
use Rattle.flu_rows.specs.Row.{form_of}
use Rattle.flu_streams.specs.declared.faults.SourceFault.{SourceFault}
use Rattle.flu_streams.specs.declared.faults.Why.TheVariants.{TooMany}
use Rattle.flu_streams.specs.Before.{with_before, each_with_before, first_some, or_else}
use Rattle.flu_streams.specs.Clocks.{Declared, ticks_of, lists_of_ticks, count_of_ticks, fault_of_ticks, fault_among}
use Rattle.flu_streams.specs.Files.{files_of}
use Rattle.flu_streams.specs.Good.{lines_in, rows_in, lists_of_rows, lists_of_source, lists_of, ticks_beside}
use Rattle.flu_streams.specs.LoopGathering.{lists_of_files}
use Rattle.flu_streams.specs.Tags.{width}
use Rattle.flu_streams.proofs.Befores.{with_before-append}

-- none of some sources is a clock
abbrev pub HaveFiles : List Source → Type 0
HaveFiles sources = AllByRecursion (λ (s : Source). is_clock s ≡ false) sources

pub have_files : (sources : List Source) → list_any is_clock sources ≡ false → HaveFiles sources
have_files [] none = tt
have_files (s ∷ rest) none = let both = or_parts (is_clock s) (list_any is_clock rest) none in (both.0, have_files rest both.1)

-- so their files are those of all of them
pub own_files : (sources : List Source) → HaveFiles sources → files_of sources ≡ map (λ (s : Source). s.file) sources
own_files [] files = refl
own_files (s ∷ rest) files =
    ap (λ b. cons_option (if b then None else Some s.file) (files_of rest)) files.0 ∙ ap (λ names. s.file ∷ names) (own_files rest files.1)

-- the lines of a source are those of its file
pub lines_of_file : (form : RowForm) (left : Contents) (s : Source) → is_clock s ≡ false → lines_in form left s ≡ read_file form (bytes_left left s.file)
lines_of_file form left s file = ap (λ b. if b then [] else read_file form (bytes_left left s.file)) file

-- ---- the lists
pub lists_of_file : (p : Program) (rows : List Row) (ticks : List ℕ) (e : Declared) → is_clock e.1 ≡ false
    → lists_of_source p rows ticks e ≡ lists_of_rows (timing_of p (length e.0)) p.kinds e.1 (sum_by width e.0) rows
lists_of_file p rows ticks e file =
    ap (λ b. if b then lists_of_ticks (timing_of p (length e.0)) e.1 (sum_by width e.0) ticks
    else lists_of_rows (timing_of p (length e.0)) p.kinds e.1 (sum_by width e.0) rows) file

lists_of_rest : (p : Program) (rows : Declared → List Row) (ticks : Declared → List ℕ) (before sources : List Source) → HaveFiles sources
    → flat_map (λ e. lists_of_source p (rows e) (ticks e) e) (with_before before sources)
    ≡ flat_map (λ e. lists_of_rows (timing_of p (length e.0)) p.kinds e.1 (sum_by width e.0) (rows e)) (with_before before sources)
lists_of_rest p rows ticks before [] files = refl
lists_of_rest p rows ticks before (s ∷ rest) files =
    let here : lists_of_source p (rows (before, s)) (ticks (before, s)) (before, s)
    ≡ lists_of_rows (timing_of p (length before)) p.kinds s (sum_by width before) (rows (before, s)) =
    lists_of_file p (rows (before, s)) (ticks (before, s)) (before, s) files.0 in
    let more = lists_of_rest p rows ticks (before ++ s ∷ []) rest files.1 in
    λ k. here k ++ more k

pub lists_alone : (p : Program) (left : Contents) → list_any is_clock p.sources ≡ false
    → lists_of p left ≡ lists_of_files (timing_of p) (form_of (job_of p)) p.kinds left p.sources
lists_alone p left no_clock =
    lists_of_rest p (λ e. rows_in (form_of (job_of p)) left e.1) (ticks_beside p [] left) [] p.sources (have_files p.sources no_clock)

-- ---- no clock has too many ticks
none_mapped : {X Y : Type 0} (f : X → Y) (o : Option X) (other : Y) → is_some o ≡ false → option_map_or f o other ≡ other
none_mapped f None other none = refl
none_mapped f (Some x) other none = absurd cc

no_ticks : (p : Program) (ranks : List ℕ) (e : Declared) → is_clock e.1 ≡ false → ticks_of p ranks e ≡ []
no_ticks p ranks e file = none_mapped _ e.1.every [] file

few_ticks : (number held : ℕ) (ticks : List ℕ) → held + length ticks ≤ 16777216 → fault_of_ticks number held ticks ≡ None
few_ticks number held ticks le =
    ap (λ (b : Bool). if b then Some (record { source = number; row = 16777217 - held; why = TooMany 16777217 }) else None)
    (false_if_not (nat_lt 16777216 (held + length ticks)) (λ e. let lt = true_lt 16777216 (held + length ticks) e in omega (arith, lt, le)))

count_more : (ticks : Declared → List ℕ) (before : List Source) (s : Source)
    → count_of_ticks ticks (before ++ s ∷ []) ≡ count_of_ticks ticks before + length (ticks (before, s))
count_more ticks before s =
    let f : Declared → ℕ = λ e. length (ticks e) in
    ap (sum_by f) (with_before-append [] before (s ∷ [])) ∙ sum_by-append f (each_with_before before) ((before, s) ∷ []) ∙ omega arith

-- where few items are held of the files
module _ (p : Program) (ranks : List ℕ) (held : ℕ) (few : held ≤ 16777216) where
  abbrev ticks : Declared → List ℕ
  ticks e = ticks_of p ranks e

  abbrev fault : Declared → Option SourceFault
  fault e = fault_of_ticks (length e.0) (held + count_of_ticks ticks e.0) (ticks e)

  no_fault_in : (before sources : List Source) → HaveFiles sources → count_of_ticks ticks before ≡ 0 → first_some fault (with_before before sources) ≡ None
  no_fault_in before [] files none = refl
  no_fault_in before (s ∷ rest) files none =
      let size : length (ticks (before, s)) ≡ 0 = ap length (no_ticks p ranks (before, s) files.0) in
      let here : fault (before, s) ≡ None =
      few_ticks (length before) (held + count_of_ticks ticks before) (ticks (before, s)) (omega (arith, few, none, size)) in
      let still : count_of_ticks ticks (before ++ s ∷ []) ≡ 0 = omega (arith, count_more ticks before s, none, size) in
      ap (λ o. or_else o (first_some fault (with_before (before ++ s ∷ []) rest))) here ∙ no_fault_in (before ++ s ∷ []) rest files.1 still

  pub no_fault_among : list_any is_clock p.sources ≡ false → fault_among p.sources held ticks ≡ None
  no_fault_among no_clock = no_fault_in [] p.sources (have_files p.sources no_clock) refl
