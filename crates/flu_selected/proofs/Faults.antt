-- The first fault where the files of some sources are closed.
use Rattle.std.proofs.Common.{◌≡◌, ℕ, ◌+◌, ◌≤◌, ◌∙◌, refl, sym, ap, subst, Bool, true, false, not, List, [], ◌∷◌, ◌++◌, length, append_assoc, arith}
use Rattle.std.proofs.Common.{Option, Some, None}
use Rattle.std.specs.Prelude.{sum_by, if◌then◌else◌, unwrap_or, option_map, nat_lt}
use Rattle.std.specs.List.{list_any}
use Rattle.std.proofs.lemmas.Bool.Decides.{nat_tests}
use Rattle.std.proofs.lemmas.List.Elements.{filter_map-append}
use Rattle.std.proofs.lemmas.List.{append-nil}
use Rattle.std.proofs.lemmas.List.Sums.{sum_by-append}
use Rattle.flu_model.specs.Erasure.{job_of}
use Rattle.flu_model.specs.Moments.{timing_of}
use Rattle.flu_model.specs.Rules.{is_clock}
use Rattle.flu_model.specs.declared.jobs.Kind.{Kind}
use Rattle.flu_model.specs.declared.jobs.Source.{Source}
use Rattle.flu_model.specs.declared.jobs.Program.{Program}
use Rattle.flu_model.specs.declared.moments.Timing.{Timing}
use Rattle.flu_outside.specs.Outside.{Contents}
use Rattle.flu_rows.specs.declared.row.RowForm.{RowForm}
use Rattle.flu_rows.specs.declared.row.Row.{Row}
use Rattle.flu_rows.specs.declared.rows.Next.{Next}
use Rattle.flu_rows.specs.declared.rows.Next.TheVariants.{Row as RowNext, Bad, TooManyLines, Done}
use Rattle.flu_rows.specs.Row.{form_of}
use Rattle.flu_streams.specs.declared.faults.SourceFault.{SourceFault}
use Rattle.flu_streams.specs.declared.faults.Why.{Why}
use Rattle.flu_streams.specs.declared.faults.Why.TheVariants.{AfterEnd, TooMany}
use Rattle.flu_streams.specs.Before.{with_before, each_with_before, or_else, first_some}
use Rattle.flu_streams.specs.Clocks.{ticks_of, fault_among}
use Rattle.flu_streams.specs.Good.{lines_in, rows_in, ranks_in, items_held, fault_of_source, fault_of_rows, fault_of_clocks, first_fault}
use Rattle.flu_streams.specs.Tags.{width}
use Rattle.flu_streams.specs.Tests.{rows_of, row_in, has_ended, times_of, items_in, items_of, where_true, test_range, test_tag, test_fields, test_item}
use Rattle.flu_streams.specs.Tests.{test_time, test_items, fault_of, defect_of, first_of, first_defect}
use Rattle.flu_selected.proofs.Ends.{end_read}
use Rattle.flu_selected.proofs.Lists.{closed_left, no_lines, open_lines, no_rows, open_rows, closed_rows, ranks_law}
use Rattle.flu_selected.proofs.Names.{ClosesFile, ClosesOthers, closes_others}
use Rattle.flu_selected.proofs.NoClocks.{lines_of_file, no_fault_among}
use Rattle.flu_selected.specs.Laws.{LawOfDefects, GoodStayGood, closed_files, selected, read_ranks, read_items_in, read_items, read_fault}
use Rattle.flu_selected.specs.Laws.{fault_of_read_rows, fault_of_read_clocks}
use Rattle.flu_selected.specs.Selecting.{is_among, closed_at, end_line}

-- ---- what is not there
no_first : {X : Type 0} (a b : Option X) → or_else a b ≡ None → (a ≡ None) × (b ≡ None)
no_first None b e = (refl, e)
no_first (Some x) b e = cc

no_mapped : {X Y : Type 0} (f : X → Y) (o : Option X) → option_map f o ≡ None → o ≡ None
no_mapped f None e = refl
no_mapped f (Some x) e = cc

not_more : (n : ℕ) (why : Why) → where_true (nat_lt 16777216 n) why ≡ None → n ≤ 16777216
not_more n why e = by_test (nat_lt 16777216 n) refl e
  where
    by_test : (b : Bool) → nat_lt 16777216 n ≡ b → where_true b why ≡ None → n ≤ 16777216
    by_test true is none = cc
    by_test false is none = grind (arith, nat_tests)

few_pass : (n : ℕ) (why : Why) → n ≤ 16777216 → where_true (nat_lt 16777216 n) why ≡ None
few_pass n why le = let fails : nat_lt 16777216 n ≡ false = grind (arith, nat_tests) in rw fails refl

-- ---- the tests of a row, by how many items are held
none_of_seven : {X : Type 0} (a b c d e f g : Option X) → or_else a (or_else b (or_else c (or_else d (or_else e (or_else f (or_else g None)))))) ≡ None
    → (a ≡ None) × (b ≡ None) × (c ≡ None) × (d ≡ None) × (e ≡ None) × (f ≡ None) × (g ≡ None)
none_of_seven a b c d e f g none =
    let p = no_first a (or_else b (or_else c (or_else d (or_else e (or_else f (or_else g None)))))) none in
    let q = no_first b (or_else c (or_else d (or_else e (or_else f (or_else g None))))) p.1 in
    let r = no_first c (or_else d (or_else e (or_else f (or_else g None)))) q.1 in
    let t = no_first d (or_else e (or_else f (or_else g None))) r.1 in
    let u = no_first e (or_else f (or_else g None)) t.1 in
    let v = no_first f (or_else g None) u.1 in
    (p.0, q.0, r.0, t.0, u.0, v.0, (no_first g None v.1).0)

seven_none : {X : Type 0} (a b c d e f g : Option X) → a ≡ None → b ≡ None → c ≡ None → d ≡ None → e ≡ None → f ≡ None → g ≡ None
    → or_else a (or_else b (or_else c (or_else d (or_else e (or_else f (or_else g None)))))) ≡ None
seven_none a b c d e f g p q r t u v w = rw (p, q, r, t, u, v, w) refl

none_of_tests : (timing : Timing) (kinds : List Kind) (s : Source) (ended : Bool) (earlier : List ℕ) (held : ℕ) (row : Row)
    → fault_of timing kinds s ended earlier held row ≡ None
    → (where_true ended AfterEnd ≡ None) × (test_range timing row ≡ None) × (test_tag kinds s row ≡ None) × (test_fields kinds row ≡ None) ×
    (test_item row ≡ None)
    × (test_time timing s.slack earlier row ≡ None) × (test_items (width s) held row ≡ None)
none_of_tests timing kinds s ended earlier held row none =
    none_of_seven (where_true ended AfterEnd) (test_range timing row) (test_tag kinds s row) (test_fields kinds row) (test_item row)
    (test_time timing s.slack earlier row)
    (test_items (width s) held row) none

row_few : (timing : Timing) (kinds : List Kind) (s : Source) (ended : Bool) (earlier : List ℕ) (held : ℕ) (row : Row)
    → fault_of timing kinds s ended earlier held row ≡ None
    → held + items_in (width s) row ≤ 16777216
row_few timing kinds s ended earlier held row none =
    not_more (held + items_in (width s) row) (TooMany 16777217) (none_of_tests timing kinds s ended earlier held row none).6

row_still : (timing : Timing) (kinds : List Kind) (s : Source) (ended : Bool) (earlier : List ℕ) (fewer held : ℕ) (row : Row) → fewer ≤ held
    → fault_of timing kinds s ended earlier held row ≡ None → fault_of timing kinds s ended earlier fewer row ≡ None
row_still timing kinds s ended earlier fewer held row le none =
    let tests = none_of_tests timing kinds s ended earlier held row none in
    let most : held + items_in (width s) row ≤ 16777216 = row_few timing kinds s ended earlier held row none in
    seven_none (where_true ended AfterEnd) (test_range timing row) (test_tag kinds s row) (test_fields kinds row) (test_item row)
    (test_time timing s.slack earlier row)
    (test_items (width s) fewer row) tests.0 tests.1 tests.2 tests.3 tests.4 tests.5
    (few_pass (fewer + items_in (width s) row) (TooMany 16777217) (omega arith))

-- ---- the lines of a source
one_more_row : (itags : ℕ) (done : List Next) (line : ℕ) (row : Row)
    → items_of itags (rows_of (done ++ RowNext line row ∷ [])) ≡ items_of itags (rows_of done) + items_in itags row
one_more_row itags done line row =
    let one : sum_by (items_in itags) (row ∷ []) ≡ items_in itags row = omega arith in
    ap (sum_by (items_in itags)) (filter_map-append row_in done (RowNext line row ∷ []))
    ∙ sum_by-append (items_in itags) (rows_of done) (row ∷ []) ∙ ap (λ n. items_of itags (rows_of done) + n) one

no_more_rows : (itags : ℕ) (done : List Next) (lines : ℕ) → items_of itags (rows_of (done ++ Done lines ∷ [])) ≡ items_of itags (rows_of done)
no_more_rows itags done lines = ap (sum_by (items_in itags)) (filter_map-append row_in done (Done lines ∷ []) ∙ append-nil (rows_of done))

defect_few : (timing : Timing) (kinds : List Kind) (s : Source) (held : ℕ) (done : List Next) (next : Next)
    → held + items_of (width s) (rows_of done) ≤ 16777216
    → defect_of timing kinds s held done next ≡ None → held + items_of (width s) (rows_of (done ++ next ∷ [])) ≤ 16777216
defect_few timing kinds s held done (RowNext line row) few none =
    let fault = fault_of timing kinds s (has_ended (rows_of done)) (times_of (rows_of done)) (held + items_of (width s) (rows_of done)) row in
    let passes : fault ≡ None = no_mapped (λ (why : Why). (line, why)) fault none in
    let most : held + items_of (width s) (rows_of done) + items_in (width s) row ≤ 16777216 =
    row_few timing kinds s (has_ended (rows_of done)) (times_of (rows_of done)) (held + items_of (width s) (rows_of done)) row passes in
    omega (arith, one_more_row (width s) done line row, most)
defect_few timing kinds s held done (Bad line) few none = cc
defect_few timing kinds s held done TooManyLines few none = cc
defect_few timing kinds s held done (Done lines) few none = omega (arith, no_more_rows (width s) done lines, few)

lines_few : (timing : Timing) (kinds : List Kind) (s : Source) (held : ℕ) (done read : List Next) → held + items_of (width s) (rows_of done) ≤ 16777216
    → first_some (λ e. defect_of timing kinds s held e.0 e.1) (with_before done read) ≡ None → held + items_of (width s) (rows_of (done ++ read)) ≤ 16777216
lines_few timing kinds s held done [] few none = rw append-nil few
lines_few timing kinds s held done (next ∷ rest) few none =
    let both = no_first (defect_of timing kinds s held done next)
    (first_some (λ (e : List Next × Next). defect_of timing kinds s held e.0 e.1) (with_before (done ++ next ∷ []) rest)) none in
    let later : held + items_of (width s) (rows_of ((done ++ next ∷ []) ++ rest)) ≤ 16777216 =
    lines_few timing kinds s held (done ++ next ∷ []) rest (defect_few timing kinds s held done next few both.0) both.1 in
    subst (λ (read : List Next). held + items_of (width s) (rows_of read) ≤ 16777216) (append_assoc done (next ∷ []) rest) later

defect_still : (timing : Timing) (kinds : List Kind) (s : Source) (fewer held : ℕ) (done : List Next) (next : Next) → fewer ≤ held
    → defect_of timing kinds s held done next ≡ None
    → defect_of timing kinds s fewer done next ≡ None
defect_still timing kinds s fewer held done (RowNext line row) le none =
    let ended = has_ended (rows_of done) in
    let times = times_of (rows_of done) in
    let more = items_of (width s) (rows_of done) in
    let passes : fault_of timing kinds s ended times (held + more) row ≡ None =
    no_mapped (λ (why : Why). (line, why)) (fault_of timing kinds s ended times (held + more) row) none in
    ap (option_map (λ (why : Why). (line, why))) (row_still timing kinds s ended times (fewer + more) (held + more) row (omega (arith, le)) passes)
defect_still timing kinds s fewer held done (Bad line) le none = none
defect_still timing kinds s fewer held done TooManyLines le none = none
defect_still timing kinds s fewer held done (Done lines) le none = none

lines_still : (timing : Timing) (kinds : List Kind) (s : Source) (fewer held : ℕ) (done read : List Next) → fewer ≤ held
    → first_some (λ e. defect_of timing kinds s held e.0 e.1) (with_before done read) ≡ None
    → first_some (λ e. defect_of timing kinds s fewer e.0 e.1) (with_before done read) ≡ None
lines_still timing kinds s fewer held done [] le none = refl
lines_still timing kinds s fewer held done (next ∷ rest) le none =
    let both = no_first (defect_of timing kinds s held done next)
    (first_some (λ (e : List Next × Next). defect_of timing kinds s held e.0 e.1) (with_before (done ++ next ∷ []) rest)) none in
    rw (defect_still timing kinds s fewer held done next le both.0) (lines_still timing kinds s fewer held (done ++ next ∷ []) rest le both.1)

-- ---- a source
-- the items of a source without a defect are few, with those that are held
source_few : (timing : Timing) (form : RowForm) (kinds : List Kind) (left : Contents) (s : Source) (held : ℕ) → held ≤ 16777216
    → first_of timing kinds s held (lines_in form left s) ≡ None → held + items_of (width s) (rows_in form left s) ≤ 16777216
source_few timing form kinds left s held few none = lines_few timing kinds s held [] (lines_in form left s) (omega (arith, few)) none

-- a source without a row has no defect
closed_sound : (timing : Timing) (form : RowForm) (kinds : List Kind) (s : Source) (held : ℕ) → held ≤ 16777216
    → first_defect timing form kinds s held end_line ≡ None
closed_sound timing form kinds s held few =
    let fails : nat_lt 16777216 ((held + 0) + 0) ≡ false = grind (arith, nat_tests) in
    ap (first_of timing kinds s held) (end_read form) ∙ rw fails refl

-- ---- the items of the sources before
pub before-push : {X : Type 0} (before xs : List X) (x : X) → with_before before (xs ++ x ∷ []) ≡ with_before before xs ++ (before ++ xs, x) ∷ []
before-push before [] x = ap (λ (front : List _). (front, x) ∷ []) (sym (append-nil before))
before-push before (y ∷ ys) x =
    ap (λ rest. (before, y) ∷ rest) (before-push (before ++ y ∷ []) ys x
    ∙ ap (λ front. with_before (before ++ y ∷ []) ys ++ (front, x) ∷ []) (append_assoc before (y ∷ []) ys))

read_push : (form : RowForm) (is_read : ℕ → Bool) (left : Contents) (before : List Source) (s : Source)
    → read_items form is_read left (before ++ s ∷ []) ≡ read_items form is_read left before + read_items_in form is_read left (before, s)
read_push form is_read left before s =
    let f = read_items_in form is_read left in
    let one : sum_by f ((before, s) ∷ []) ≡ f (before, s) = omega arith in
    ap (sum_by f) (before-push [] before s) ∙ sum_by-append f (each_with_before before) ((before, s) ∷ [])
    ∙ ap (λ n. read_items form is_read left before + n) one

held_push : (form : RowForm) (left : Contents) (before : List Source) (s : Source)
    → items_held form left (before ++ s ∷ []) ≡ items_held form left before + items_of (width s) (rows_in form left s)
held_push form left before s =
    let f : Source → ℕ = λ t. items_of (width t) (rows_in form left t) in
    let one : sum_by f (s ∷ []) ≡ f s = omega arith in
    sum_by-append f before (s ∷ []) ∙ ap (λ n. items_held form left before + n) one

-- ---- a source where files are closed
abbrev fault_at : ℕ → Option (ℕ × Why) → Option SourceFault
fault_at number defect = option_map (λ d. record { source = number; row = d.0; why = d.1 }) defect

-- a clock has no lines, so no defect among them
no_fault : (number : ℕ) (timing : Timing) (form : RowForm) (kinds : List Kind) (left : Contents) (s : Source) (held : ℕ) → is_clock s ≡ true
    → fault_at number (first_of timing kinds s held (lines_in form left s)) ≡ None
no_fault number timing form kinds left s held ticks = ap (λ lines. fault_at number (first_of timing kinds s held lines)) (no_lines form left s ticks)

none_either : (b : Bool) (fault : Option SourceFault) → fault ≡ None → (if b then fault else None) ≡ None
none_either true fault none = none
none_either false fault none = refl

fault_by : (timing : ℕ → Timing) (form : RowForm) (kinds : List Kind) (is_read : ℕ → Bool) (names : List (List ℕ)) (left : Contents) (before : List Source)
    (s : Source) (b clock : Bool)
    → is_clock s ≡ clock → (is_clock s ≡ false → is_among names s.file ≡ not b)
    → items_held form (closed_at names left) before ≡ read_items form is_read left before
    → items_held form (closed_at names left) before ≤ 16777216
    → fault_of_source timing form kinds (closed_at names left) before s
    ≡ (if b
    then fault_at (length before) (first_of (timing (length before)) kinds s (read_items form is_read left before) (lines_in form left s))
    else None)
fault_by timing form kinds is_read names left before s b true ticks is same few =
    no_fault (length before) (timing (length before)) form kinds (closed_at names left) s (items_held form (closed_at names left) before) ticks
    ∙ sym (none_either b (fault_at (length before) (first_of (timing (length before)) kinds s (read_items form is_read left before) (lines_in form left s)))
    (no_fault (length before) (timing (length before)) form kinds left s (read_items form is_read left before) ticks))
fault_by timing form kinds is_read names left before s true false file is same few =
    ap (λ lines. fault_at (length before) (first_of (timing (length before)) kinds s (items_held form (closed_at names left) before) lines))
    (open_lines form names left s (is file))
    ∙ ap (λ held. fault_at (length before) (first_of (timing (length before)) kinds s held (lines_in form left s))) same
fault_by timing form kinds is_read names left before s false false file is same few =
    ap (λ lines. fault_at (length before) (first_of (timing (length before)) kinds s (items_held form (closed_at names left) before) lines))
    (lines_of_file form (closed_at names left) s file)
    ∙ ap (λ bytes. fault_at (length before) (first_defect (timing (length before)) form kinds s (items_held form (closed_at names left) before)
    (unwrap_or bytes [])))
    (closed_left names left s.file (is file))
    ∙ ap (fault_at (length before)) (closed_sound (timing (length before)) form kinds s (items_held form (closed_at names left) before) few)

items_by : (form : RowForm) (names : List (List ℕ)) (left : Contents) (s : Source) (b clock : Bool) → is_clock s ≡ clock
    → (is_clock s ≡ false → is_among names s.file ≡ not b)
    → items_of (width s) (rows_in form (closed_at names left) s) ≡ (if b then items_of (width s) (rows_in form left s) else 0)
items_by form names left s true true ticks is =
    ap (items_of (width s)) (no_rows form (closed_at names left) s ticks) ∙ sym (ap (items_of (width s)) (no_rows form left s ticks))
items_by form names left s false true ticks is = ap (items_of (width s)) (no_rows form (closed_at names left) s ticks)
items_by form names left s true false file is = ap (items_of (width s)) (open_rows form names left s (is file))
items_by form names left s false false file is = ap (items_of (width s)) (closed_rows form names left s file (is file))

-- ---- all sources
behind_same : {X : Type 0} (o a b : Option X) → (o ≡ None → a ≡ b) → or_else o a ≡ or_else o b
behind_same None a b same = same refl
behind_same (Some x) a b same = refl

-- one more source holds the same items
held_same : (form : RowForm) (is_read : ℕ → Bool) (names : List (List ℕ)) (left : Contents) (before : List Source) (s : Source)
    → ClosesFile is_read names (before, s) → items_held form (closed_at names left) before ≡ read_items form is_read left before
    → items_held form (closed_at names left) (before ++ s ∷ []) ≡ read_items form is_read left (before ++ s ∷ [])
held_same form is_read names left before s closes same =
    let now = closed_at names left in
    let items : items_of (width s) (rows_in form now s) ≡ read_items_in form is_read left (before, s) =
    items_by form names left s (is_read (length before)) (is_clock s) refl closes in
    held_push form now before s ∙ ap (λ n. n + items_of (width s) (rows_in form now s)) same ∙ ap (λ n. read_items form is_read left before + n) items
    ∙ sym (read_push form is_read left before s)

all_held_same : (form : RowForm) (is_read : ℕ → Bool) (names : List (List ℕ)) (left : Contents) (before sources : List Source)
    → ClosesOthers is_read names (with_before before sources) → items_held form (closed_at names left) before ≡ read_items form is_read left before
    → items_held form (closed_at names left) (before ++ sources) ≡ read_items form is_read left (before ++ sources)
all_held_same form is_read names left before [] closes same = rw append-nil same
all_held_same form is_read names left before (s ∷ rest) closes same =
    subst (λ (all : List Source). items_held form (closed_at names left) all ≡ read_items form is_read left all) (append_assoc before (s ∷ []) rest)
    (all_held_same form is_read names left (before ++ s ∷ []) rest closes.1 (held_same form is_read names left before s closes.0 same))

faults_same : (timing : ℕ → Timing) (form : RowForm) (kinds : List Kind) (is_read : ℕ → Bool) (names : List (List ℕ)) (left : Contents)
    (before sources : List Source)
    → ClosesOthers is_read names (with_before before sources)
    → items_held form (closed_at names left) before ≡ read_items form is_read left before
    → items_held form (closed_at names left) before ≤ 16777216
    → first_some (λ e. fault_of_source timing form kinds (closed_at names left) e.0 e.1) (with_before before sources)
    ≡ first_some (λ e. read_fault timing form kinds is_read left e.0 e.1) (with_before before sources)
faults_same timing form kinds is_read names left before [] closes same few = refl
faults_same timing form kinds is_read names left before (s ∷ rest) closes same few =
    let now = closed_at names left in
    let held = items_held form now before in
    let here : fault_of_source timing form kinds now before s ≡ read_fault timing form kinds is_read left before s =
    fault_by timing form kinds is_read names left before s (is_read (length before)) (is_clock s) refl closes.0 same few in
    let all_now : Option SourceFault =
    first_some (λ (e : List Source × Source). fault_of_source timing form kinds now e.0 e.1) (with_before (before ++ s ∷ []) rest) in
    let all_read : Option SourceFault =
    first_some (λ (e : List Source × Source). read_fault timing form kinds is_read left e.0 e.1) (with_before (before ++ s ∷ []) rest) in
    let same_now : items_held form now (before ++ s ∷ []) ≡ read_items form is_read left (before ++ s ∷ []) =
    held_same form is_read names left before s closes.0 same in
    let later : read_fault timing form kinds is_read left before s ≡ None → all_now ≡ all_read = λ none.
    let sound : first_of (timing (length before)) kinds s held (lines_in form now s) ≡ None =
    no_mapped (λ (d : ℕ × Why). record { source = length before; row = d.0; why = d.1 })
    (first_of (timing (length before)) kinds s held (lines_in form now s)) (here ∙ none) in
    let few_now : items_held form now (before ++ s ∷ []) ≤ 16777216 =
    omega (arith, held_push form now before s, source_few (timing (length before)) form kinds now s held few sound) in
    faults_same timing form kinds is_read names left (before ++ s ∷ []) rest closes.1 same_now few_now in
    ap (λ fault. or_else fault all_now) here ∙ behind_same (read_fault timing form kinds is_read left before s) all_now all_read later

-- the ticks are those among the rows that are read, and are counted behind the items of these
clocks_same : (p : Program) (beside : List ℕ) (is_read : ℕ → Bool) (left : Contents)
    → fault_of_clocks p beside (selected p is_read left) ≡ fault_of_read_clocks p beside is_read left
clocks_same p beside is_read left =
    let now = selected p is_read left in
    ap (λ held. fault_among p.sources held (ticks_of p (beside ++ ranks_in p now)))
    (all_held_same (form_of (job_of p)) is_read (closed_files p is_read) left [] p.sources (closes_others p is_read) refl)
    ∙ ap (λ ranks. fault_among p.sources (read_items (form_of (job_of p)) is_read left p.sources) (ticks_of p (beside ++ ranks))) (ranks_law p is_read left)

pub defects_law : LawOfDefects
defects_law p beside is_read left =
    ap (λ fault. or_else fault (fault_of_clocks p beside (selected p is_read left)))
    (faults_same (timing_of p) (form_of (job_of p)) p.kinds is_read (closed_files p is_read) left [] p.sources (closes_others p is_read) refl (omega arith))
    ∙ ap (or_else (fault_of_read_rows p is_read left)) (clocks_same p beside is_read left)

-- ---- no clock adds a fault
rows_few : (timing : ℕ → Timing) (form : RowForm) (kinds : List Kind) (left : Contents) (before sources : List Source) → items_held form left before ≤ 16777216
    → first_some (λ e. fault_of_source timing form kinds left e.0 e.1) (with_before before sources) ≡ None
    → items_held form left (before ++ sources) ≤ 16777216
rows_few timing form kinds left before [] few none = rw append-nil few
rows_few timing form kinds left before (s ∷ rest) few none =
    let held = items_held form left before in
    let both = no_first (fault_of_source timing form kinds left before s)
    (first_some (λ (e : List Source × Source). fault_of_source timing form kinds left e.0 e.1) (with_before (before ++ s ∷ []) rest)) none in
    let sound : first_of (timing (length before)) kinds s held (lines_in form left s) ≡ None =
    no_mapped (λ (d : ℕ × Why). record { source = length before; row = d.0; why = d.1 })
    (first_of (timing (length before)) kinds s held (lines_in form left s)) both.0 in
    let few_now : items_held form left (before ++ s ∷ []) ≤ 16777216 =
    omega (arith, held_push form left before s, source_few (timing (length before)) form kinds left s held few sound) in
    subst (λ (all : List Source). items_held form left all ≤ 16777216) (append_assoc before (s ∷ []) rest)
    (rows_few timing form kinds left (before ++ s ∷ []) rest few_now both.1)

-- the first fault is that of rows, where no source is a clock
pub rows_alone : (p : Program) (left : Contents) → list_any is_clock p.sources ≡ false → first_fault p left ≡ fault_of_rows p left
rows_alone p left no_clock = by_fault (fault_of_rows p left) refl
  where
    by_fault : (o : Option SourceFault) → fault_of_rows p left ≡ o → or_else o (fault_of_clocks p [] left) ≡ o
    by_fault None none =
        no_fault_among p (ranks_in p left) (items_held (form_of (job_of p)) left p.sources)
        (rows_few (timing_of p) (form_of (job_of p)) p.kinds left [] p.sources (omega arith) none) no_clock
    by_fault (Some f) is = refl

-- ---- where no source has a defect
read_few : (form : RowForm) (left : Contents) (s : Source) (b : Bool)
    → (if b then items_of (width s) (rows_in form left s) else 0) ≤ items_of (width s) (rows_in form left s)
read_few form left s true = omega arith
read_few form left s false = omega arith

read_sound : (timing : ℕ → Timing) (form : RowForm) (kinds : List Kind) (is_read : ℕ → Bool) (left : Contents) (before sources : List Source)
    → read_items form is_read left before ≤ items_held form left before
    → first_some (λ e. fault_of_source timing form kinds left e.0 e.1) (with_before before sources) ≡ None
    → (first_some (λ e. read_fault timing form kinds is_read left e.0 e.1) (with_before before sources) ≡ None)
    × (read_items form is_read left (before ++ sources) ≤ items_held form left (before ++ sources))
read_sound timing form kinds is_read left before [] le none = (refl, rw append-nil le)
read_sound timing form kinds is_read left before (s ∷ rest) le none =
    let lines = lines_in form left s in
    let both = no_first (fault_of_source timing form kinds left before s)
    (first_some (λ (e : List Source × Source). fault_of_source timing form kinds left e.0 e.1) (with_before (before ++ s ∷ []) rest)) none in
    let sound : first_of (timing (length before)) kinds s (items_held form left before) lines ≡ None =
    no_mapped (λ (d : ℕ × Why). record { source = length before; row = d.0; why = d.1 })
    (first_of (timing (length before)) kinds s (items_held form left before) lines) both.0 in
    let still : first_of (timing (length before)) kinds s (read_items form is_read left before) lines ≡ None =
    lines_still (timing (length before)) kinds s (read_items form is_read left before) (items_held form left before) [] lines le sound in
    let fewer : read_items_in form is_read left (before, s) ≤ items_of (width s) (rows_in form left s) = read_few form left s (is_read (length before)) in
    let le_now : read_items form is_read left (before ++ s ∷ []) ≤ items_held form left (before ++ s ∷ []) =
    omega (arith, read_push form is_read left before s, held_push form left before s, fewer, le) in
    let here : read_fault timing form kinds is_read left before s ≡ None =
    none_either (is_read (length before)) (fault_at (length before) (first_of (timing (length before)) kinds s (read_items form is_read left before) lines))
    (ap (fault_at (length before)) still) in
    let later = read_sound timing form kinds is_read left (before ++ s ∷ []) rest le_now both.1 in (
      rw here later.0,
      subst (λ (all : List Source). read_items form is_read left all ≤ items_held form left all) (append_assoc before (s ∷ []) rest) later.1,
    )

pub good_stay_good : GoodStayGood
good_stay_good p is_read left no_clock good =
    let form = form_of (job_of p) in
    let none : fault_of_rows p left ≡ None = sym (rows_alone p left no_clock) ∙ good in
    let read = read_sound (timing_of p) form p.kinds is_read left [] p.sources (omega arith) none in
    let few : items_held form left p.sources ≤ 16777216 = rows_few (timing_of p) form p.kinds left [] p.sources (omega arith) none in
    let clocks : fault_of_read_clocks p [] is_read left ≡ None =
    no_fault_among p (read_ranks p is_read left) (read_items form is_read left p.sources) (omega (arith, few, read.1)) no_clock in
    defects_law p [] is_read left ∙ ap (λ fault. or_else fault (fault_of_read_clocks p [] is_read left)) read.0 ∙ clocks
