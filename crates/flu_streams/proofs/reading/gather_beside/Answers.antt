use Rattle.std.proofs.Common.{◌≡◌, ℕ, [], ◌++◌, List, Option, Some, None, true, Ok, Err, vec_len, sym, subst, ap, ◌∙◌}
use Rattle.std.specs.Prelude.{Result, IfOk, IfErr, OnOk, if◌then◌else◌}
use Rattle.std.specs.List.{list_any}
use Rattle.flu_lemmas.proofs.Told.{told_both, told_weaker}
use Rattle.flu_model.specs.declared.jobs.Program.{Program}
use Rattle.flu_model.specs.declared.streams.Streams.{Streams}
use Rattle.flu_model.specs.Erasure.{job_of}
use Rattle.flu_model.specs.Listed.{listed}
use Rattle.flu_model.specs.Moments.{timing_of}
use Rattle.flu_model.specs.Rules.{is_clock}
use Rattle.flu_model.specs.Streaming.{are_streams}
use Rattle.flu_outside.specs.Outside.{Contents, WhereTold}
use Rattle.flu_outside.specs.Taking.{bytes_left}
use Rattle.flu_rows.specs.declared.row.Row.{Row}
use Rattle.flu_rows.specs.Reading.{read_file}
use Rattle.flu_rows.specs.Row.{form_of}
use Rattle.flu_streams.specs.declared.faults.GatherFault.{GatherFault}
use Rattle.flu_streams.specs.declared.faults.GatherFault.TheVariants.{Source as SourceFaulty, ReadFault, NoMemory}
use Rattle.flu_streams.specs.declared.gathered.Gathered.{Gathered}
use Rattle.flu_streams.specs.Before.{or_else}
use Rattle.flu_streams.specs.Clocks.{Declared, ranks_among, fault_among}
use Rattle.flu_streams.specs.Faults.{IsFirstFaultBeside}
use Rattle.flu_streams.specs.Files.{files_of, AreReadOut}
use Rattle.flu_streams.specs.Good.{rows_in, lists_beside, fault_of_rows, fault_of_clocks, first_fault_beside, ticks_beside}
use Rattle.flu_streams.specs.Lists.{lists_in}
use Rattle.flu_streams.specs.LoopClocks.{HasSpan}
use Rattle.flu_streams.specs.LoopGathering.{HasRows, HasTicks, IsGathered, IsRowFault, IsTickFault}
use Rattle.flu_streams.specs.Tests.{rows_of}
use Rattle.flu_streams.proofs.reading.gather_beside.Given.{Over}
use Rattle.flu_streams.proofs.reading.gather_beside.Goals as goal

-- ---- answers
weaken_ok : {T E : Type 0} (r : Result T E) (P Q : T → Type 0) → ((x : T) → P x → Q x) → IfOk r P → IfOk r Q
weaken_ok (Ok x) P Q f p = f x p
weaken_ok (Err e) P Q f p = tt

-- a clause of what was answered, whatever that is
always_weaker : {T E : Type 0} (r : Result T E) (P : T → Type 0) (Q : Type 0) → ((x : T) → P x → Q) → IfOk r P → OnOk r Q
always_weaker (Ok x) P Q f p = f x p
always_weaker (Err e) P Q f p = tt

always_ok : {T E : Type 0} (r : Result T E) (P : Type 0) → P → OnOk r P
always_ok (Ok x) P p = p
always_ok (Err e) P p = tt

weaken_err : {T E : Type 0} (r : Result T E) (P Q : E → Type 0) → ((x : E) → P x → Q x) → IfErr r P → IfErr r Q
weaken_err (Ok x) P Q f p = tt
weaken_err (Err e) P Q f p = f e p

-- what was read, where the span has rows elsewhere too
module _ (p : Program) (beside : List ℕ) (gathered : Gathered) (a b : Option Contents) where
  abbrev rows : Contents → Declared → List Row
  rows x e = rows_in (form_of (job_of p)) x e.1

  abbrev IsRead : Contents → Contents → Type 0
  IsRead x y = IsGathered (timing_of p) (form_of (job_of p)) p.kinds p.sources gathered x y
      × (list_any is_clock p.sources ≡ true → HasSpan gathered.span (beside ++ ranks_among p (rows x)))

  -- what was read, with the span of its rows alone
  told_read : (read : Gathered) → read.lists ≡ gathered.lists → read.held ≡ gathered.held
      → ((ranks : List ℕ) → HasSpan read.span ranks → HasSpan gathered.span (beside ++ ranks))
      → WhereTold a b (IsGathered (timing_of p) (form_of (job_of p)) p.kinds p.sources read)
      → WhereTold a b (λ was now. list_any is_clock p.sources ≡ true → HasSpan read.span (ranks_among p (λ e. rows_in (form_of (job_of p)) was e.1)))
      → WhereTold a b IsRead
  told_read read lists held grows was span =
      told_weaker (λ x y. IsGathered (timing_of p) (form_of (job_of p)) p.kinds p.sources read x y
      × (list_any is_clock p.sources ≡ true → HasSpan read.span (ranks_among p (rows x)))) IsRead a b
      (λ x y k. (
        record {
          good = k.0.good;
          lists = ap lists_in (sym lists) ∙ k.0.lists;
          held = sym held ∙ k.0.held;
          others = k.0.others;
        },
        λ clock. grows (ranks_among p (rows x)) (k.1 clock),
      ))
      (told_both (IsGathered (timing_of p) (form_of (job_of p)) p.kinds p.sources read)
      (λ was now. list_any is_clock p.sources ≡ true → HasSpan read.span (ranks_among p (λ e. rows_in (form_of (job_of p)) was e.1))) a b was span)

  no_rows : (x : Contents) (e : Declared) → is_clock e.1 ≡ true → rows x e ≡ []
  no_rows x e clock = ap (λ k. rows_of (if k then [] else read_file (form_of (job_of p)) (bytes_left x e.1.file))) clock

  has_rows : (x y : Contents) → IsRead x y → HasRows p beside gathered (rows x)
  has_rows x y k = record { lists = k.0.lists; clocks = no_rows x; span = k.1 }

  -- streams are those of good sources
  good_by : (streams : Streams) → HasTicks p beside gathered streams → (x y : Contents) → IsRead x y → first_fault_beside p beside x ≡ None
  good_by streams ticks x y k =
      ap (λ o. or_else o (fault_of_clocks p beside x)) k.0.good ∙ ap (λ n. fault_among p.sources n (ticks_beside p beside x)) (sym k.0.held)
      ∙ (ticks (rows x) (has_rows x y k)).1

  lists_by : (streams : Streams) → HasTicks p beside gathered streams → (x y : Contents) → IsRead x y → listed streams ≡ lists_beside p beside x
  lists_by streams ticks x y k = (ticks (rows x) (has_rows x y k)).0

  -- a fault of ticks is the first, since rows have none
  tick_fault : WhereTold a b IsRead → (fault : GatherFault) → IsTickFault p beside gathered fault → IsFirstFaultBeside p beside a b fault
  tick_fault told (SourceFaulty f) is = (
    is.0,
    told_weaker IsRead (λ was now. first_fault_beside p beside was ≡ Some f) a b (λ x y k.
        ap (λ o. or_else o (fault_of_clocks p beside x)) k.0.good ∙ ap (λ n. fault_among p.sources n (ticks_beside p beside x)) (sym k.0.held)
        ∙ is.1 (rows x) (has_rows x y k)) told,
  )
  tick_fault told ReadFault is = tt
  tick_fault told NoMemory is = tt

  never_read : (r : Result Streams GatherFault) → IfErr r (IsTickFault p beside gathered) → r ≡ Err ReadFault → ⊥
  never_read r f e = subst (λ q. IfErr q (IsTickFault p beside gathered)) e f

-- a fault of rows comes before those of ticks
row_fault : (p : Program) (beside : List ℕ) (a b : Option Contents) (fault : GatherFault) → IsRowFault p a b fault → IsFirstFaultBeside p beside a b fault
row_fault p beside a b (SourceFaulty f) is = (
  is.0,
  told_weaker (λ was now. fault_of_rows p was ≡ Some f) (λ was now. first_fault_beside p beside was ≡ Some f) a b
      (λ x y e. ap (λ o. or_else o (fault_of_clocks p beside x)) e) is.1,
)
row_fault p beside a b ReadFault is = tt
row_fault p beside a b NoMemory is = tt

pub with_ticks-requires-clause-len : goal.with_ticks-requires-clause-len
with_ticks-requires-clause-len g c = ap vec_len c.with_rows_beside.ensures.lists ∙ c.in-Ok.ensures.len

pub with_ticks-requires-clause-streams : goal.with_ticks-requires-clause-streams
with_ticks-requires-clause-streams g c = ap (λ lists. are_streams 0 (lists_in lists)) c.with_rows_beside.ensures.lists ∙ c.in-Ok.ensures.streams

pub with_ticks-requires-clause-early : goal.with_ticks-requires-clause-early
with_ticks-requires-clause-early g c = c.with_rows_beside.ensures.early

told : (g : Over) (c : goal.After-with_ticks g)
    → WhereTold (g.F.Files.left c.args.files.now) (g.F.Files.left c.read_all.new.files)
    (IsRead c.args.p.now c.args.beside.now c.with_rows_beside.result (g.F.Files.left c.args.files.now) (g.F.Files.left c.read_all.new.files))
told g c =
    told_read c.args.p.now c.args.beside.now c.with_rows_beside.result (g.F.Files.left c.args.files.now) (g.F.Files.left c.read_all.new.files) c.in-Ok.gathered (sym c.with_rows_beside.ensures.lists)
    (sym c.with_rows_beside.ensures.held) c.with_rows_beside.ensures.span c.in-Ok.ensures.read c.in-Ok.ensures.span

pub returns-clause-good : goal.returns-clause-good
returns-clause-good g c =
    let p = c.args.p.now in
    let beside = c.args.beside.now in
    let a = g.F.Files.left c.args.files.now in
    let b = g.F.Files.left c.read_all.new.files in
    always_weaker c.with_ticks.result (λ streams. (beside : List ℕ) → HasTicks p beside c.with_rows_beside.result streams)
    (WhereTold a b (λ old new. first_fault_beside p beside old ≡ None))
    (λ streams ticks. told_weaker (IsRead p beside c.with_rows_beside.result a b) (λ old new. first_fault_beside p beside old ≡ None) a b
    (good_by p beside c.with_rows_beside.result a b streams (ticks beside)) (told g c)) c.with_ticks.ensures.ticks

pub returns-clause-lists : goal.returns-clause-lists
returns-clause-lists g c =
    let p = c.args.p.now in
    let beside = c.args.beside.now in
    let a = g.F.Files.left c.args.files.now in
    let b = g.F.Files.left c.read_all.new.files in
    weaken_ok c.with_ticks.result (λ streams. (beside : List ℕ) → HasTicks p beside c.with_rows_beside.result streams)
    (λ streams. WhereTold a b (λ old new. listed streams ≡ lists_beside p beside old))
    (λ streams ticks. told_weaker (IsRead p beside c.with_rows_beside.result a b) (λ old new. listed streams ≡ lists_beside p beside old) a b
    (lists_by p beside c.with_rows_beside.result a b streams (ticks beside)) (told g c)) c.with_ticks.ensures.ticks

pub returns-clause-itags : goal.returns-clause-itags
returns-clause-itags g c = c.with_ticks.ensures.itags

pub returns-clause-read_out : goal.returns-clause-read_out
returns-clause-read_out g c = always_ok c.with_ticks.result
    (AreReadOut (files_of c.args.p.now.sources) (g.F.Files.left c.read_all.new.files)) c.in-Ok.ensures.read_out

pub returns-clause-fault : goal.returns-clause-fault
returns-clause-fault g c =
    let p = c.args.p.now in
    let beside = c.args.beside.now in
    let a = g.F.Files.left c.args.files.now in
    let b = g.F.Files.left c.read_all.new.files in
    weaken_err c.with_ticks.result (λ fault. (beside : List ℕ) → IsTickFault p beside c.with_rows_beside.result fault) (IsFirstFaultBeside p beside a b)
    (λ fault is. tick_fault p beside c.with_rows_beside.result a b (told g c) fault (is beside)) c.with_ticks.ensures.fault

-- ticks are not read
never_here : (g : Over) (c : goal.After-with_ticks g) → c.with_ticks.result ≡ Err ReadFault → ⊥
never_here g c e =
    never_read c.args.p.now c.args.beside.now c.with_rows_beside.result (g.F.Files.left c.args.files.now) (g.F.Files.left c.read_all.new.files) c.with_ticks.result
    (weaken_err c.with_ticks.result (λ fault. (beside : List ℕ) → IsTickFault c.args.p.now beside c.with_rows_beside.result fault)
    (IsTickFault c.args.p.now c.args.beside.now c.with_rows_beside.result) (λ fault is. is c.args.beside.now) c.with_ticks.ensures.fault) e

pub returns-clause-hides : goal.returns-clause-hides
returns-clause-hides g c = λ e. absurd (never_here g c e)

pub returns-clause-cause : goal.returns-clause-cause
returns-clause-cause g c = λ e. absurd (never_here g c e)

pub returns-in-Err-clause-fault : goal.returns-in-Err-clause-fault
returns-in-Err-clause-fault g c =
    row_fault c.args.p.now c.args.beside.now (g.F.Files.left c.args.files.now) (g.F.Files.left c.read_all.new.files) c.in-Err.fault c.in-Err.ensures.fault
