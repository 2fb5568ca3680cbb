-- A job's text is read, and then its sources.
use Rattle.std.proofs.Common.{◌≡◌, ◌≢◌, refl, sym, ap, ◌∙◌, subst, ℕ, ◌≤◌, List, [], ◌∷◌, Bool, true, false, Option, Some, None, inl, inr, ◌⊎◌, zero, suc}
use Rattle.std.proofs.Common.{if◌then◌else◌, arith}
use Rattle.std.specs.Prelude.{Contains, IsTrue, IfSome, is_some, option_map, ◌++◌}
use Rattle.std.specs.Str.{bytes_eq}
use Rattle.std.proofs.Math.Path.{fun_ext}
use Rattle.std.proofs.lemmas.Bool.{false≢true}
use Rattle.std.proofs.lemmas.List.Elements.{Contains-append_cases, Contains-append_left, Contains-append_right}
use Rattle.std.proofs.lemmas.Slice.Eq.{bytes_eq-Decides}
use Rattle.flu_outside.specs.Outside.{WhereTold, Contents}
use Rattle.flu_model.specs.declared.events.Item.{Item}
use Rattle.flu_model.specs.declared.jobs.Program.{Program}
use Rattle.flu_model.specs.Moments.{timing_of}
use Rattle.flu_model.specs.declared.jobs.Source.{Source}
use Rattle.flu_model.specs.Rules.{is_clock}
use Rattle.flu_model.specs.Contents.{nothing_held}
use Rattle.flu_model.specs.Folding.{final_outputs}
use Rattle.flu_model.specs.Reports as reports
use Rattle.flu_outside.specs.Taking.{TakesFrom}
use Rattle.flu_lemmas.proofs.Named.{rose_behind}
use Rattle.flu_lemmas.proofs.Told.{told_both, told_then, told_weaker}
use Rattle.flu_model.specs.Erasure.{job_of}
use Rattle.flu_rows.specs.Row.{form_of}
use Rattle.flu_rows.specs.Reading.{ahead}
use Rattle.flu_streams.specs.Faults.{StopsWithout}
use Rattle.flu_streams.specs.Files.{files_of, LeavesOthers, AreReadOut}
use Rattle.flu_streams.specs.Good.{first_fault, lists_of, AreGood}
use Rattle.flu_lines.specs.declared.refusals.Refusal.{Refusal}
use Rattle.flu_lines.specs.declared.refusals.Refusal.TheVariants as refusals
use Rattle.flu_model.specs.Modes.{IsAccepted}
use Rattle.flu_words.specs.Words.{Command}
use Rattle.flu_command.specs.Taking.{TookOnly}
use Rattle.flu_command.specs.Behind.{WantedJob, Named, Fixed, HasJob, job_files, fault_behind, report_behind}
use Rattle.flu_command.specs.Emptied.{emptied, emptied_each}
use Rattle.flu_command.specs.Openings.{Opens, fresh}
use Rattle.flu_command.specs.Reading.{Reading, Whole, is_read, AreSourcesGood, rows_in_round}
use Rattle.flu_command.specs.Wants.{job_wanted, plan_named, save_named, resume_named, rows_named, trace_named, asks_accepted, how_read, reads_sources, if_named}
use Rattle.flu_command.specs.Wants.{job_and_plan_named, texts_named, sources_read, Writes}
use Rattle.flu_command.specs.Starting.{AreNoSources, CanStart}
use Rattle.flu_command.specs.Done.{HasPlanAsked, IsGood, IsTraceRead, HasSaved, IsRead, Says, MayHaveJob, MayBeJob, IsReadName, IsSourceFile, IsWritten}
use Rattle.flu_command.specs.Ready.{AreTextsRead, IsReady}
use Rattle.flu_top.specs.Jobs.{IsJobRefusal}
use Rattle.flu_command.specs.Causes.{IsJobRead, HasJobFault, IsMet, HasSourceFault}
use Rattle.flu_top.specs.Folding.{AreSourcesRead, IsReported, IsReportRefusal}
use Rattle.flu_top.specs.Replays.{StaysEnded}
use Rattle.flu_command.specs.ReadFaults.{InJob, InSources}
use Rattle.flu_top.specs.Refusing.{IsRefusal}
use Rattle.flu_top.proofs.OneCommand.{not_named}
use Rattle.flu_top.proofs.SourceFiles.{file_behind}

-- ---- names
pub only_one : (one name : List ℕ) → Contains (one ∷ []) name → one ≡ name
only_one one name (zero, lt, e) = e
only_one one name (suc k, lt, e) = absurd (omega arith)

pub none_among : (name : List ℕ) → Contains [] name → ⊥
none_among name found = omega (arith, found.1)

-- a name is among others, or is not
pub among : (names : List (List ℕ)) (name : List ℕ) → Contains names name ⊎ (Contains names name → ⊥)
among [] name = inr (none_among name)
among (other ∷ names) name = by_test (bytes_eq other name) refl (among names name)
  where
    by_rest : other ≢ name → Contains names name ⊎ (Contains names name → ⊥) → Contains (other ∷ names) name ⊎ (Contains (other ∷ names) name → ⊥)
    by_rest apart (inl found) = inl (Contains-append_right (other ∷ []) names name found)
    by_rest apart (inr missing) =
        inr (λ found. elim (Contains-append_cases (other ∷ []) names name found) [ inl one ↦ apart (only_one other name one) | inr more ↦ missing more ])

    by_test : (b : Bool) → bytes_eq other name ≡ b → Contains names name ⊎ (Contains names name → ⊥)
        → Contains (other ∷ names) name ⊎ (Contains (other ∷ names) name → ⊥)
    by_test true t rest = inl (0, omega arith, (bytes_eq-Decides other name).0 t)
    by_test false f rest = by_rest (λ same. false≢true (sym f ∙ (bytes_eq-Decides other name).1 same)) rest

pub same_or_apart : (a b : List ℕ) → (a ≡ b) ⊎ (a ≢ b)
same_or_apart a b = by_test (bytes_eq a b) refl
  where
    by_test : (t : Bool) → bytes_eq a b ≡ t → (a ≡ b) ⊎ (a ≢ b)
    by_test true t = inl ((bytes_eq-Decides a b).0 t)
    by_test false f = inr (λ same. false≢true (sym f ∙ (bytes_eq-Decides a b).1 same))

-- ---- commands without checkpoints
-- a command that saves no checkpoint, and is resumed from none
pub record NamesNoCheckpoint (command : Command) : Type 0 where
  pub save : save_named command ≡ None
  pub resume : resume_named command ≡ None
  pub rows : rows_named command ≡ rows_in_round

pub no_sources : (command : Command) (p : Program) → NamesNoCheckpoint command → AreNoSources command p
no_sources command p none = record {
  save = λ name named. absurd (not_named (save_named command) name none.save named);
  resume = λ name named. absurd (not_named (resume_named command) name none.resume named);
}

-- it starts fresh
pub can_start : (command : Command) (left : Contents) (p : Program) → NamesNoCheckpoint command → CanStart command left p
can_start command left p none = (
  fresh (rows_named command),
  record {
    apart = no_sources command p none;
    opens = subst (λ (resume : Option (List ℕ)). Opens (rows_named command) resume (job_and_plan_named command) left p (fresh (rows_named command)))
        (sym none.resume) (refl, subst (λ (n : ℕ). 1 ≤ n) (sym none.rows) (omega arith));
  },
)

-- it saved nothing
pub has_saved : (command : Command) (p : Program) (x z : Contents) → NamesNoCheckpoint command → HasSaved command p x z
has_saved command p x z none name named = absurd (not_named (save_named command) name none.save named)

-- ---- the names that are read
-- a name that is given, if one is
pub name_given : (o : Option (List ℕ)) (name : List ℕ) → Contains (if_named o) name → o ≡ Some name
name_given None name found = absurd (none_among name found)
name_given (Some one) name found = ap Some (only_one one name found)

-- the file of a job is that of its name
job_file : (job : WantedJob) (name : List ℕ) → Contains (job_files job) name → job ≡ Named name
job_file (Named one) name found = ap Named (only_one one name found)
job_file (Fixed job) name found = absurd (none_among name found)

pub may_have_ready : (command : Command) (p : Program) (a b : Option Contents) → WhereTold a b (IsReady command p) → MayHaveJob a (job_wanted command) p
may_have_ready command p None b ready = tt
may_have_ready command p (Some x) None ready = absurd ready
may_have_ready command p (Some x) (Some y) ready = ready.has

-- the job that was read may be the command's
pub may_be_ready : (command : Command) (p : Program) (a b : Option Contents) → (IsTrue (asks_accepted command) → IsAccepted p)
    → WhereTold a b (IsReady command p) → MayBeJob a command p
may_be_ready command p a b accepted ready = record { has = may_have_ready command p a b ready; accepted = accepted }

-- the plan that the command asks for, if it asks for one, is there and valid, where the files tell it
plan_told : (command : Command) (p : Program) (a b : Option Contents) → WhereTold a b (IsReady command p)
    → IfSome a (λ contents. HasPlanAsked command contents p)
plan_told command p None b ready = tt
plan_told command p (Some x) None ready = absurd ready
plan_told command p (Some x) (Some y) ready = ready.plan

pub source_is_read : (command : Command) (p : Program) (name : List ℕ) → IsTrue (reads_sources command) → Contains (files_of p.sources) name
    → Contains (sources_read command p) name
source_is_read command p name reads found = subst (λ (b : Bool). Contains (if b then files_of p.sources else []) name) (sym reads) found

pub may_have : (job : List ℕ) (p : Program) (a b : Option Contents) → WhereTold a b (IsJobRead job p) → MayHaveJob a (Named job) p
may_have job p None b read = tt
may_have job p (Some x) None read = absurd read
may_have job p (Some x) (Some y) read = read.has

pub only_job : (command : Command) (job : List ℕ) (a b : Option Contents) → job_wanted command ≡ Named job → WhereTold a b (TakesFrom job)
    → WhereTold a b (TookOnly (IsReadName a command))
only_job command job a b named taken =
    told_weaker (TakesFrom job) (TookOnly (IsReadName a command)) a b (λ x y took name unread. took.others name
    (λ same. unread (inl (named ∙ ap Named (sym same))))) taken

pub text_is_read : (command : Command) (p : Program) (a b : Option Contents) → (IsTrue (asks_accepted command) → IsAccepted p) → AreNoSources command p
    → WhereTold a b (IsReady command p)
    → (name : List ℕ) → Contains (texts_named command) name → IsReadName a command name
text_is_read command p a b accepted apart ready name found = elim (Contains-append_cases (job_and_plan_named command)
    (if_named (resume_named command)) name found) [
      | inl text ↦ elim (Contains-append_cases (job_files (job_wanted command)) (if_named (plan_named command)) name text) [
        | inl job ↦ inl (job_file (job_wanted command) name job)
        | inr plan ↦ inr (inl (record { p = p; job = may_be_ready command p a b accepted ready; named = name_given (plan_named command) name plan }))
      ]
      | inr checkpoint ↦ inr (inr (inl (record {
        p = p;
        job = may_be_ready command p a b accepted ready;
        plan = plan_told command p a b ready;
        apart = apart;
        named =
            name_given (resume_named command) name checkpoint;
      })))
    ]

pub is_source_file : (command : Command) (p : Program) (a b : Option Contents) → IsTrue (reads_sources command)
    → (IsTrue (asks_accepted command) → IsAccepted p) → AreNoSources command p
    → IfSome a (λ contents. CanStart command contents p) → WhereTold a b (IsReady command p) → (name : List ℕ) → Contains (files_of p.sources) name
    → IsSourceFile a command name
is_source_file command p a b reads accepted apart start ready name found = record {
  p = p;
  job = may_be_ready command p a b accepted ready;
  plan = plan_told command p a b ready;
  apart = apart;
  start = start;
  named = source_is_read command p name reads found;
}

pub source_name_is_read : (command : Command) (p : Program) (a b : Option Contents) → IsTrue (reads_sources command)
    → (IsTrue (asks_accepted command) → IsAccepted p) → AreNoSources command p
    → IfSome a (λ contents. CanStart command contents p) → WhereTold a b (IsReady command p) → (name : List ℕ) → Contains (files_of p.sources) name
    → IsReadName a command name
source_name_is_read command p a b reads accepted apart start ready name found =
    inr (inr (inr (inl (is_source_file command p a b reads accepted apart start ready name found))))

-- whatever the files tell, a command without checkpoints can start
pub start_told : (command : Command) (p : Program) (a : Option Contents) → NamesNoCheckpoint command → IfSome a (λ contents. CanStart command contents p)
start_told command p None none = tt
start_told command p (Some x) none = can_start command x p none

pub only_ready : (command : Command) (p : Program) (a b c : Option Contents) → NamesNoCheckpoint command → IsTrue (reads_sources command)
    → (IsTrue (asks_accepted command) → IsAccepted p)
    → WhereTold a b (IsReady command p) → WhereTold b c (LeavesOthers (files_of p.sources)) → WhereTold a c (TookOnly (IsReadName a command))
only_ready command p a b c none reads accepted ready others =
    let apart = no_sources command p none in
    told_then (IsReady command p) (LeavesOthers (files_of p.sources)) (TookOnly (IsReadName a command)) a b c
    (λ x y z first left name unread.
    left name (λ found. unread (source_name_is_read command p a b reads accepted apart (start_told command p a none) ready name found))
    ∙ first.texts.others name (λ found. unread (text_is_read command p a b accepted apart ready name found))) ready others

-- ---- the report of a job
pub is_reported : (p : Program) (report : List ℕ) (lists : List (List Item)) (a b : Option Contents) → WhereTold a b (λ old _. AreGood p old)
    → WhereTold a b (λ old _. lists ≡ lists_of p old) → AreReadOut (files_of p.sources) b → report ≡ reports.report p (final_outputs p nothing_held lists)
    → WhereTold a b (IsReported p report)
is_reported p report lists None None good are ends is = tt
is_reported p report lists None (Some y) good are ends is = good
is_reported p report lists (Some x) None good are ends is = good
is_reported p report lists (Some x) (Some y) good are ends is =
    record { read = record { good = good; ends = ends }; is = is ∙ ap (λ ls. reports.report p (final_outputs p nothing_held ls)) are }

pub sources_are_read : (p : Program) (a b : Option Contents) → WhereTold a b (λ old _. AreGood p old) → AreReadOut (files_of p.sources) b
    → WhereTold a b (AreSourcesRead p)
sources_are_read p None None good ends = tt
sources_are_read p None (Some y) good ends = good
sources_are_read p (Some x) None good ends = good
sources_are_read p (Some x) (Some y) good ends = record { good = good; ends = ends }

emptied_some : (o : Option (List ℕ)) → true ≡ is_some o → option_map {U = List ℕ} (λ (bytes : List ℕ). []) o ≡ Some []
emptied_some None e = absurd (cc)
emptied_some (Some bytes) e = refl

-- what is left behind a text
pub emptied_is : (text : List ℕ) (old new : Contents) → new text ≡ Some [] → TakesFrom text old new → emptied text old ≡ new
unfolding emptied
emptied_is text old new end taken = fun_ext (λ name. by_test name (bytes_eq name text) refl)
  where
    by_test : (name : List ℕ) (b : Bool) → bytes_eq name text ≡ b → (if bytes_eq name text then option_map {U = List ℕ} (λ (bytes : List ℕ). [])
        (old name) else old name) ≡ new name
    by_test name true t =
        let same : name ≡ text = (bytes_eq-Decides name text).0 t in
        rw t (ap (λ n. option_map {U = List ℕ} (λ (bytes : List ℕ). []) (old n)) same
        ∙ (emptied_some (old text) (sym (ap is_some end) ∙ taken.there) ∙ (sym end ∙ sym (ap new same))))
    by_test name false f = rw f (sym (taken.others name (λ same. false≢true (sym f ∙ (bytes_eq-Decides name text).1 same))))

-- ---- the texts that are read
pub one_text : (text : List ℕ) (x y : Contents) → y text ≡ Some [] → TakesFrom text x y → AreTextsRead (text ∷ []) x y
one_text text x y end taken = record {
  behind = emptied_is text x y end taken;
  ends = λ name found. ap y (sym (only_one text name found)) ∙ end;
  others = λ name missing. taken.others name (λ same. missing (0, omega arith, sym same));
}

pub two_texts : (first second : List ℕ) (x y z : Contents) → AreTextsRead (first ∷ []) x y → z second ≡ Some [] → TakesFrom second y z
    → AreTextsRead (first ∷ second ∷ []) x z
two_texts first second x y z read end taken = record {
  behind = ap (emptied second) read.behind ∙ emptied_is second y z end taken;
  ends = λ name found. by_name name (Contains-append_cases (first ∷ []) (second ∷ []) name found) (same_or_apart name second);
  others = λ name missing.
      taken.others name (λ same. missing (1, omega arith, sym same)) ∙ read.others name
      (λ found. missing (Contains-append_left (first ∷ []) (second ∷ []) name found));
}
  where
    by_name : (name : List ℕ) → Contains (first ∷ []) name ⊎ Contains (second ∷ []) name → (name ≡ second) ⊎ (name ≢ second) → z name ≡ Some []
    by_name name found (inl same) = ap z same ∙ end
    by_name name (inl found) (inr apart) = taken.others name apart ∙ read.ends name found
    by_name name (inr found) (inr apart) = absurd (apart (sym (only_one second name found)))

-- the job's text alone was read, for a command that names no plan
pub ready_alone : (command : Command) (job : List ℕ) (p : Program) (a b : Option Contents) → job_wanted command ≡ Named job → texts_named command ≡ job ∷ []
    → ((left : Contents) → HasPlanAsked command left p) → WhereTold a b (IsJobRead job p) → WhereTold a b (TakesFrom job) → WhereTold a b (IsReady command p)
ready_alone command job p a b named alone asked read taken =
    told_weaker (λ x y. IsJobRead job p x y × TakesFrom job x y) (IsReady command p) a b
    (λ x y first. record {
      has = subst (λ wanted. HasJob wanted x p) (sym named) first.0.has;
      plan = asked x;
      texts = subst (λ texts. AreTextsRead texts x y) (sym alone) (one_text job x y first.0.end first.1);
    })
    (told_both (IsJobRead job p) (TakesFrom job) a b read taken)

-- ---- the report of a command's job
none_behind : (command : Command) (p : Program) (x y : Contents) → IsReady command p x y → fault_behind (texts_named command) x p ≡ first_fault p y
unfolding fault_behind
none_behind command p x y ready = ap (first_fault p) ready.texts.behind

-- what was read to its end before some names stays so
pub stays_ended : (names : List (List ℕ)) (y z : Contents) → ((name : List ℕ) → Contains names name → z name ≡ Some []) → LeavesOthers names y z
    → StaysEnded y z
stays_ended names y z ends others name end = elim (among names name) [ inl found ↦ ends name found | inr missing ↦ others name missing ∙ end ]

-- the texts of a command and its sources were read to their ends
pub ends_at : (command : Command) (p : Program) (x y z : Contents) → IsTrue (reads_sources command) → IsReady command p x y
    → ((name : List ℕ) → Contains (files_of p.sources) name → z name ≡ Some []) → StaysEnded y z
    → (name : List ℕ) → Contains (texts_named command ++ sources_read command p) name → z name ≡ Some []
ends_at command p x y z reads first sources stays name found = by_name name (Contains-append_cases (texts_named command) (sources_read command p) name found)
  where
    by_name : (name : List ℕ) → Contains (texts_named command) name ⊎ Contains (sources_read command p) name → z name ≡ Some []
    by_name name (inl text) = stays name (first.texts.ends name text)
    by_name name (inr found) = sources name (subst (λ (b : Bool). Contains (if b then files_of p.sources else []) name) reads found)

-- a command whose texts are read before its sources, and a trace behind them
pub good_at : (command : Command) (p : Program) (x y : Contents) → how_read command ≡ Whole → (IsTrue (asks_accepted command) → IsAccepted p)
    → NamesNoCheckpoint command
    → IsReady command p x y → first_fault p y ≡ None → IsGood command x p
good_at command p x y whole accepted none first good = record {
  has = first.has;
  accepted = accepted;
  plan = first.plan;
  start = can_start command x p none;
  sources = subst (λ (r : Reading). AreSourcesGood r (texts_named command) x p) (sym whole) (none_behind command p x y first ∙ good);
}

-- a command that names no trace reads none
pub no_trace_read : (command : Command) (p : Program) (x z : Contents) → trace_named command ≡ None → IsTraceRead command p x z
no_trace_read command p x z untraced trace named = absurd (not_named (trace_named command) trace untraced named)

pub read_at : (command : Command) (p : Program) (x y z : Contents) → how_read command ≡ Whole → (IsTrue (asks_accepted command) → IsAccepted p)
    → NamesNoCheckpoint command
    → IsReady command p x y → AreSourcesRead p y z → StaysEnded y z → IsTraceRead command p x z → IsRead command p x z
read_at command p x y z whole accepted none first read stays trace = record {
  good = good_at command p x y whole accepted none first read.good;
  ends = λ name found apart. ends_at command p x y z (ap is_read whole) first read.ends stays name found;
  trace = trace;
  saved = has_saved command p x z none;
}

-- the report of a job whose texts were read before its sources
pub report_at : (command : Command) (p : Program) (report : List ℕ) (x y z : Contents) → IsReady command p x y → IsReported p report y z
    → report ≡ report_behind (texts_named command) x p
unfolding report_behind
report_at command p report x y z first second = second.is ∙ ap (λ left. reports.report p (final_outputs p nothing_held (lists_of p left)))
    (sym first.texts.behind)

-- the command writes the report of its job, and says nothing
abbrev pub WritesReport : Command → Type 0
WritesReport command =
    (left : Contents) (p : Program) (text : List ℕ) → text ≡ report_behind (texts_named command) left p → Writes command left p text × Says command left p []

pub is_reported_behind : (command : Command) (p : Program) (report : List ℕ) (a b c : Option Contents) → how_read command ≡ Whole
    → (IsTrue (asks_accepted command) → IsAccepted p) → trace_named command ≡ None
    → NamesNoCheckpoint command → WritesReport command → WhereTold a b (IsReady command p) → WhereTold b c (LeavesOthers (files_of p.sources))
    → WhereTold b c (IsReported p report) → WhereTold a c (IsWritten command report [])
is_reported_behind command p report a b c whole accepted untraced none writes ready others reported =
    told_then (IsReady command p) (λ y z. IsReported p report y z × LeavesOthers (files_of p.sources) y z) (IsWritten command report []) a b c
    (λ x y z first second.
    let both = writes x p report (report_at command p report x y z first second.0) in
    let read = second.0.read in (
      p,
      read_at command p x y z whole accepted none first read (stays_ended (files_of p.sources) y z read.ends second.1)
          (no_trace_read command p x z untraced),
      both.0,
      both.1,
    ))
    ready (told_both (IsReported p report) (LeavesOthers (files_of p.sources)) b c reported others)

-- ---- what refuses a job
pub job_refusal : (command : Command) (job : List ℕ) (a b : Option Contents) (before now : List ℕ → ℕ) (refusal : Refusal) → job_wanted command ≡ Named job
    → IsJobRefusal job a b before now refusal → IsRefusal command a b before now refusal
job_refusal command job a b before now (refusals.BadWords bad) named is = is
job_refusal command job a b before now (refusals.JobFault fault text) named is = subst (λ (wanted : WantedJob). HasJobFault wanted a b fault) (sym named) is
job_refusal command job a b before now (refusals.Conflict fault) named is = absurd is
job_refusal command job a b before now (refusals.PlanDefect defect) named is = absurd is
job_refusal command job a b before now (refusals.SourceFault p fault) named is = absurd is
job_refusal command job a b before now refusals.ReadFault named is = InJob job named is.0 is.1
job_refusal command job a b before now refusals.WriteFault named is = is
job_refusal command job a b before now refusals.NoMemory named is = is
job_refusal command job a b before now (refusals.SaveDefect defect) named is = absurd is
job_refusal command job a b before now refusals.PutFault named is = is
job_refusal command job a b before now (refusals.TraceFault fault) named is = absurd is

-- a source's file is among those of all
file_among : (p : Program) (earlier later : List Source) (s : Source) → p.sources ≡ earlier ++ (s ∷ later) → is_clock s ≡ false
    → Contains (files_of p.sources) s.file
file_among p earlier later s split has =
    subst (λ (sources : List Source). Contains (files_of sources) s.file) (sym split) (file_behind earlier later s has)

pub report_refusal : (command : Command) (p : Program) (a b c : Option Contents) (k l m : List ℕ → ℕ) (refusal : Refusal) → how_read command ≡ Whole
    → (IsTrue (asks_accepted command) → IsAccepted p) → NamesNoCheckpoint command → WhereTold a b (IsReady command p) → ((n : List ℕ) → k n ≤ l n)
    → IsReportRefusal p b c l m refusal → IsRefusal command a c k m refusal
report_refusal command p a b c k l m (refusals.BadWords bad) reads accepted none ready rise is = is
report_refusal command p a b c k l m (refusals.JobFault fault text) reads accepted none ready rise is = absurd is
report_refusal command p a b c k l m (refusals.Conflict fault) reads accepted none ready rise is = absurd is
report_refusal command p a b c k l m (refusals.PlanDefect defect) reads accepted none ready rise is = absurd is
report_refusal command p a b c k l m (refusals.SourceFault q fault) whole accepted none ready rise is =
    subst (λ (r : Program). HasSourceFault command a c r fault []) (sym is.program)
    record {
      asked = ap is_read whole;
      accepted = accepted;
      source = is.source;
      first = told_then (IsReady command p) (λ left _. first_fault p left ≡ Some fault)
          (λ left now. HasJob (job_wanted command) left p × HasPlanAsked command left p × CanStart command left p
          × IsMet (how_read command) command left now p [] fault) a b c
          (λ x y z first e. (
            first.has,
            first.plan,
            can_start command x p none,
            subst (λ (r : Reading). IsMet r command x z p [] fault) (sym whole)
                (none_behind command p x y first ∙ e),
          )) ready is.first;
    }
report_refusal command p a b c k l m refusals.ReadFault whole accepted none ready rise is =
    let name = is.source.file in
    InSources name (is_source_file command p a b (ap is_read whole) accepted (no_sources command p none) (start_told command p a none) ready name
    (file_among p is.earlier is.later is.source is.split is.has_file)) whole (rose_behind (k name) (l name) (m name) (rise name) is.rose) (record {
      p = p;
      earlier = is.earlier;
      source = is.source;
      later = is.later;
      split = is.split;
      has_file = is.has_file;
      named = refl;
      read = is.read;
      place = is.place;
      form = is.form;
      file = is.file;
      undecided = is.undecided;
      told = told_then (IsReady command p)
          (λ was now. StopsWithout (timing_of p) (form_of (job_of p)) p.kinds is.earlier is.source is.read (ahead is.place now) was)
          (λ was now. HasJob (job_wanted command) was p
          × StopsWithout (timing_of p) (form_of (job_of p)) p.kinds is.earlier is.source is.read (ahead is.place now)
          (emptied_each (texts_named command) was)) a b c
          (λ x y z first stops. (
            first.has,
            subst (λ (left : Contents). StopsWithout (timing_of p) (form_of (job_of p)) p.kinds is.earlier is.source is.read (ahead is.place z) left)
                (sym first.texts.behind) stops,
          )) ready is.told;
    })
report_refusal command p a b c k l m refusals.WriteFault reads accepted none ready rise is = is
report_refusal command p a b c k l m refusals.NoMemory reads accepted none ready rise is = tt
report_refusal command p a b c k l m (refusals.SaveDefect defect) reads accepted none ready rise is = absurd is
report_refusal command p a b c k l m refusals.PutFault reads accepted none ready rise is = is
report_refusal command p a b c k l m (refusals.TraceFault fault) reads accepted none ready rise is = absurd is
