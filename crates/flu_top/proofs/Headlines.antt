-- The headline of each command, from the clauses of the call.
use Rattle.std.proofs.Common.{◌≡◌, refl, sym, ap, ◌∙◌, subst, ℕ, ◌≤◌, List, [], ◌∷◌, ◌++◌, Bool, true, false, Option, Some, None, Ok, inl, inr, ◌⊎◌, arith}
use Rattle.std.specs.Prelude.{Contains, if◌then◌else◌}
use Rattle.std.specs.Option.{option_map_or}
use Rattle.std.proofs.lemmas.Bool.{false≢true}
use Rattle.std.proofs.lemmas.List.{append-nil}
use Rattle.std.proofs.lemmas.List.Elements.{Contains-append_left, Contains-append_right}
use Rattle.flu_outside.specs.Outside.{Contents, WhereTold, Rose}
use Rattle.flu_outside.specs.Taking.{bytes_left}
use Rattle.flu_outside.specs.Writing.{AppendsAll}
use Rattle.flu_model.specs.declared.jobs.Source.{Source}
use Rattle.flu_model.specs.declared.jobs.Program.{Program}
use Rattle.flu_model.specs.Moments.{timing_of}
use Rattle.flu_model.specs.Contents.{nothing_held}
use Rattle.flu_model.specs.Erasure.{job_of}
use Rattle.flu_model.specs.Modes.{IsAccepted}
use Rattle.flu_rows.specs.Row.{form_of}
use Rattle.flu_grammar.specs.Laws.{JobsAreGrammar}
use Rattle.flu_rounds.specs.Written.{AreSound, lines_in}
use Rattle.flu_streams.specs.Files.{files_of}
use Rattle.flu_streams.specs.Good.{first_fault, lines_in as lines_of_source}
use Rattle.flu_streams.specs.Rounds.{defect_in}
use Rattle.flu_words.specs.Words.{Command, Fold, Run, Simulate, Replay, RoundsHaveRows, command_in}
use Rattle.flu_command.specs.Behind.{Named, HasJob, fault_behind, lists_behind, report_behind, plan_behind}
use Rattle.flu_command.specs.Emptied.{emptied, emptied_each, if_named}
use Rattle.flu_top.specs.Headline.{fold_report, WritesOrNoMemory, NoneFailed, HaveNoDefect, IsValidPlanText, FoldIsTheReport, RunIsTheFold}
use Rattle.flu_top.specs.Headline.{SimulationIsTheFold, ReplayIsTheFold, OneTextOneReport}
use Rattle.flu_command.specs.Openings.{Opening, fresh, report_from}
use Rattle.flu_command.specs.Reading.{lines_behind}
use Rattle.flu_command.specs.Wants.{job_wanted, plan_named, save_named, resume_named, trace_named, reads_sources, Writes}
use Rattle.flu_command.specs.Done.{HasValidPlan, MayHaveJob, IsGood, IsDone, IsReadName}
use Rattle.flu_command.specs.Replaying.{HasCompleteTrace}
use Rattle.flu_top.specs.Outcome.{Outside, Outcome, Faults, NothingFailed, Completes}
use Rattle.flu_lines.specs.declared.statuses.Status.TheVariants as statuses
use Rattle.flu_command.specs.Calling as calls
use Rattle.flu_command.specs.OneText.{TextsHaveOneJob, JobsHaveOneReport}
use Rattle.flu_top.proofs.Completeness.{known_at}
use Rattle.flu_top.proofs.OneCommand.{not_named}
use Rattle.flu_top.proofs.Sequence.{none_among, can_start}
use Rattle.flu_top.proofs.Statuses.{ended_at}

-- ---- out
appended : (a b : Option (List ℕ)) (text had : List ℕ) → a ≡ Some had → WhereTold a b (AppendsAll text) → b ≡ Some (had ++ text)
appended None b text had is told = absurd (cc)
appended (Some x) None text had is told = absurd told
appended (Some x) (Some y) text had is told = let same : x ≡ had = cc in ap Some (told ∙ ap (λ bytes. bytes ++ text) same)

-- ---- the names that are read
in_files : (b : Bool) (q : Program) (name : List ℕ) → Contains (if b then files_of q.sources else []) name → Contains (files_of q.sources) name
in_files true q name found = found
in_files false q name found = absurd (none_among name found)

-- among some names there are all that a command can read, of a job with this program
record AreAmong (command : Command) (job : List ℕ) (p : Program) (names : List (List ℕ)) : Type 0 where
  its_job : job_wanted command ≡ Named job
  fresh : resume_named command ≡ None
  job_in : Contains names job
  plan_in : (name : List ℕ) → plan_named command ≡ Some name → Contains names name
  trace_in : (name : List ℕ) → trace_named command ≡ Some name → Contains names name
  sources_in : (name : List ℕ) → Contains (files_of p.sources) name → Contains names name

module _ (one : TextsHaveOneJob) (command : Command) (job : List ℕ) (left : Contents) (p : Program) (names : List (List ℕ))
    (all : AreAmong command job p names) (has : HasJob (job_wanted command) left p) where
  read_among : (told : Option Contents) → told ≡ Some left → (name : List ℕ) → IsReadName told command name → Contains names name
  read_among told is name (inl same) =
      let e : Named job ≡ Named name = sym all.its_job ∙ same in
      let one : job ≡ name = cc in
      subst (Contains names) one all.job_in
  read_among told is name (inr (inl plan)) = all.plan_in name plan.named
  read_among told is name (inr (inr (inl checkpoint))) = absurd (not_named (resume_named command) name all.fresh checkpoint.named)
  read_among told is name (inr (inr (inr (inl source)))) =
      let q = source.p in
      let its : HasJob (job_wanted command) left q = subst (λ o. MayHaveJob o (job_wanted command) q) is source.job.has in
      let same = one (job_wanted command) left q p its has in
      all.sources_in name (subst (λ (ss : List Source). Contains (files_of ss) name) (ap (λ j. j.sources) same)
      (in_files (reads_sources command) q name source.named))
  read_among told is name (inr (inr (inr (inr trace)))) = all.trace_in name trace.named

  nothing_failed : (told : Option Contents) (before now : Faults) → told ≡ Some left → NoneFailed names before now
      → ((name : List ℕ) → save_named command ≡ Some name → ¬ Rose (before.puts name) (now.puts name)) → NothingFailed command told before now
  nothing_failed told before now is none puts = record {
    files = λ name read. none.takes name (read_among told is name read);
    saves = puts;
    out = none.out;
  }

-- ---- a call that nothing refuses
-- what it writes is this text, whichever program of its job's text is looked at
abbrev WritesOnly : Command → Contents → List ℕ → Type 0
WritesOnly command left text = (q : Program) (other : List ℕ) → HasJob (job_wanted command) left q → Writes command left q other → other ≡ text

writes : (words : List (List ℕ)) (old new : Outside) (before now : Faults) (status : ℕ) → Outcome words old new status
    → Completes words old.left before now status
    → (command : Command) (left : Contents) (p : Program) (text : List ℕ) → command_in words ≡ Ok command → old.left ≡ Some left
    → NothingFailed command old.left before now → IsGood command left p → HasCompleteTrace command left p → WritesOnly command left text
    → WritesOrNoMemory text old new status
writes words old new before now status outcome complete command left p text word told nothing good only is =
    elim (complete command left 0 word told nothing (calls.Good refl p good only)) [
      | inl done ↦ inl (done, λ had out. found done had out)
      | inr none ↦ inr none
    ]
  where
    found : status ≡ 0 → (had : List ℕ) → old.out ≡ Some had → new.out ≡ Some (had ++ text)
    found done had out =
        let at = ended_at words old new status outcome statuses.Done done command word in
        let all = (known_at (job_wanted command) (IsDone command old.out new.out at.0) left old.left new.left told at.1).1 in
        appended old.out new.out text had out (subst (λ bytes. WhereTold old.out new.out (AppendsAll bytes)) (is all.0 all.1 all.2.good.has all.3) all.5)

-- ---- one text
one_report : TextsHaveOneJob → JobsHaveOneReport → (name : List ℕ) (left behind : Contents) (p q : Program) → HasJob (Named name) left p
    → HasJob (Named name) left q
    → fold_report q behind ≡ fold_report p behind
one_report one report name left behind p q first second = report q p nothing_held behind (one (Named name) left q p second first)

pub one_text_law : JobsAreGrammar → JobsHaveOneReport → OneTextOneReport
one_text_law jobs report bytes p q first second left =
    let e = sym ((jobs bytes (job_of p)).1 first) ∙ (jobs bytes (job_of q)).1 second in
    let same : job_of p ≡ job_of q = cc in
    report p q nothing_held left same

-- ---- what is asked of each command
no_name : (name : List ℕ) → None ≡ Some name → ⊥
no_name name named = cc

-- a name that is given stands among others
given_in : (named : Option (List ℕ)) (first others : List (List ℕ)) (name : List ℕ) → named ≡ Some name
    → Contains ((first ++ if_named named) ++ others) name
given_in named first others name is =
    Contains-append_left (first ++ if_named named) others name (Contains-append_right first (if_named named) name
    (subst (λ (o : Option (List ℕ)). Contains (if_named o) name) (sym is) (0, omega arith, refl)))

-- lines without a defect are sound
sound : (p : Program) (left : Contents) → HaveNoDefect p left → AreSound p (lines_in p left)
sound p left none = λ i s e.
    ap (λ o. defect_in (timing_of p i) p.kinds s (option_map_or (lines_of_source (form_of (job_of p)) left) o [])) e ∙ none i s e

-- ---- fold
fold_among : (job : List ℕ) (p : Program) → AreAmong (Fold job) job p (job ∷ files_of p.sources)
fold_among job p = record {
  its_job = refl;
  fresh = refl;
  job_in = (0, omega arith, refl);
  plan_in = λ name named. absurd (no_name name named);
  trace_in = λ name named. absurd (no_name name named);
  sources_in = λ name found. Contains-append_right (job ∷ []) (files_of p.sources) name found;
}

fold_good : (job : List ℕ) (left : Contents) (p : Program) → HasJob (Named job) left p → first_fault p (emptied job left) ≡ None
    → IsGood (Fold job) left p
unfolding fault_behind
fold_good job left p text good = record {
  has = text;
  accepted = λ asked. absurd (false≢true asked);
  plan = λ name named. absurd (no_name name named);
  start = can_start (Fold job) left p (record { save = refl; resume = refl; rows = refl });
  sources = good;
}

fold_writes : TextsHaveOneJob → JobsHaveOneReport → (job : List ℕ) (left : Contents) (p : Program) → HasJob (Named job) left p
    → WritesOnly (Fold job) left (fold_report p (emptied job left))
unfolding report_behind
fold_writes one report job left p text q other its is = is ∙ one_report one report job left (emptied job left) p q text its

pub fold_law : TextsHaveOneJob → JobsHaveOneReport → FoldIsTheReport
fold_law one report words old new before now status outcome complete job left p word told text good none =
    writes words old new before now status outcome complete (Fold job) left p (fold_report p (emptied job left)) word told
    (nothing_failed one (Fold job) job left p (job ∷ files_of p.sources) (fold_among job p) text old.left before now told none
    (λ name named. absurd (no_name name named)))
    (fold_good job left p text good) (λ trace named. absurd (no_name trace named)) (fold_writes one report job left p text)

-- ---- run
abbrev run_fresh : List ℕ → Option (List ℕ) → ℕ → ℕ → Bool → Option (List ℕ) → Bool → Command
run_fresh job plan depth rows adapt save unflushed =
    Run job plan (record { depth = depth; rows = rows; adapt = adapt; save = save; unflushed = unflushed; resume = None })

run_among : (job : List ℕ) (plan : Option (List ℕ)) (depth rows : ℕ) (adapt : Bool) (save : Option (List ℕ)) (unflushed : Bool) (p : Program)
    → AreAmong (run_fresh job plan depth rows adapt save unflushed) job p ((job ∷ if_named plan) ++ files_of p.sources)
run_among job plan depth rows adapt save unflushed p = record {
  its_job = refl;
  fresh = refl;
  job_in = (0, omega arith, refl);
  plan_in = λ name named. given_in plan (job ∷ []) (files_of p.sources) name named;
  trace_in = λ name named. absurd (no_name name named);
  sources_in = λ name found. Contains-append_right (job ∷ if_named plan) (files_of p.sources) name found;
}

run_good : (job : List ℕ) (plan : Option (List ℕ)) (depth rows : ℕ) (adapt : Bool) (save : Option (List ℕ)) (unflushed : Bool) (left : Contents) (p : Program)
    → 1 ≤ rows → HasJob (Named job) left p → IsAccepted p
    → ((name : List ℕ) → plan ≡ Some name → IsValidPlanText name (emptied job left) p)
    → HaveNoDefect p (emptied_each (job ∷ if_named plan) left)
    → ((name : List ℕ) → save ≡ Some name → ¬ Contains (files_of p.sources) name) → IsGood (run_fresh job plan depth rows adapt save unflushed) left p
unfolding plan_behind
run_good job plan depth rows adapt save unflushed left p some text accepted valid good apart = record {
  has = text;
  accepted = λ asked. accepted;
  plan = valid;
  start = (fresh rows, record { apart = record { save = apart; resume = λ name named. absurd (no_name name named) }; opens = (refl, some) });
  sources = subst (λ (texts : List (List ℕ)). AreSound p (lines_behind texts left p)) (sym (append-nil (job ∷ if_named plan)))
      (sound p (emptied_each (job ∷ if_named plan) left) good);
}

run_writes : TextsHaveOneJob → JobsHaveOneReport
    → (job : List ℕ) (plan : Option (List ℕ)) (depth rows : ℕ) (adapt : Bool) (save : Option (List ℕ)) (unflushed : Bool)
    → (left : Contents) (p : Program) → HasJob (Named job) left p
    → WritesOnly (run_fresh job plan depth rows adapt save unflushed) left (fold_report p (emptied_each (job ∷ if_named plan) left))
unfolding lists_behind
run_writes one report job plan depth rows adapt save unflushed left p text q other its is =
    is.2
    ∙ (ap (λ (o : Opening). report_from o ((job ∷ if_named plan) ++ []) left q) is.1.0
    ∙ (ap (λ (texts : List (List ℕ)). report_from (fresh rows) texts left q) (append-nil (job ∷ if_named plan))
    ∙ one_report one report job left (emptied_each (job ∷ if_named plan) left) p q text its))

pub run_law : TextsHaveOneJob → JobsHaveOneReport → RoundsHaveRows → RunIsTheFold
run_law one report has_rows words old new before now status outcome complete job plan depth rows adapt save unflushed left p word told text accepted valid good none puts =
    let command = run_fresh job plan depth rows adapt save unflushed in
    writes words old new before now status outcome complete command left p (fold_report p (emptied_each (job ∷ if_named plan) left)) word told
    (nothing_failed one command job left p ((job ∷ if_named plan) ++ files_of p.sources) (run_among job plan depth rows adapt save unflushed p) text
    old.left before now told none (λ name named. (puts name named).1))
    (run_good job plan depth rows adapt save unflushed left p (has_rows words job plan _ word).0 text accepted valid good (λ name named. (puts name named).0))
    (λ trace named. absurd (no_name trace named)) (run_writes one report job plan depth rows adapt save unflushed left p text)

-- ---- simulate and replay
simulation_among : (job plan : List ℕ) (seed : ℕ) (p : Program) → AreAmong (Simulate job plan seed false) job p ((job ∷ plan ∷ []) ++ files_of p.sources)
simulation_among job plan seed p = record {
  its_job = refl;
  fresh = refl;
  job_in = (0, omega arith, refl);
  plan_in = λ name named. given_in (Some plan) (job ∷ []) (files_of p.sources) name named;
  trace_in = λ name named. absurd (no_name name named);
  sources_in = λ name found. Contains-append_right (job ∷ plan ∷ []) (files_of p.sources) name found;
}

replay_among : (job plan trace : List ℕ) (p : Program) → AreAmong (Replay job plan trace) job p ((job ∷ plan ∷ trace ∷ []) ++ files_of p.sources)
replay_among job plan trace p = record {
  its_job = refl;
  fresh = refl;
  job_in = (0, omega arith, refl);
  plan_in = λ name named. Contains-append_left (job ∷ plan ∷ trace ∷ []) (files_of p.sources) name (1, omega arith, one plan name named);
  trace_in = λ name named. given_in (Some trace) (job ∷ plan ∷ []) (files_of p.sources) name named;
  sources_in = λ name found. Contains-append_right (job ∷ plan ∷ trace ∷ []) (files_of p.sources) name found;
}
  where
    one : (x y : List ℕ) → Some x ≡ Some y → x ≡ y
    one x y same = cc

-- a plan that was named is the one of a command
asked_one : (job plan : List ℕ) (left : Contents) (p : Program) → IsValidPlanText plan (emptied job left) p → (name : List ℕ) → Some plan ≡ Some name
    → HasValidPlan (Named job) name left p
unfolding plan_behind
asked_one job plan left p valid name named = let same : plan ≡ name = cc in subst (λ n. IsValidPlanText n (emptied job left) p) same valid

simulation_good : (job plan : List ℕ) (seed : ℕ) (left : Contents) (p : Program) → HasJob (Named job) left p → IsAccepted p
    → IsValidPlanText plan (emptied job left) p → first_fault p (emptied plan (emptied job left)) ≡ None → IsGood (Simulate job plan seed false) left p
unfolding fault_behind
simulation_good job plan seed left p text accepted valid good = record {
  has = text;
  accepted = λ asked. accepted;
  plan = asked_one job plan left p valid;
  start = can_start (Simulate job plan seed false) left p (record { save = refl; resume = refl; rows = refl });
  sources = good;
}

replay_good : (job plan trace : List ℕ) (left : Contents) (p : Program) → HasJob (Named job) left p → IsAccepted p
    → IsValidPlanText plan (emptied job left) p → first_fault p (emptied plan (emptied job left)) ≡ None → IsGood (Replay job plan trace) left p
unfolding fault_behind
replay_good job plan trace left p text accepted valid good = record {
  has = text;
  accepted = λ asked. accepted;
  plan = asked_one job plan left p valid;
  start = can_start (Replay job plan trace) left p (record { save = refl; resume = refl; rows = refl });
  sources = good;
}

-- both write the report of the job behind its text and the plan's
both_write : TextsHaveOneJob → JobsHaveOneReport → (job plan : List ℕ) (left : Contents) (p : Program) → HasJob (Named job) left p
    → (q : Program) (other : List ℕ)
    → HasJob (Named job) left q → other ≡ report_behind (job ∷ plan ∷ []) left q → other ≡ fold_report p (emptied plan (emptied job left))
unfolding report_behind
both_write one report job plan left p text q other its is = is ∙ one_report one report job left (emptied plan (emptied job left)) p q text its

pub simulation_law : TextsHaveOneJob → JobsHaveOneReport → SimulationIsTheFold
simulation_law one report words old new before now status outcome complete job plan seed left p word told text accepted valid good none =
    let command = Simulate job plan seed false in
    writes words old new before now status outcome complete command left p (fold_report p (emptied plan (emptied job left))) word told
    (nothing_failed one command job left p ((job ∷ plan ∷ []) ++ files_of p.sources) (simulation_among job plan seed p) text old.left before now told none
    (λ name named. absurd (no_name name named)))
    (simulation_good job plan seed left p text accepted valid good) (λ trace named. absurd (no_name trace named)) (both_write one report job plan left p text)

pub replay_law : TextsHaveOneJob → JobsHaveOneReport → ReplayIsTheFold
replay_law one report words old new before now status outcome complete job plan trace left p word told text accepted valid good only none =
    let command = Replay job plan trace in
    writes words old new before now status outcome complete command left p (fold_report p (emptied plan (emptied job left))) word told
    (nothing_failed one command job left p ((job ∷ plan ∷ trace ∷ []) ++ files_of p.sources) (replay_among job plan trace p) text old.left before now told none
    (λ name named. absurd (no_name name named)))
    (replay_good job plan trace left p text accepted valid good) only (both_write one report job plan left p text)
