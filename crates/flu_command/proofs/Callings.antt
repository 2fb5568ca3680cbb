-- A command and its files call for one status, and what ends it is what they call for.
use Rattle.std.proofs.Common.{◌≡◌, ◌≢◌, sym, ap, ◌∙◌, refl, subst, ℕ, Some, Err, ◌⊎◌}
use Rattle.std.specs.Prelude.{List, IsTrue}
use Rattle.flu_outside.specs.Outside.{Contents}
use Rattle.flu_model.specs.declared.jobs.Program.{Program}
use Rattle.flu_model.specs.Erasure.{job_of}
use Rattle.flu_model.specs.declared.plans.Node.{Node}
use Rattle.flu_model.specs.Modes.{IsAccepted}
use Rattle.flu_model.specs.Validity.{IsValid}
use Rattle.flu_deps.specs.Checking.{program_of}
use Rattle.flu_parse.specs.declared.faults.JobFault.{JobFault}
use Rattle.flu_parse.specs.Reading.{job_in}
use Rattle.flu_plan.specs.Reading.{plan_in}
use Rattle.flu_grammar.specs.Laws.{JobsAreGrammar, PlansAreGrammar, PlanTextsFitEach}
use Rattle.flu_laws.specs.OneJob.{JobsAreAcceptedAlike, JobsHaveTheSameOwners}
use Rattle.flu_plan.specs.declared.fault.PlanFault.{PlanFault}
use Rattle.flu_outside.specs.Taking.{bytes_left}
use Rattle.flu_save.specs.Laws.{LawOfFaults}
use Rattle.flu_streams.specs.Fronts.{LawOfMeeting}
use Rattle.flu_trace.specs.OneEnding.{OneEnding}
use Rattle.flu_lemmas.proofs.Told.{of_told}
use Rattle.flu_lines.specs.declared.refusals.PlanDefect.TheVariants as defects
use Rattle.flu_lines.specs.declared.refusals.SaveDefect.TheVariants as starts
use Rattle.flu_trace.specs.declared.faults.ReplayFault.{ReplayFault}
use Rattle.flu_trace.specs.declared.faults.ReplayFault.TheVariants as traces
use Rattle.flu_trace.specs.Replaying.{Ending, Complete, ending_of}
use Rattle.flu_words.specs.Words.{Command}
use Rattle.flu_command.specs.Behind.{WantedJob, Named, HasJob, HasPlan, plan_behind}
use Rattle.flu_command.specs.Reading.{AreSourcesGood, HasDefect}
use Rattle.flu_command.specs.Starting.{CanStart, IsSameName, HasBadCheckpoint}
use Rattle.flu_command.specs.Wants.{job_wanted, plan_named, trace_named, asks_accepted, how_read, texts_named}
use Rattle.flu_command.specs.Done.{HasValidPlan, HasPlanAsked, IsGood}
use Rattle.flu_command.specs.Determining.{OneEndingOfATrace}
use Rattle.flu_command.specs.Replaying.{ReplaysTo, HasCompleteTrace}
use Rattle.flu_command.specs.Causes.{IsJobRead, IsMet}
use Rattle.flu_command.specs.Calling.{HasFaultyTrace, CallsFor, DoneIsCalledFor, JobFaultIsCalledFor, ConflictIsCalledFor, PlanDefectIsCalledFor}
use Rattle.flu_command.specs.Calling.{SaveDefectIsCalledFor, SourceFaultIsCalledFor, TraceFaultIsCalledFor}
use Rattle.flu_command.specs.TextFaults.{IsFirstJobFault}
use Rattle.flu_command.specs.Calling as calls
use Rattle.flu_command.proofs.Defects.{good_or_bad, met_defect}
use Rattle.flu_command.proofs.SameJob.{same_good}
use Rattle.flu_command.proofs.OneRuns.{LawsOfJobs, one_ending_of_trace, same_job}
use Rattle.flu_command.proofs.Starts.{same_start, same_name_stops, bad_checkpoint_stops}

-- texts are read by their grammar, programs of one job are alike, a defect that a round meets is the first of its source, bytes with a fault
-- are no checkpoint, and a trace has one ending
pub record LawsBelow : Type 0 where
  pub jobs : JobsAreGrammar
  pub plans : PlansAreGrammar
  pub texts_fit : PlanTextsFitEach
  pub acceptance : JobsAreAcceptedAlike
  pub of_jobs : LawsOfJobs
  pub meeting : LawOfMeeting
  pub saves : LawOfFaults
  pub traces : OneEnding

-- what each status would show of the files is so at the one that is wanted alone
record Leads (wanted : ℕ) (command : Command) (left : Contents) : Type 0 where
  done : (p : Program) → IsGood command left p → HasCompleteTrace command left p → wanted ≡ 0
  job : (name : List ℕ) (fault : JobFault) → job_wanted command ≡ Named name → job_in (bytes_left left name) ≡ Err fault → wanted ≡ 3
  conflict : (p : Program) → IsTrue (asks_accepted command) → ¬ IsAccepted p → HasJob (job_wanted command) left p → wanted ≡ 4
  plan : (plan : List ℕ) (p : Program) → plan_named command ≡ Some plan → IsAccepted p → HasJob (job_wanted command) left p
      → ¬ HasValidPlan (job_wanted command) plan left p → wanted ≡ 5
  start : (p : Program) → (IsTrue (asks_accepted command) → IsAccepted p) → HasJob (job_wanted command) left p
      → HasPlanAsked command left p → ¬ CanStart command left p → wanted ≡ 11
  source : (p : Program) → (IsTrue (asks_accepted command) → IsAccepted p) → HasJob (job_wanted command) left p
      → HasPlanAsked command left p → CanStart command left p → HasDefect (how_read command) (texts_named command) left p → wanted ≡ 6
  trace : (p : Program) (trace : List ℕ) (ending : Ending) → trace_named command ≡ Some trace → IsGood command left p → ReplaysTo command trace left p ending
      → ending ≢ Complete → wanted ≡ 13

pub valid_of_text : JobsAreGrammar → PlanTextsFitEach → JobsHaveTheSameOwners → (job : WantedJob) (plan : List ℕ) (left : Contents) (p q : Program)
    → HasJob job left p → HasJob job left q → HasValidPlan job plan left p → HasValidPlan job plan left q
valid_of_text jobs fit owners job plan left p q first second found =
    let same = same_job jobs job left p q first second in
    (found.0, fit p q same (plan_behind job plan left) found.0 found.1, (owners p q same).valid found.0 found.2)

module _ (laws : LawsBelow) where
  not_both : (job : WantedJob) (name : List ℕ) (left : Contents) (p : Program) (fault : JobFault) → job ≡ Named name → HasJob job left p
      → job_in (bytes_left left name) ≡ Err fault → ⊥
  not_both job name left p fault named has bad =
      let e = sym ((laws.jobs (bytes_left left name) (job_of p)).1 (subst (λ (wanted : WantedJob). HasJob wanted left p) named has)) ∙ bad in cc

  -- good sources have no defect, whichever program of the text is looked at
  no_defect : (command : Command) (left : Contents) (p q : Program) → HasJob (job_wanted command) left p → HasJob (job_wanted command) left q
      → AreSourcesGood (how_read command) (texts_named command) left p → HasDefect (how_read command) (texts_named command) left q → ⊥
  no_defect command left p q first second good bad =
      good_or_bad (how_read command) (texts_named command) left q (same_good laws.of_jobs.reading (how_read command) (texts_named command) left p q
      (same_job laws.jobs (job_wanted command) left p q first second) good) bad

  accepted_of_text : (job : WantedJob) (left : Contents) (p q : Program) → HasJob job left p → HasJob job left q → IsAccepted p → IsAccepted q
  accepted_of_text job left p q first second = (laws.acceptance p q (same_job laws.jobs job left p q first second)).accepted

  same_plan_asked : (job : WantedJob) (plan : List ℕ) (left : Contents) (p q : Program) → HasJob job left p → HasJob job left q → HasValidPlan job plan left p
      → HasValidPlan job plan left q
  same_plan_asked = valid_of_text laws.jobs laws.texts_fit laws.of_jobs.owners

  start_of_text : (command : Command) (left : Contents) (p q : Program) → HasJob (job_wanted command) left p → HasJob (job_wanted command) left q
      → CanStart command left p → CanStart command left q
  start_of_text command left p q first second start = same_start command left p q (same_job laws.jobs (job_wanted command) left p q first second) start

  -- ---- plans with a defect
  faulty_text : (job : WantedJob) (plan : List ℕ) (left : Contents) (p : Program) (fault : PlanFault) → plan_in p (plan_behind job plan left) ≡ Err fault
      → HasValidPlan job plan left p → ⊥
  faulty_text job plan left p fault is found = let e = sym is ∙ (laws.plans p (plan_behind job plan left) found.0).1 found.1 in cc

  invalid_plan : (job : WantedJob) (plan : List ℕ) (left : Contents) (p : Program) (nodes : List Node) → ¬ IsValid p nodes → HasPlan job plan left p nodes
      → HasValidPlan job plan left p → ⊥
  invalid_plan job plan left p nodes refused is found =
      let bytes = plan_behind job plan left in
      let e = sym ((laws.plans p bytes found.0).1 found.1) ∙ (laws.plans p bytes nodes).1 is in
      let same : found.0 ≡ nodes = cc in
      refused (subst (IsValid p) same found.2)

  -- ---- traces that end otherwise
  one_ending : OneEndingOfATrace
  one_ending = one_ending_of_trace laws.jobs laws.of_jobs laws.traces

  only_complete : (command : Command) (left : Contents) (p : Program) → HasJob (job_wanted command) left p → HasCompleteTrace command left p
      → ¬ HasFaultyTrace command left
  only_complete command left p has whole faulty =
      faulty.faulty (one_ending command left p faulty.p faulty.trace Complete faulty.ending has faulty.good.has (whole faulty.trace faulty.named) faulty.ends)

  -- a fault tells another ending
  told_ending : (fault : ReplayFault) (ending : Ending) → ending_of fault ≡ Some ending → ending ≢ Complete
  told_ending (traces.Bad line) ending tells same = let e = tells ∙ ap Some same in cc
  told_ending (traces.NotEnabled line) ending tells same = let e = tells ∙ ap Some same in cc
  told_ending (traces.Incomplete line) ending tells same = let e = tells ∙ ap Some same in cc
  told_ending traces.ReadFault ending tells same = cc
  told_ending traces.NoMemory ending tells same = cc

  -- ---- what the status that is called for leaves of the others
  leads_done : (command : Command) (left : Contents) (p : Program) → IsGood command left p → HasCompleteTrace command left p → Leads 0 command left
  leads_done command left p good whole = record {
    done = λ q other none. refl;
    job = λ name fault named bad. absurd (not_both (job_wanted command) name left p fault named good.has bad);
    conflict = λ q asked refused has. absurd (refused (accepted_of_text (job_wanted command) left p q good.has has (good.accepted asked)));
    plan = λ plan q named accepted has bad. absurd (bad (same_plan_asked (job_wanted command) plan left p q good.has has (good.plan plan named)));
    start = λ q accepted has plan bad. absurd (bad (start_of_text command left p q good.has has good.start));
    source = λ q accepted has plan start bad. absurd (no_defect command left p q good.has has good.sources bad);
    trace = λ q trace ending named also ends other.
        absurd (other (one_ending command left p q trace Complete ending good.has also.has (whole trace named) ends));
  }

  leads_job : (command : Command) (name : List ℕ) (left : Contents) (fault : JobFault) → job_wanted command ≡ Named name
      → job_in (bytes_left left name) ≡ Err fault → Leads 3 command left
  leads_job command name left fault named bad = record {
    done = λ q good none. absurd (not_both (job_wanted command) name left q fault named good.has bad);
    job = λ another other also found. refl;
    conflict = λ q asked refused has. absurd (not_both (job_wanted command) name left q fault named has bad);
    plan = λ plan q asked accepted has other. absurd (not_both (job_wanted command) name left q fault named has bad);
    start = λ q accepted has plan found. absurd (not_both (job_wanted command) name left q fault named has bad);
    source = λ q accepted has plan start found. absurd (not_both (job_wanted command) name left q fault named has bad);
    trace = λ q trace ending its good ends other. absurd (not_both (job_wanted command) name left q fault named good.has bad);
  }

  leads_conflict : (command : Command) (left : Contents) (p : Program) → IsTrue (asks_accepted command) → HasJob (job_wanted command) left p → ¬ IsAccepted p
      → Leads 4 command left
  leads_conflict command left p asked has refused = record {
    done = λ q good none. absurd (refused (accepted_of_text (job_wanted command) left q p good.has has (good.accepted asked)));
    job = λ name fault named bad. absurd (not_both (job_wanted command) name left p fault named has bad);
    conflict = λ q asked none found. refl;
    plan = λ plan q named accepted found bad. absurd (refused (accepted_of_text (job_wanted command) left q p found has accepted));
    start = λ q accepted found plan bad. absurd (refused (accepted_of_text (job_wanted command) left q p found has (accepted asked)));
    source = λ q accepted found plan start bad. absurd (refused (accepted_of_text (job_wanted command) left q p found has (accepted asked)));
    trace = λ q trace ending its good ends other. absurd (refused (accepted_of_text (job_wanted command) left q p good.has has (good.accepted asked)));
  }

  leads_plan : (command : Command) (left : Contents) (p : Program) (plan : List ℕ) → plan_named command ≡ Some plan → HasJob (job_wanted command) left p
      → IsAccepted p → ¬ HasValidPlan (job_wanted command) plan left p → Leads 5 command left
  leads_plan command left p plan named has accepted bad = record {
    done = λ q good none. absurd (bad (same_plan_asked (job_wanted command) plan left q p good.has has (good.plan plan named)));
    job = λ name fault named found. absurd (not_both (job_wanted command) name left p fault named has found);
    conflict = λ q asked refused found. absurd (refused (accepted_of_text (job_wanted command) left p q has found accepted));
    plan = λ name q also found others worse. refl;
    start = λ q also found valid others. absurd (bad (same_plan_asked (job_wanted command) plan left q p found has (valid plan named)));
    source = λ q also found valid start others. absurd (bad (same_plan_asked (job_wanted command) plan left q p found has (valid plan named)));
    trace = λ q trace ending its good ends other. absurd (bad (same_plan_asked (job_wanted command) plan left q p good.has has (good.plan plan named)));
  }

  leads_source : (command : Command) (left : Contents) (p : Program) → HasJob (job_wanted command) left p → (IsTrue (asks_accepted command) → IsAccepted p)
      → HasPlanAsked command left p → CanStart command left p
      → HasDefect (how_read command) (texts_named command) left p → Leads 6 command left
  leads_source command left p has accepted valid start bad = record {
    done = λ q good none. absurd (no_defect command left q p good.has has good.sources bad);
    job = λ name other named found. absurd (not_both (job_wanted command) name left p other named has found);
    conflict = λ q asked refused found. absurd (refused (accepted_of_text (job_wanted command) left p q has found (accepted asked)));
    plan = λ plan q named also found other. absurd (other (same_plan_asked (job_wanted command) plan left p q has found (valid plan named)));
    start = λ q also found plan others. absurd (others (start_of_text command left p q has found start));
    source = λ q also found plan begun others. refl;
    trace = λ q trace ending its good ends other. absurd (no_defect command left q p good.has has good.sources bad);
  }

  leads_start : (command : Command) (left : Contents) (p : Program) → HasJob (job_wanted command) left p → (IsTrue (asks_accepted command) → IsAccepted p)
      → HasPlanAsked command left p → ¬ CanStart command left p
      → Leads 11 command left
  leads_start command left p has accepted valid bad = record {
    done = λ q good none. absurd (bad (start_of_text command left q p good.has has good.start));
    job = λ name other named found. absurd (not_both (job_wanted command) name left p other named has found);
    conflict = λ q asked refused found. absurd (refused (accepted_of_text (job_wanted command) left p q has found (accepted asked)));
    plan = λ plan q named also found other. absurd (other (same_plan_asked (job_wanted command) plan left p q has found (valid plan named)));
    start = λ q also found plan others. refl;
    source = λ q also found plan start others. absurd (bad (start_of_text command left q p found has start));
    trace = λ q trace ending its good ends other. absurd (bad (start_of_text command left q p good.has has good.start));
  }

  leads_trace : (command : Command) (left : Contents) → HasFaultyTrace command left → Leads 13 command left
  leads_trace command left faulty =
      let p = faulty.p in
      let good = faulty.good in
      record {
        done = λ q also whole. absurd (only_complete command left q also.has whole faulty);
        job = λ name fault named bad. absurd (not_both (job_wanted command) name left p fault named good.has bad);
        conflict = λ q asked refused has. absurd (refused (accepted_of_text (job_wanted command) left p q good.has has (good.accepted asked)));
        plan = λ plan q named accepted has bad. absurd (bad (same_plan_asked (job_wanted command) plan left p q good.has has (good.plan plan named)));
        start = λ q accepted has plan bad. absurd (bad (start_of_text command left p q good.has has good.start));
        source = λ q accepted has plan start bad. absurd (no_defect command left p q good.has has good.sources bad);
        trace = λ q trace ending named also ends other. refl;
      }

  leads : (command : Command) (left : Contents) (wanted : ℕ) → CallsFor command left wanted → Leads wanted command left
  leads command left wanted (calls.Good is p good whole) = subst (λ n. Leads n command left) (sym is) (leads_done command left p good whole)
  leads command left wanted (calls.FaultyJob is name fault named bad) = subst (λ n. Leads n command left) (sym is) (leads_job command name left fault named bad)
  leads command left wanted (calls.NotAccepted is p asked has refused) =
      subst (λ n. Leads n command left) (sym is) (leads_conflict command left p asked has refused)
  leads command left wanted (calls.NoValidPlan is p plan named has accepted bad) =
      subst (λ n. Leads n command left) (sym is) (leads_plan command left p plan named has accepted bad)
  leads command left wanted (calls.FaultyStart is p has accepted valid bad) =
      subst (λ n. Leads n command left) (sym is) (leads_start command left p has accepted valid bad)
  leads command left wanted (calls.FaultySource is p has accepted valid start bad) =
      subst (λ n. Leads n command left) (sym is) (leads_source command left p has accepted valid start bad)
  leads command left wanted (calls.FaultyTrace is faulty) = subst (λ n. Leads n command left) (sym is) (leads_trace command left faulty)

  -- a command and the files call for one status
  pub one_status : (command : Command) (left : Contents) (a b : ℕ) → CallsFor command left a → CallsFor command left b → a ≡ b
  one_status command left a b first (calls.Good is p good whole) =
      (leads command left a first).done p good whole ∙ sym is
  one_status command left a b first (calls.FaultyJob is name fault named bad) =
      (leads command left a first).job name fault named bad ∙ sym is
  one_status command left a b first (calls.NotAccepted is p asked has refused) =
      (leads command left a first).conflict p asked refused has ∙ sym is
  one_status command left a b first (calls.NoValidPlan is p plan named has accepted bad) =
      (leads command left a first).plan plan p named accepted has bad ∙ sym is
  one_status command left a b first (calls.FaultyStart is p has accepted valid bad) =
      (leads command left a first).start p accepted has valid bad ∙ sym is
  one_status command left a b first (calls.FaultySource is p has accepted valid start bad) =
      (leads command left a first).source p accepted has valid start bad ∙ sym is
  one_status command left a b first (calls.FaultyTrace is faulty) =
      (leads command left a first).trace faulty.p faulty.trace faulty.ending faulty.named faulty.good faulty.ends
      faulty.faulty ∙ sym is

  -- ---- what ends a command
  pub done_called : DoneIsCalledFor
  done_called command left now had has line done =
      calls.Good refl done.0 done.2.good (λ trace named. (done.2.trace trace named).0)

  pub job_fault_called : JobFaultIsCalledFor
  job_fault_called command left old new fault told why =
      calls.FaultyJob refl why.name fault why.named (of_told (λ old _. IsFirstJobFault (bytes_left old why.name) fault) left old new told why.first).1

  pub conflict_called : ConflictIsCalledFor
  conflict_called command left old new fault told why =
      let read = of_told (IsJobRead why.name fault.program) left old new told why.job in
      calls.NotAccepted refl fault.program why.asked
      (subst (λ (job : WantedJob). HasJob job left fault.program) (sym why.named) read.1.has) why.conflict.refused

  pub plan_defect_called : PlanDefectIsCalledFor
  plan_defect_called command left old new (defects.Text fault text) told why =
      let found = (of_told (λ old _. HasJob (job_wanted command) old why.program
      × (plan_in why.program (plan_behind (job_wanted command) why.plan old) ≡ Err fault)) left old new told why.first).1 in
      calls.NoValidPlan refl why.program why.plan why.asked found.0 why.accepted (faulty_text (job_wanted command) why.plan left why.program fault found.1)
  plan_defect_called command left old new (defects.Invalid checked fault) told why =
      let p = program_of checked in
      let found = (of_told (λ old _. HasJob (job_wanted command) old p × HasPlan (job_wanted command) why.plan old p fault.plan.nodes) left old new told
      why.text).1 in
      calls.NoValidPlan refl p why.plan why.asked found.0 why.accepted
      (invalid_plan (job_wanted command) why.plan left p fault.plan.nodes why.invalid.refused found.1)

  pub save_defect_called : SaveDefectIsCalledFor
  save_defect_called command left old new (starts.SameName checked number) told why =
      let p = program_of checked in
      let found = (of_told (λ old _. HasJob (job_wanted command) old p × HasPlanAsked command old p × IsSameName command p number) left old new told
      why.first).1 in
      calls.FaultyStart refl p found.0 why.accepted found.1 (same_name_stops command left p number found.2)
  save_defect_called command left old new (starts.Checkpoint fault) told why =
      let p = why.0 in
      let found = (of_told (λ old _. HasJob (job_wanted command) old p × HasPlanAsked command old p × HasBadCheckpoint command old p fault) left old new told
      why.1.first).1 in
      calls.FaultyStart refl p found.0 why.1.accepted found.1 (bad_checkpoint_stops laws.saves command left p fault found.2)

  pub source_fault_called : SourceFaultIsCalledFor
  source_fault_called command left old new p fault text told why =
      let found = of_told (λ old new. HasJob (job_wanted command) old p × HasPlanAsked command old p × CanStart command old p
      × IsMet (how_read command) command old new p text fault) left old new told why.first in
      calls.FaultySource refl p found.1.0 why.accepted found.1.1 found.1.2
      (met_defect laws.meeting (how_read command) command left found.0 p text fault found.1.3)

  pub trace_fault_called : TraceFaultIsCalledFor
  trace_fault_called command left old new fault told why =
      let found = (of_told (λ old _. IsGood command old why.p × ReplaysTo command why.trace old why.p why.ending) left old new told why.first).1 in
      calls.FaultyTrace refl (record {
        p = why.p;
        good = found.0;
        trace = why.trace;
        named = why.named;
        ending = why.ending;
        ends = found.1;
        faulty = told_ending fault why.ending why.tells;
      })
