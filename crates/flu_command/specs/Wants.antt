-- What each command wants: the files that it reads, what it asks of them, what it writes, and what it says on err.
use Rattle.std.specs.Prelude.{◌≡◌, ◌≢◌, ℕ, List, [], ◌∷◌, ◌++◌, Bool, true, false, if◌then◌else◌, Option, Some, None}
use Rattle.flu_outside.specs.Outside.{Contents}
use Rattle.flu_model.specs.declared.jobs.Program.{Program}
use Rattle.flu_model.specs.declared.plans.Node.{Node}
use Rattle.flu_model.specs.Erasure.{job_of}
use Rattle.flu_adaptive.specs.Observed.{IsObservedPlan}
use Rattle.flu_parse.specs.Printing.{normal_form}
use Rattle.flu_plan.specs.Printing.{printed}
use Rattle.flu_planner.specs.Plans.{IsGreedyPlan}
use Rattle.flu_streams.specs.Counts.{grown, no_counts}
use Rattle.flu_streams.specs.Files.{files_of}
use Rattle.flu_words.specs.Words.{Command, Fold, Check, Valid, Plan, Run, Simulate, Replay, Demo}
use Rattle.flu_command.specs.Behind.{WantedJob, Named, Fixed, HasPlan, job_files, report_behind}
pub use Rattle.flu_command.specs.Emptied.{if_named}
use Rattle.flu_command.specs.Openings.{Opening, Opens, lists_from, report_from}
use Rattle.flu_command.specs.Rates.{source_rates}
use Rattle.flu_command.specs.Reading.{Reading, Unread, Whole, InRounds, is_read, rows_in_round}
use Rattle.flu_command.specs.Simulating.{IsLineOfRun, IsStepLine, IsTraceOfRun}
use Rattle.flu_command.specs.Demos.{demo_job, demo_summary}

-- this is the text of the greedy plan of all itags of a job at a depth, each itag having its source's rate
pub record IsGreedyText (p : Program) (depth : ℕ) (text : List ℕ) : Type 0 where
  pub nodes : List Node
  pub greedy : IsGreedyPlan p (source_rates p) depth nodes
  pub is : text ≡ printed p nodes

-- this is the normal form of the plan under a name
pub record IsPlanPrinted (job plan : List ℕ) (left : Contents) (p : Program) (text : List ℕ) : Type 0 where
  pub nodes : List Node
  pub has : HasPlan (Named job) plan left p nodes
  pub is : text ≡ printed p nodes

-- this is the report of a run in rounds of a number of rows that opens with a checkpoint, if one is named, which is read after some
-- texts and before the sources
abbrev pub IsReportOfRun : ℕ → List (List ℕ) → Option (List ℕ) → Contents → Program → List ℕ → Type 0
IsReportOfRun rows texts resume left p text =
    (o : Opening) × Opens rows resume texts left p o × (text ≡ report_from o (texts ++ if_named resume) left p)

-- what a run that a seed draws writes: the report of the fold; or its trace, if that is asked for
abbrev pub IsTextOfRun : Bool → List ℕ → List ℕ → ℕ → Contents → Program → List ℕ → Type 0
IsTextOfRun false job plan seed left p text = text ≡ report_behind (job ∷ plan ∷ []) left p
IsTextOfRun true job plan seed left p text = IsTraceOfRun job plan seed left p text

-- what a command says on err once it is done: nothing; or a line, of which the first property is true by what its files have left and by
-- the job's program, and the second whatever they have left
pub data Saying : Type 1 where
  Nothing : Saying
  Line : (Is : Contents → Program → List ℕ → Type 0) → (IsForm : List ℕ → Type 0) → Saying

-- this is the text of the observed plan of all events of a run: those of its sources' items, above the border of the checkpoint if it is
-- resumed from one, which is read after some texts and before the sources
abbrev pub IsObservedText : ℕ → List (List ℕ) → Option (List ℕ) → Contents → Program → List ℕ → Type 0
IsObservedText rows texts resume left p line =
    (o : Opening) × Opens rows resume texts left p o
    × ((nodes : List Node) × IsObservedPlan p (grown (no_counts p) (lists_from o (texts ++ if_named resume) left p)) nodes × (line ≡ printed p nodes))

-- this is the text of some plan
abbrev pub IsSomePlanText : List ℕ → Type 0
IsSomePlanText line = (p : Program) × (nodes : List Node) × (line ≡ printed p nodes)

-- what a run says: the text of the plan that its events ask for, if its plan follows them
abbrev pub plan_said : Bool → ℕ → List (List ℕ) → Option (List ℕ) → Saying
plan_said false rows texts resume = Nothing
plan_said true rows texts resume = Line (IsObservedText rows texts resume) IsSomePlanText

-- what a command wants
pub record Want : Type 1 where
  -- its job, and whether that has to be accepted
  pub job : WantedJob
  pub accepted : Bool
  -- the name of the plan that it reads, if it reads one, which has to be valid for the job
  pub plan : Option (List ℕ)
  -- how it reads the job's sources, which must have no defect, and how many rows of each make a round, if it reads them in rounds
  pub sources : Reading
  pub rows : ℕ
  -- the name that it saves checkpoints to, if it saves any, and the name of the one that it is resumed from
  pub save : Option (List ℕ)
  pub resume : Option (List ℕ)
  -- the name of the trace that it reads, if it reads one, which has to be complete
  pub trace : Option (List ℕ)
  -- the text that it writes, by what its files have left and by the job's program
  pub writes : Contents → Program → List ℕ → Type 0
  -- what it says on err once it is done
  pub says : Saying

-- the report of the fold; the normal form of the job; the normal form of the plan; the text of a greedy plan; the report of
-- the fold again, which a run on the tree of threads gives too, from a checkpoint if it is resumed from one, and the plan that its
-- events ask for is said on err if its plan follows them; the same by a run on the net, whose steps are said on err, and whose trace
-- is written if that is asked for; the report of the fold again, by the steps of a trace; the summary of the report of what a seed
-- draws, for which no file is read
abbrev pub want : Command → Want
want (Fold job) = record {
  job = Named job;
  accepted = false;
  plan = None;
  sources = Whole;
  rows = rows_in_round;
  save = None;
  resume = None;
  trace = None;
  writes = λ left p text. text ≡ report_behind (job ∷ []) left p;
  says = Nothing;
}
want (Check job) = record {
  job = Named job;
  accepted = true;
  plan = None;
  sources = Unread;
  rows = rows_in_round;
  save = None;
  resume = None;
  trace = None;
  writes = λ left p text. text ≡ normal_form (job_of p);
  says = Nothing;
}
want (Valid job plan) = record {
  job = Named job;
  accepted = true;
  plan = Some plan;
  sources = Unread;
  rows = rows_in_round;
  save = None;
  resume = None;
  trace = None;
  writes = λ left p text. IsPlanPrinted job plan left p text;
  says = Nothing;
}
want (Plan job depth) = record {
  job = Named job;
  accepted = true;
  plan = None;
  sources = Unread;
  rows = rows_in_round;
  save = None;
  resume = None;
  trace = None;
  writes = λ left p text. IsGreedyText p depth text;
  says = Nothing;
}
want (Run job plan options) = record {
  job = Named job;
  accepted = true;
  plan = plan;
  sources = InRounds;
  rows = options.rows;
  save = options.save;
  resume = options.resume;
  trace = None;
  writes = λ left p text. IsReportOfRun options.rows (job ∷ if_named plan) options.resume left p text;
  says = plan_said options.adapt options.rows (job ∷ if_named plan) options.resume;
}
want (Simulate job plan seed trace) = record {
  job = Named job;
  accepted = true;
  plan = Some plan;
  sources = Whole;
  rows = rows_in_round;
  save = None;
  resume = None;
  trace = None;
  writes = λ left p text. IsTextOfRun trace job plan seed left p text;
  says = Line (IsLineOfRun job plan seed) IsStepLine;
}
want (Replay job plan trace) = record {
  job = Named job;
  accepted = true;
  plan = Some plan;
  sources = Whole;
  rows = rows_in_round;
  save = None;
  resume = None;
  trace = Some trace;
  writes = λ left p text. text ≡ report_behind (job ∷ plan ∷ []) left p;
  says = Nothing;
}
want (Demo n seed) = record {
  job = Fixed demo_job;
  accepted = true;
  plan = None;
  sources = Unread;
  rows = rows_in_round;
  save = None;
  resume = None;
  trace = None;
  writes = λ left p text. text ≡ demo_summary n seed p;
  says = Nothing;
}

-- ---- the same, each by its own name
-- the job that a command wants
abbrev pub job_wanted : Command → WantedJob
job_wanted command = (want command).job

-- the name of the plan that a command reads, if it reads one
abbrev pub plan_named : Command → Option (List ℕ)
plan_named command = (want command).plan

-- whether a command asks for a job that is accepted
abbrev pub asks_accepted : Command → Bool
asks_accepted command = (want command).accepted

-- how a command reads its job's sources, and whether it does
abbrev pub how_read : Command → Reading
how_read command = (want command).sources

abbrev pub reads_sources : Command → Bool
reads_sources command = is_read (how_read command)

-- how many rows of each source make a round of a command
abbrev pub rows_named : Command → ℕ
rows_named command = (want command).rows

-- the name of the trace that a command reads, if it reads one
abbrev pub trace_named : Command → Option (List ℕ)
trace_named command = (want command).trace

-- whether there is no line at all
abbrev pub is_nothing : Saying → Bool
is_nothing Nothing = true
is_nothing (Line Is IsForm) = false

-- whether a command says nothing on err once it is done
abbrev pub says_nothing : Command → Bool
says_nothing command = is_nothing (want command).says

-- the names that a command saves to and is resumed from, if it names them
abbrev pub save_named : Command → Option (List ℕ)
save_named command = (want command).save

abbrev pub resume_named : Command → Option (List ℕ)
resume_named command = (want command).resume

-- the names of the job's text and of the plan's, if a command reads them
abbrev pub job_and_plan_named : Command → List (List ℕ)
job_and_plan_named command = job_files (job_wanted command) ++ if_named (plan_named command)

-- the names of all texts that it reads, one after another, before the sources: those, and the checkpoint's, if it reads one
abbrev pub texts_named : Command → List (List ℕ)
texts_named command = job_and_plan_named command ++ if_named (resume_named command)

-- this text is what a command writes
abbrev pub Writes : Command → Contents → Program → List ℕ → Type 0
Writes command = (want command).writes

-- the files of its job's sources, if a command reads them
abbrev pub sources_read : Command → Program → List (List ℕ)
sources_read command p = if reads_sources command then files_of p.sources else []

-- a name that a command does not save to
abbrev pub IsNotSaved : Command → List ℕ → Type 0
IsNotSaved command name = save_named command ≢ Some name
