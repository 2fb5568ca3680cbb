-- Commands that read a job and a plan as `valid` does, before they read more.
use Rattle.std.proofs.Common.{◌≡◌, refl, sym, ◌∙◌, subst, ℕ, List, [], ◌∷◌, Bool, Option, Some, None, inl, inr, ◌⊎◌}
use Rattle.std.specs.Prelude.{IsTrue, ◌++◌}
use Rattle.std.proofs.lemmas.Bool.{false≢true}
use Rattle.flu_outside.specs.Outside.{WhereTold, Contents}
use Rattle.flu_outside.specs.Taking.{TookAtMost}
use Rattle.flu_model.specs.declared.jobs.Program.{Program}
use Rattle.flu_deps.specs.Checking.{program_of}
use Rattle.flu_lemmas.proofs.Told.{told_weaker}
use Rattle.flu_words.specs.Words.{Command, RunOptions, Valid, Run, Simulate, Replay}
use Rattle.flu_lines.specs.declared.refusals.PlanDefect.TheVariants as defects
use Rattle.flu_lines.specs.declared.refusals.SaveDefect.TheVariants as saves
use Rattle.flu_lines.specs.declared.refusals.Refusal.{Refusal}
use Rattle.flu_lines.specs.declared.refusals.Refusal.TheVariants as refusals
use Rattle.flu_command.specs.Taking.{TookOnly}
use Rattle.flu_command.specs.Behind.{WantedJob, Named, HasJob, HasPlan, emptied_each, job_files, plan_behind}
use Rattle.flu_command.specs.TextFaults.{IsFirstTextFault}
use Rattle.flu_command.specs.Wants.{job_wanted, plan_named, asks_accepted, resume_named, if_named, texts_named}
use Rattle.flu_command.specs.Done.{HasValidPlan, MayHaveJob, IsPlanName, IsReadName}
use Rattle.flu_command.specs.Causes.{HasJobFault}
use Rattle.flu_command.specs.Ready.{AreTextsRead, IsReady}
use Rattle.flu_command.specs.ReadFaults.{HasReadFault, InJob, InPlan, InCheckpoint, InSources, InRows, InTrace}
use Rattle.flu_top.specs.Refusing.{IsRefusal}
use Rattle.flu_top.proofs.Sequence.{none_among}

-- a command that reads these, and asks for a job that is accepted
pub record ReadsPlan (command : Command) (job plan : List ℕ) : Type 0 where
  pub its_job : job_wanted command ≡ Named job
  pub its_plan : plan_named command ≡ Some plan
  pub accepted : IsTrue (asks_accepted command)

pub run_reads : (job plan : List ℕ) (options : RunOptions) → ReadsPlan (Run job (Some plan) options) job plan
run_reads job plan options = record { its_job = refl; its_plan = refl; accepted = refl }

pub simulation_reads : (job plan : List ℕ) (seed : ℕ) (trace : Bool) → ReadsPlan (Simulate job plan seed trace) job plan
simulation_reads job plan seed trace = record { its_job = refl; its_plan = refl; accepted = refl }

pub replay_reads : (job plan trace : List ℕ) → ReadsPlan (Replay job plan trace) job plan
replay_reads job plan trace = record { its_job = refl; its_plan = refl; accepted = refl }

-- where it is not resumed from a checkpoint, these are all its texts
both_texts : (command : Command) (job plan : List ℕ) → ReadsPlan command job plan → resume_named command ≡ None → job ∷ plan ∷ [] ≡ texts_named command
both_texts command job plan reads fresh = λ i. (job_files (sym reads.its_job i) ++ if_named (sym reads.its_plan i)) ++ if_named (sym fresh i)

ready_at : (command : Command) (job plan : List ℕ) (p : Program) (x z : Contents) → ReadsPlan command job plan → resume_named command ≡ None
    → IsReady (Valid job plan) p x z → IsReady command p x z
ready_at command job plan p x z reads fresh ready = record {
  has = subst (λ (wanted : WantedJob). HasJob wanted x p) (sym reads.its_job) ready.has;
  plan = λ name named. subst (λ (wanted : WantedJob). HasValidPlan wanted name x p) (sym reads.its_job) (ready.plan name (sym reads.its_plan ∙ named));
  texts = subst (λ (texts : List (List ℕ)). AreTextsRead texts x z) (both_texts command job plan reads fresh) ready.texts;
}

pub ready_as_valid : (command : Command) (job plan : List ℕ) (p : Program) (a c : Option Contents) → ReadsPlan command job plan → resume_named command ≡ None
    → WhereTold a c (IsReady (Valid job plan) p) → WhereTold a c (IsReady command p)
ready_as_valid command job plan p a c reads fresh ready =
    told_weaker (IsReady (Valid job plan) p) (IsReady command p) a c (λ x z r. ready_at command job plan p x z reads fresh r) ready

may_have_as : (wanted other : WantedJob) (p : Program) (left : Option Contents) → wanted ≡ other → MayHaveJob left other p → MayHaveJob left wanted p
may_have_as wanted other p left same may = subst (λ (job : WantedJob). MayHaveJob left job p) (sym same) may

not_named : (name : List ℕ) → None ≡ Some name → ⊥
not_named name named = cc

plan_wider : (command : Command) (job plan : List ℕ) (left : Option Contents) (name : List ℕ) → ReadsPlan command job plan
    → IsPlanName left (Valid job plan) name → IsPlanName left command name
plan_wider command job plan left name reads found = record {
  p = found.p;
  job = record { has = may_have_as (job_wanted command) (Named job) found.p left reads.its_job found.job.has; accepted = λ asked. found.job.accepted refl };
  named = reads.its_plan ∙ found.named;
}

wider : (command : Command) (job plan : List ℕ) (left : Option Contents) (name : List ℕ) → ReadsPlan command job plan → IsReadName left (Valid job plan) name
    → IsReadName left command name
wider command job plan left name reads (inl same) = inl (reads.its_job ∙ same)
wider command job plan left name reads (inr (inl found)) = inr (inl (plan_wider command job plan left name reads found))
wider command job plan left name reads (inr (inr (inl checkpoint))) = absurd (not_named name checkpoint.named)
wider command job plan left name reads (inr (inr (inr (inl source)))) = absurd (none_among name source.named)
wider command job plan left name reads (inr (inr (inr (inr trace)))) = absurd (not_named name trace.named)

pub only_as_valid : (command : Command) (job plan : List ℕ) (a c : Option Contents) → ReadsPlan command job plan
    → WhereTold a c (TookOnly (IsReadName a (Valid job plan))) → WhereTold a c (TookOnly (IsReadName a command))
only_as_valid command job plan a c reads only =
    told_weaker (TookOnly (IsReadName a (Valid job plan))) (TookOnly (IsReadName a command)) a c
    (λ x z took name unread. took name (λ read. unread (wider command job plan a name reads read))) only

-- ---- what refuses `valid` refuses them
-- which has no names of checkpoints, and so nothing that keeps it from its start
never_starts : (name : List ℕ) → (None ≡ Some name) ⊎ (None ≡ Some name) → ⊥
never_starts name (inl saved) = not_named name saved
never_starts name (inr resumed) = not_named name resumed

fault_as_valid : (command : Command) (job plan : List ℕ) (a c : Option Contents) (k m : List ℕ → ℕ) → ReadsPlan command job plan
    → HasReadFault (Valid job plan) a c k m → HasReadFault command a c k m
fault_as_valid command job plan a c k m reads (InJob name named rose few) = InJob name (reads.its_job ∙ named) rose few
fault_as_valid command job plan a c k m reads (InPlan name found rose few) =
    InPlan name (plan_wider command job plan a name reads found) rose (subst (λ (wanted : WantedJob).
    WhereTold a c (λ was is. TookAtMost name 1048576 (emptied_each (job_files wanted) was) is)) (sym reads.its_job) few)
fault_as_valid command job plan a c k m reads (InCheckpoint name checkpoint rose few) = absurd (not_named name checkpoint.named)
fault_as_valid command job plan a c k m reads (InSources name file whole rose hides) = absurd (none_among name file.named)
fault_as_valid command job plan a c k m reads (InRows name file rounds rose hides) = absurd (none_among name file.named)
fault_as_valid command job plan a c k m reads (InTrace name trace rose) = absurd (not_named name trace.named)

pub refusal_as_valid : (command : Command) (job plan : List ℕ) (a c : Option Contents) (k m : List ℕ → ℕ) (refusal : Refusal) → ReadsPlan command job plan
    → IsRefusal (Valid job plan) a c k m refusal → IsRefusal command a c k m refusal
refusal_as_valid command job plan a c k m (refusals.BadWords bad) reads is = is
refusal_as_valid command job plan a c k m (refusals.JobFault fault text) reads is =
    subst (λ (wanted : WantedJob). HasJobFault wanted a c fault) (sym reads.its_job) is
refusal_as_valid command job plan a c k m (refusals.Conflict fault) reads is =
    record { asked = reads.accepted; name = is.name; named = reads.its_job ∙ is.named; conflict = is.conflict; job = is.job }
refusal_as_valid command job plan a c k m (refusals.PlanDefect (defects.Text fault text)) reads is = record {
  plan = is.plan;
  program = is.program;
  asked = reads.its_plan ∙ is.asked;
  accepted = is.accepted;
  is_fault = is.is_fault;
  first = subst (λ (wanted : WantedJob). WhereTold a c (λ left _. HasJob wanted left is.program
      × IsFirstTextFault is.program (plan_behind wanted is.plan left) fault)) (sym reads.its_job) is.first;
}
refusal_as_valid command job plan a c k m (refusals.PlanDefect (defects.Invalid checked fault)) reads is = record {
  plan = is.plan;
  asked = reads.its_plan ∙ is.asked;
  accepted = is.accepted;
  invalid = is.invalid;
  text = subst (λ (wanted : WantedJob). WhereTold a c (λ left _. HasJob wanted left (program_of checked)
      × HasPlan wanted is.plan left (program_of checked) fault.plan.nodes)) (sym reads.its_job) is.text;
}
refusal_as_valid command job plan a c k m (refusals.SourceFault other fault) reads is = absurd (false≢true is.asked)
refusal_as_valid command job plan a c k m refusals.ReadFault reads is = fault_as_valid command job plan a c k m reads is
refusal_as_valid command job plan a c k m refusals.WriteFault reads is = is
refusal_as_valid command job plan a c k m refusals.NoMemory reads is = tt
refusal_as_valid command job plan a c k m (refusals.SaveDefect (saves.SameName checked number)) reads is = absurd (never_starts is.name is.named)
refusal_as_valid command job plan a c k m (refusals.SaveDefect (saves.Checkpoint fault)) reads is = absurd (never_starts is.1.name is.1.named)
refusal_as_valid command job plan a c k m refusals.PutFault reads is = is
refusal_as_valid command job plan a c k m (refusals.TraceFault fault) reads is = absurd (not_named is.trace is.named)
