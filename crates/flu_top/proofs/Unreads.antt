-- Where a plan refuses a call, the sources, the checkpoint and the trace are left unread.
use Rattle.std.proofs.Common.{◌≡◌, ◌≢◌, sym, ◌∙◌, subst, ℕ, List, Some, inl, inr}
use Rattle.flu_outside.specs.Outside.{Contents}
use Rattle.flu_model.specs.declared.jobs.Program.{Program}
use Rattle.flu_words.specs.Words.{Command}
use Rattle.flu_command.specs.Behind.{Named, HasJob}
use Rattle.flu_command.specs.Done.{HasValidPlan, HasPlanAsked, IsReadName}
use Rattle.flu_top.specs.Unread.{BadPlansReadNoMore}
use Rattle.flu_command.specs.Wants.{job_wanted, plan_named}
use Rattle.flu_command.specs.OneText.{PlansFitEach}
use Rattle.flu_top.proofs.OneCommand.{same_command}

module _ (fit : PlansFitEach) (command : Command) (left : Contents) (p : Program) (plan : List ℕ) (named : plan_named command ≡ Some plan)
    (has : HasJob (job_wanted command) left p) (bad : ¬ HasValidPlan (job_wanted command) plan left p) where
  -- no program of the job's text has such a plan
  not_asked : (q : Program) → HasJob (job_wanted command) left q → ¬ HasPlanAsked command left q
  not_asked q its asked = bad (fit (job_wanted command) plan left q p its has (asked plan named))

  unread : (name : List ℕ) → job_wanted command ≢ Named name → plan ≢ name → ¬ IsReadName (Some left) command name
  unread name other apart (inl same) = other same
  unread name other apart (inr (inl found)) =
      let same : Some plan ≡ Some name = sym named ∙ found.named in
      let one : plan ≡ name = cc in
      apart one
  unread name other apart (inr (inr (inl checkpoint))) = not_asked checkpoint.p checkpoint.job.has checkpoint.plan
  unread name other apart (inr (inr (inr (inl source)))) = not_asked source.p source.job.has source.plan
  unread name other apart (inr (inr (inr (inr trace)))) = not_asked trace.p trace.good.has trace.good.plan

pub unread_law : PlansFitEach → BadPlansReadNoMore
unread_law fit words left now status read command p plan word named has bad name other apart unput =
    read.only name (λ either. elim either [
      | inl took ↦ unread fit command left p plan named has bad name other apart
          (subst (λ (d : Command). IsReadName (Some left) d name) (same_command words took.0 command took.1 word) took.2)
      | inr put ↦ unput put
    ])
