-- A seed draws one run, and a trace ends in one way, whichever program of a job's text is looked at.
use Rattle.std.proofs.Common.{◌≡◌, ℕ, Some, Ok, List, [], ◌∷◌, sym, ap, subst, ◌∙◌}
use Rattle.std.proofs.lemmas.Option.{same_Some}
use Rattle.flu_outside.specs.Outside.{Contents}
use Rattle.flu_outside.specs.Taking.{bytes_left}
use Rattle.flu_model.specs.declared.events.Item.{Item}
use Rattle.flu_model.specs.declared.jobs.Source.{Source}
use Rattle.flu_model.specs.declared.jobs.Program.{Program}
use Rattle.flu_model.specs.declared.plans.Node.{Node}
use Rattle.flu_model.specs.Erasure.{IsSameJob, job_of}
use Rattle.flu_grammar.specs.Laws.{JobsAreGrammar, JobsHaveOnePlan}
use Rattle.flu_laws.specs.OneJob.{JobsHaveTheSameItags, JobsHaveTheSameOwners}
use Rattle.flu_net.specs.Alike.{view_of}
use Rattle.flu_live.specs.OneRun.{OneLineASeed, OneTraceASeed}
use Rattle.flu_streams.specs.Files.{files_of}
use Rattle.flu_streams.specs.Good.{lists_of}
use Rattle.flu_streams.specs.OneJob.{JobsReadTheSame}
use Rattle.flu_trace.specs.OneEnding.{OneEnding}
use Rattle.flu_trace.specs.Replaying.{IsReplayed}
use Rattle.flu_command.specs.Behind.{WantedJob, Named, Fixed, HasJob, HasPlan, emptied_each, lists_behind, plan_behind}
use Rattle.flu_command.specs.Determining.{OneEndingOfATrace, OneLineOfARun, OneTraceOfARun}
use Rattle.flu_lines.specs.Lines.{step_line}
use Rattle.flu_command.specs.Simulating.{from_nothing, lines_of_steps}
use Rattle.flu_command.specs.Wants.{job_wanted, texts_named}
use Rattle.flu_command.proofs.SameViews.{same_view}

-- ---- two programs of one text
pub same_job : JobsAreGrammar → (job : WantedJob) (left : Contents) (p q : Program) → HasJob job left p → HasJob job left q → IsSameJob p q
same_job jobs (Named name) left p q first second = let e = sym ((jobs (bytes_left left name) (job_of p)).1 first)
    ∙ (jobs (bytes_left left name) (job_of q)).1 second in cc
same_job jobs (Fixed job) left p q first second = first ∙ sym second

-- what is the same of two programs of a job, by the laws of jobs
pub record LawsOfJobs : Type 0 where
  pub itags : JobsHaveTheSameItags
  pub owners : JobsHaveTheSameOwners
  pub reading : JobsReadTheSame
  pub plans : JobsHaveOnePlan

module _ (jobs : JobsAreGrammar) (laws : LawsOfJobs) where
  -- workers see the same
  views : (p q : Program) (nodes others : List Node) (lists items : List (List Item)) → IsSameJob p q → others ≡ nodes → items ≡ lists
      → view_of (from_nothing q others items) ≡ view_of (from_nothing p nodes lists)
  views p q nodes others lists items same en ei =
      (λ j. view_of (from_nothing q (en j) (ei j))) ∙ sym (same_view p q (laws.itags p q same) (laws.owners p q same) nodes lists)

  -- and the same lists
  lists_alike : (p q : Program) (left : Contents) → IsSameJob p q → lists_of q left ≡ lists_of p left
  lists_alike p q left same = λ j. (laws.reading q p (sym same)).lists j [] left

  pub one_line_of_run : OneLineASeed → OneLineOfARun
  unfolding lists_behind
  one_line_of_run law job plan seed left p q line other hp hq x y =
      let same = same_job jobs (Named job) left p q hp hq in
      let nodes = sym (laws.plans p q same (plan_behind (Named job) plan left) x.nodes y.nodes x.has y.has) in
      let lists = lists_alike p q (emptied_each (job ∷ plan ∷ []) left) same in
      let view = ap view_of y.drawn.of ∙ views p q x.nodes y.nodes _ _ same nodes lists ∙ sym (ap view_of x.drawn.of) in
      let one = law x.drawn.case y.drawn.case seed x.steps.counts y.steps.counts x.steps.mark y.steps.mark view x.drawn.run y.drawn.run in
      y.is ∙ (λ j. step_line (record { counts = one.0 j; mark = one.1 j })) ∙ sym x.is

  pub one_trace_of_run : OneTraceASeed → OneTraceOfARun
  unfolding lists_behind
  one_trace_of_run law job plan seed left p q text other hp hq x y =
      let same = same_job jobs (Named job) left p q hp hq in
      let nodes = sym (laws.plans p q same (plan_behind (Named job) plan left) x.nodes y.nodes x.has y.has) in
      let lists = lists_alike p q (emptied_each (job ∷ plan ∷ []) left) same in
      let view = ap view_of y.trace.of ∙ views p q x.nodes y.nodes _ _ same nodes lists ∙ sym (ap view_of x.trace.of) in
      let one = law x.trace.case y.trace.case seed x.trace.trace.steps y.trace.trace.steps view x.trace.trace.run y.trace.trace.run in
      y.trace.trace.is ∙ ap lines_of_steps one ∙ sym x.trace.trace.is

  pub one_ending_of_trace : OneEnding → OneEndingOfATrace
  one_ending_of_trace law command left p q trace a b hp hq x y =
      let same = same_job jobs (job_wanted command) left p q hp hq in
      let plan : y.plan ≡ x.plan = same_Some y.plan x.plan (sym y.asked ∙ x.asked) in
      let has = subst (λ (name : List ℕ). HasPlan (job_wanted command) name left q y.nodes) plan y.has in
      let nodes = sym (laws.plans p q same (plan_behind (job_wanted command) x.plan left) x.nodes y.nodes x.has has) in
      let behind = emptied_each (texts_named command) left in
      let lists = lists_alike p q behind same in
      let view = ap view_of y.ends.of ∙ views p q x.nodes y.nodes _ _ same nodes lists ∙ sym (ap view_of x.ends.of) in
      let bytes = ap (λ (ss : List Source). bytes_left (emptied_each (files_of ss) behind) trace) (ap (λ j. j.sources) (sym same)) in
      sym (law x.ends.case y.ends.case _ a b view x.ends.replayed (subst (λ (t : List ℕ). IsReplayed y.ends.case t b) bytes y.ends.replayed))
