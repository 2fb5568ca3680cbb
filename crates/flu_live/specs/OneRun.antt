-- ONE RUN A SEED: what workers use of a job, a plan and streams, and a seed, determine the steps of the whole run, their number by kind, and the mark.
use Rattle.std.specs.Prelude.{◌≡◌, ℕ, List}
use Rattle.flu_fork.specs.declared.content.Content.{Content}
use Rattle.flu_net.specs.declared.steps.Step.{Step}
use Rattle.flu_net.specs.Alike.{view_in}
use Rattle.flu_live.specs.declared.counts.StepCounts.{StepCounts}
use Rattle.flu_live.specs.Seeded.{IsWholeRun, IsSeeded, IsTrace}

pub record IsSameRun (done more : List Step) (steps counts : StepCounts) (mark sign : ℕ) : Type 0 where
  pub done_is : more ≡ done
  pub steps_is : counts ≡ steps
  pub mark_is : sign ≡ mark

abbrev pub OneRunASeed : Type 0
OneRunASeed =
    (k j : Content) (seed : ℕ) (done more : List Step) (steps counts : StepCounts) (mark sign : ℕ) → view_in j ≡ view_in k
    → IsWholeRun k seed done steps mark → IsWholeRun j seed more counts sign → IsSameRun done more steps counts mark sign

-- so there is one line of counts and mark, and one trace
abbrev pub OneLineASeed : Type 0
OneLineASeed =
    (k j : Content) (seed : ℕ) (steps counts : StepCounts) (mark sign : ℕ) → view_in j ≡ view_in k
    → IsSeeded k seed steps mark → IsSeeded j seed counts sign → (counts ≡ steps) × (sign ≡ mark)

abbrev pub OneTraceASeed : Type 0
OneTraceASeed =
    (k j : Content) (seed : ℕ) (done more : List Step) → view_in j ≡ view_in k → IsTrace k seed done → IsTrace j seed more → more ≡ done
