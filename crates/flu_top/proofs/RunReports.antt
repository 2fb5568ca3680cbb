-- The outputs of a run, in whatever order, have the report of the fold; and what is said behind it.
use Rattle.std.proofs.Common.{◌≡◌, refl, sym, ap, ◌∙◌, subst, ℕ, Bool, true, false, List, Option, Some, None}
use Rattle.std.specs.Prelude.{IsTrue}
use Rattle.std.specs.List.Sorted.{IsPermutation}
use Rattle.std.proofs.lemmas.List.Sorted.{IsPermutation-sym}
use Rattle.flu_model.specs.declared.events.Item.{Item}
use Rattle.flu_model.specs.declared.events.Out.{Out}
use Rattle.flu_model.specs.declared.jobs.Program.{Program}
use Rattle.flu_model.specs.declared.plans.Node.{Node}
use Rattle.flu_model.specs.declared.streams.Streams.{Streams}
use Rattle.flu_model.specs.Contents.{Contents, nothing_held}
use Rattle.flu_model.specs.Folding.{final_state, final_outputs}
use Rattle.flu_model.specs.Listed.{listed}
use Rattle.flu_model.specs.Reports.{report}
use Rattle.flu_adaptive.specs.Observed.{IsObservedPlan}
use Rattle.flu_cells.specs.declared.state.State.{State}
use Rattle.flu_cells.specs.Holding.{held}
use Rattle.flu_fork.specs.declared.content.Content.{Content}
use Rattle.flu_fork.specs.Lots.{job as job_in_case}
use Rattle.flu_outside.specs.Outside.{Contents as Files, WhereTold}
use Rattle.flu_outside.specs.Writing.{AppendsAll}
use Rattle.flu_plan.specs.Printing.{printed}
use Rattle.flu_rows.specs.declared.rows.Next.{Next}
use Rattle.flu_streams.specs.declared.border.Border.{Border}
use Rattle.flu_streams.specs.Holding.{AreHeldBehind}
use Rattle.flu_rounds.specs.Halves.{Begins, AreRun, AppendsReport}
use Rattle.flu_rounds.specs.Standing.{Standing, Runs, round_lists, round_report}
use Rattle.flu_lines.specs.declared.products.Said.TheVariants.{Plan}
use Rattle.flu_top.specs.Running.{SaysCounts}

pub outputs_report : (p q r : Program) (opening : Contents) (lists : List (List Item)) (outs : List Out) (text : List ℕ) → q ≡ p → r ≡ p
    → opening ≡ nothing_held
    → IsPermutation (final_outputs q opening lists) outs → ((others : List Out) → IsPermutation outs others → report r others ≡ text)
    → text ≡ report p (final_outputs p nothing_held lists)
outputs_report p q r opening lists outs text same also start shuffled order =
    sym (order (final_outputs q opening lists) (IsPermutation-sym _ outs shuffled)) ∙ (λ i. report (also i) (final_outputs (same i) (start i) lists))

pub run_report : (p q : Program) (k : Content) (s : Streams) (outs : List Out) (text : List ℕ) → job_in_case k ≡ p → q ≡ p → held k.opening ≡ nothing_held
    → k.streams ≡ s
    → IsPermutation (final_outputs (job_in_case k) (held k.opening) (listed k.streams)) outs
    → ((others : List Out) → IsPermutation outs others → report q others ≡ text)
    → text ≡ report p (final_outputs p nothing_held (listed s))
run_report p q k s outs text same also start streams shuffled order =
    outputs_report p (job_in_case k) q (held k.opening) (listed k.streams) outs text same also start shuffled order
    ∙ ap (λ (t : Streams). report p (final_outputs p nothing_held (listed t))) streams

-- both halves of a round, with the fold of its rows between them, make a round, and its rows are those that were handed out
pub round_of_halves : (p : Program) (old new : Standing) (left left' : Option Files) (end : Border) (opening state : State) (rows : List (List Item))
    (outs : List Out) (had has : Option (List ℕ))
    → p ≡ old.held.program → Begins old new.held left left' end opening rows → AreRun p opening rows state outs → held new.state ≡ held state
    → AppendsReport p outs had has
    → (before : ℕ → List Next) → AreHeldBehind old.held before
    → (runs : Runs old new left left' end before) × WhereTold had has (AppendsAll (round_report old end runs.fills.now))
    × (rows ≡ round_lists old end runs.fills.now)
round_of_halves p old new left left' end opening state rows outs had has job began ran is wrote before behind =
    let filled = began.filled before behind in (
      record {
        fills = filled.0;
        state = is ∙ ran.state' ∙ (λ i. final_state (job i) (began.state i) (filled.1 i));
      },
      subst (λ (bytes : List ℕ). WhereTold had has (AppendsAll bytes)) (λ i. report (job i) (final_outputs (job i) (began.state i) (filled.1 i)))
          (wrote (final_outputs p (held opening) rows) (IsPermutation-sym _ _ ran.outs')),
      filled.1,
    )

-- ---- what is said
-- where the plan does not follow the counts, nothing
pub nothing_said : (adapts : Bool) (p : Program) (counts : List ℕ) → adapts ≡ false → SaysCounts adapts p counts None
nothing_said false p counts is = record { may_say = refl; is = refl }
nothing_said true p counts is = absurd (cc)

-- and else the text of the plan that is observed of them
pub plan_is_said : (adapts : Bool) (p : Program) (counts : List ℕ) (nodes : List Node) (text : List ℕ) → adapts ≡ true
    → (IsTrue adapts → IsObservedPlan p counts nodes) → text ≡ printed p nodes
    → SaysCounts adapts p counts (Some (Plan text))
plan_is_said false p counts nodes text follows observed is = absurd (cc)
plan_is_said true p counts nodes text follows observed is = record { may_say = (p, nodes, is); is = (nodes, observed follows, is) }
