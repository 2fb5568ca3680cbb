-- A job is run on the net of a plan, and the line of its steps is said.
use Rattle.std.proofs.Common.{◌≡◌, refl, sym, ap, ◌∙◌, subst, ℕ, List, [], ◌∷◌, Bool, true, false, Option, Some, None}
use Rattle.flu_outside.specs.Outside.{WhereTold, Contents}
use Rattle.flu_model.specs.declared.events.Item.{Item}
use Rattle.flu_model.specs.declared.jobs.Program.{Program}
use Rattle.flu_model.specs.declared.plans.Node.{Node}
use Rattle.flu_model.specs.declared.streams.Streams.{Streams}
use Rattle.flu_model.specs.Contents.{nothing_held}
use Rattle.flu_model.specs.Folding.{final_outputs}
use Rattle.flu_model.specs.Listed.{listed}
use Rattle.flu_model.specs.Modes.{IsAccepted}
use Rattle.flu_model.specs.Reports.{report}
use Rattle.flu_cells.specs.Holding.{held}
use Rattle.flu_deps.specs.declared.checked.Checked.{Checked}
use Rattle.flu_deps.specs.declared.valid.Valid.{Valid as ValidPlan}
use Rattle.flu_deps.specs.Checking.{program_of}
use Rattle.flu_deps.specs.Validated.{plan_of}
use Rattle.flu_fork.specs.declared.content.Content.{Content}
use Rattle.flu_fork.specs.Lots.{setting_of}
use Rattle.flu_lemmas.proofs.Told.{told_both, told_then}
use Rattle.flu_streams.specs.Files.{files_of, LeavesOthers}
use Rattle.flu_streams.specs.Good.{lists_of}
use Rattle.flu_words.specs.Words.{Simulate}
use Rattle.flu_lines.specs.declared.products.DrawnSteps.{DrawnSteps}
use Rattle.flu_command.specs.Behind.{emptied_each, lists_behind, report_behind}
use Rattle.flu_command.specs.Done.{IsWritten}
use Rattle.flu_top.specs.Folding.{AreSourcesRead}
use Rattle.flu_lines.specs.Lines.{step_line}
use Rattle.flu_command.specs.Ready.{HasNodes, IsReady}
use Rattle.flu_command.specs.Simulating.{from_nothing, AreDrawn, IsLineOfRun, IsTextOn, IsTraceText}
use Rattle.flu_command.specs.Wants.{IsTextOfRun}
use Rattle.flu_top.proofs.Sequence.{read_at, no_trace_read, stays_ended}

-- ---- the line of the steps
line_at : (job plan : List ℕ) (seed : ℕ) (trace : Bool) (p : Program) (nodes : List Node) (steps : DrawnSteps) (x y : Contents)
    → IsReady (Simulate job plan seed trace) p x y → HasNodes job plan p nodes x y
    → AreDrawn p nodes (lists_of p y) seed steps → IsLineOfRun job plan seed x p (step_line steps)
unfolding lists_behind
line_at job plan seed trace p nodes steps x y ready found drawn = record {
  nodes = nodes;
  has = found;
  steps = steps;
  drawn = subst (λ (lists : List (List Item)). AreDrawn p nodes lists seed steps) (ap (lists_of p) (sym ready.texts.behind)) drawn;
  is = refl;
}

-- ---- the text that is written
text_at : (job plan : List ℕ) (seed : ℕ) (trace : Bool) (p : Program) (nodes : List Node) (text : List ℕ) (x y : Contents)
    → emptied_each (job ∷ plan ∷ []) x ≡ y → HasNodes job plan p nodes x y
    → IsTextOn trace p nodes (lists_of p y) seed text → IsTextOfRun trace job plan seed x p text
unfolding lists_behind report_behind
text_at job plan seed false p nodes text x y behind found is = is ∙ ap (λ left. report p (final_outputs p nothing_held (lists_of p left))) (sym behind)
text_at job plan seed true p nodes text x y behind found is = record {
  nodes = nodes;
  has = found;
  trace = subst (λ (lists : List (List Item)). IsTraceText p nodes lists seed text) (ap (lists_of p) (sym behind)) is;
}

-- what the run of a job's sources gives
abbrev pub HasRun : Bool → Program → List Node → ℕ → List ℕ → DrawnSteps → Contents → Contents → Type 0
HasRun trace p nodes seed text steps y z =
    AreSourcesRead p y z × IsTextOn trace p nodes (lists_of p y) seed text × AreDrawn p nodes (lists_of p y) seed steps × LeavesOthers (files_of p.sources) y z

has_run : (trace : Bool) (p : Program) (nodes : List Node) (seed : ℕ) (text : List ℕ) (steps : DrawnSteps) (b c : Option Contents)
    → WhereTold b c (AreSourcesRead p)
    → WhereTold b c (λ y _. IsTextOn trace p nodes (lists_of p y) seed text) → WhereTold b c (λ y _. AreDrawn p nodes (lists_of p y) seed steps)
    → WhereTold b c (LeavesOthers (files_of p.sources))
    → WhereTold b c (HasRun trace p nodes seed text steps)
has_run trace p nodes seed text steps None None read is drawn others = tt
has_run trace p nodes seed text steps None (Some z) read is drawn others = read
has_run trace p nodes seed text steps (Some y) None read is drawn others = read
has_run trace p nodes seed text steps (Some y) (Some z) read is drawn others = (read, is, drawn, others)

pub is_simulated : (job plan : List ℕ) (seed : ℕ) (trace : Bool) (p : Program) (nodes : List Node) (text : List ℕ) (steps : DrawnSteps)
    (a b c : Option Contents) → IsAccepted p
    → WhereTold a b (IsReady (Simulate job plan seed trace) p) → WhereTold a b (HasNodes job plan p nodes) → WhereTold b c (AreSourcesRead p)
    → WhereTold b c (λ y _. IsTextOn trace p nodes (lists_of p y) seed text) → WhereTold b c (λ y _. AreDrawn p nodes (lists_of p y) seed steps)
    → WhereTold b c (LeavesOthers (files_of p.sources))
    → WhereTold a c (IsWritten (Simulate job plan seed trace) text (step_line steps))
is_simulated job plan seed trace p nodes text steps a b c accepted ready found read is drawn others =
    told_then (λ x y. IsReady (Simulate job plan seed trace) p x y × HasNodes job plan p nodes x y) (HasRun trace p nodes seed text steps)
    (IsWritten (Simulate job plan seed trace) text (step_line steps)) a b c
    (λ x y z first second. (
      p,
      read_at (Simulate job plan seed trace) p x y z refl (λ asked. accepted) (record { save = refl; resume = refl; rows = refl }) first.0 second.0
          (stays_ended (files_of p.sources) y z second.0.ends second.3)
          (no_trace_read (Simulate job plan seed trace) p x z refl),
      text_at job plan seed trace p nodes text x y first.0.texts.behind first.1 second.1,
      line_at job plan seed trace p nodes steps x y first.0 first.1 second.2,
    ))
    (told_both (IsReady (Simulate job plan seed trace) p) (HasNodes job plan p nodes) a b ready found)
    (has_run trace p nodes seed text steps b c read is drawn others)

-- ---- the case of a run from the empty state
pub case_from_nothing : (checked : Checked) (valid : ValidPlan) (s : Streams) (k : Content) → k.checked ≡ checked → k.valid ≡ valid → k.streams ≡ s
    → held k.opening ≡ nothing_held
    → setting_of k ≡ from_nothing (program_of checked) (plan_of valid).nodes (listed s)
case_from_nothing checked valid s k jobs plans lists opening =
    λ i. record { program = program_of (jobs i); nodes = (plan_of (plans i)).nodes; lists = listed (lists i); opening = opening i }
