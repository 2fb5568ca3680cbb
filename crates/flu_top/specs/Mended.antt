-- Sources whose defects are mended: what a run writes before it meets a defect, whatever is in place of it.
use Rattle.std.specs.Prelude.{◌≡◌, ℕ, List, ◌++◌, Option, Some, Ok}
use Rattle.flu_outside.specs.Outside.{Contents, WhereTold, Appends}
use Rattle.flu_model.specs.declared.jobs.Program.{Program}
use Rattle.flu_model.specs.Folding.{final_outputs}
use Rattle.flu_model.specs.Reports.{report}
use Rattle.flu_streams.specs.Good.{lists_of}
use Rattle.flu_rounds.specs.Written.{lists_above}
use Rattle.flu_words.specs.Words.{Run, RunOptions, command_in}
use Rattle.flu_command.specs.Mending.{AreMended}
use Rattle.flu_command.specs.Behind.{Named, HasJob, emptied_each}
use Rattle.flu_command.specs.Openings.{Opening}
use Rattle.flu_top.specs.Outcome.{Outside, Outcome}
use Rattle.flu_command.specs.Reading.{InRounds, HasDefect}
use Rattle.flu_command.specs.Starting.{StartsFrom, CanStart}
use Rattle.flu_command.specs.Wants.{texts_named}

-- what a run wrote whose sources have a defect is a prefix of the report of any sources that mend it, whatever the run's status: also of
-- those that end before the defect, so that it says nothing about what comes after one
abbrev pub RunsWriteFrontsOfMended : Type 0
RunsWriteFrontsOfMended =
    (words : List (List ℕ)) (old new : Outside) (status : ℕ) → Outcome words old new status
    → (job : List ℕ) (plan : Option (List ℕ)) (options : RunOptions) (left mended : Contents) (p : Program)
    → command_in words ≡ Ok (Run job plan options) → old.left ≡ Some left
    → HasJob (Named job) left p → CanStart (Run job plan options) left p
    → HasDefect InRounds (texts_named (Run job plan options)) left p
    → AreMended p (emptied_each (texts_named (Run job plan options)) left) mended
    → (q : Program) × HasJob (Named job) left q
    × ((o : Opening) × StartsFrom (Run job plan options) left q o
    × WhereTold old.out new.out (λ had has. (n : ℕ)
    × Appends n (report q (final_outputs q o.cells (lists_above q o.border (lists_of q mended)))) had has))
