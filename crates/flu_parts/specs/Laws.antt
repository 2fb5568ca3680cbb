-- What a part command that was done has written, and what combining the texts of others gives.
use Rattle.std.specs.Prelude.{◌≡◌, ℕ, List, [], ◌++◌, Ok, Some}
use Rattle.std.specs.List.{AllByRecursion}
use Rattle.flu_outside.specs.Outside.{Contents, WhereTold}
use Rattle.flu_outside.specs.Taking.{bytes_left}
use Rattle.flu_outside.specs.Writing.{AppendsAll}
use Rattle.flu_model.specs.declared.jobs.Program.{Program}
use Rattle.flu_model.specs.declared.plans.Node.{Node}
use Rattle.flu_model.specs.Contents.{nothing_held}
use Rattle.flu_model.specs.Folding.{final_outputs}
use Rattle.flu_model.specs.Reports.{report}
use Rattle.flu_streams.specs.Good.{lists_of}
use Rattle.flu_selected.specs.Gathering.{IsRead}
use Rattle.flu_readers.specs.Reading.{reads, reads_rest}
use Rattle.flu_combine.specs.Combined.{IsReadBeside}
use Rattle.flu_combine.specs.Names.{read_out}
use Rattle.flu_words.specs.Parts.{PartCommand, Partial, Combine, part_in}
use Rattle.flu_command.specs.Behind.{Named, plan_behind}
use Rattle.flu_command.specs.Outside.{Outside}
use Rattle.flu_parts.specs.Outcome.{PartOutcome}
use Rattle.flu_parts.specs.Planned.{behind, IsPlanned, IsNodeApart}
use Rattle.flu_parts.specs.Written.{IsWritten}

-- WHAT ONE PROCESS DID: `partial` of some node, over files of its own in which the job and the plan have these bytes, wrote this text; and of the sources
-- that the node reads it had what the whole has
pub record IsMadeOf (whole : Contents) (job plan text : List ℕ) : Type 0 where
  pub job_name : List ℕ
  pub plan_name : List ℕ
  pub node : List ℕ
  pub left : Contents
  pub now : Contents
  pub wrote : IsWritten (Partial job_name plan_name node) text left now
  pub same_job : bytes_left left job_name ≡ job
  pub same_plan : plan_behind (Named job_name) plan_name left ≡ plan
  pub same_sources : (name : List ℕ) → IsRead wrote.p (reads wrote.p wrote.nodes wrote.is.0) name
      → behind (Partial job_name plan_name node) left name ≡ whole name

-- PARTIALS COMBINED ARE THE FOLD: where each file that `combine` reads has what such a process wrote, for the same job and plan, and of the sources that
-- `combine` reads it has what the whole has, it writes the report of the fold of all sources as the whole has them
abbrev pub PartialsCombinedAreTheFold : Type 0
PartialsCombinedAreTheFold =
    (whole left now : Contents) (job plan : List ℕ) (partials : List (List ℕ)) (text : List ℕ) → (wrote : IsWritten (Combine job plan partials) text left now)
    → AllByRecursion
    (λ name. IsMadeOf whole (bytes_left left job) (plan_behind (Named job) plan left) (bytes_left (behind (Combine job plan partials) left) name)) partials
    → ((name : List ℕ) → IsRead wrote.p (reads_rest wrote.p wrote.nodes wrote.is.1.ws) name
    → read_out partials (behind (Combine job plan partials) left) name ≡ whole name)
    → text ≡ report wrote.p (final_outputs wrote.p nothing_held (lists_of wrote.p whole))

-- WHAT IS DONE IS WRITTEN: a call with the words of a part command that has the status 0 wrote what the command writes, where it is known what the files
-- held and hold, and out got all of it
abbrev pub PartDoneIsWritten : Type 0
PartDoneIsWritten =
    (words : List (List ℕ)) (command : PartCommand) (old new : Outside) (left now : Contents) → part_in words ≡ Ok command
    → old.left ≡ Some left → new.left ≡ Some now → PartOutcome words old new 0
    → (text : List ℕ) × IsWritten command text left now × WhereTold old.out new.out (AppendsAll text)

-- ---- calls

-- WHAT ONE CALL DID: a call of `partial` with status 0, over files of its own in which the job and the plan have these bytes, gave this text to an empty
-- out; and of the sources that its node reads it had what the whole has
pub record IsMadeByCall (whole : Contents) (job plan text : List ℕ) : Type 0 where
  pub words : List (List ℕ)
  pub job_name : List ℕ
  pub plan_name : List ℕ
  pub node : List ℕ
  pub old : Outside
  pub new : Outside
  pub left : Contents
  pub now : Contents
  pub named : part_in words ≡ Ok (Partial job_name plan_name node)
  pub was : old.left ≡ Some left
  pub then : new.left ≡ Some now
  pub done : PartOutcome words old new 0
  pub empty : old.out ≡ Some []
  pub given : new.out ≡ Some text
  pub same_job : bytes_left left job_name ≡ job
  pub same_plan : plan_behind (Named job_name) plan_name left ≡ plan
  pub same_sources : (p : Program) (nodes : List Node) (w : ℕ) (name : List ℕ) → IsPlanned (Partial job_name plan_name node) left p nodes
      → IsNodeApart p nodes node w → IsRead p (reads p nodes w) name → behind (Partial job_name plan_name node) left name ≡ whole name

-- CALLS GIVE THE FOLD: where each file that a call of `combine` reads has what such a call gave, for the same job and plan, and of the sources that it
-- reads beside them it has what the whole has, a call with status 0 has given out the report of the fold of all sources as the whole has them
abbrev pub CallsGiveTheFold : Type 0
CallsGiveTheFold =
    (words : List (List ℕ)) (old new : Outside) (whole left now : Contents) (got job plan : List ℕ) (partials : List (List ℕ))
    → part_in words ≡ Ok (Combine job plan partials) → old.left ≡ Some left → new.left ≡ Some now → old.out ≡ Some got → PartOutcome words old new 0
    → AllByRecursion
    (λ name. IsMadeByCall whole (bytes_left left job) (plan_behind (Named job) plan left) (bytes_left (behind (Combine job plan partials) left) name)) partials
    → ((p : Program) (nodes : List Node) (name : List ℕ) → IsPlanned (Combine job plan partials) left p nodes
    → IsReadBeside p nodes partials (behind (Combine job plan partials) left) name
    → read_out partials (behind (Combine job plan partials) left) name ≡ whole name)
    → (p : Program) (nodes : List Node) → IsPlanned (Combine job plan partials) left p nodes
    → new.out ≡ Some (got ++ report p (final_outputs p nothing_held (lists_of p whole)))
