-- The status and the line of each refusal of a part command.
use Rattle.std.specs.Prelude.{◌≡◌, ℕ, List, Option, Result, Ok, Err}
use Rattle.flu_deps.specs.Checking.{program_of}
use Rattle.flu_deps.specs.Validated.{plan_of}
use Rattle.flu_lines.specs.declared.parts.PartRefusal.{PartRefusal}
use Rattle.flu_lines.specs.declared.parts.PartRefusal.TheVariants as refusals
use Rattle.flu_lines.specs.declared.statuses.Status.{Status}
use Rattle.flu_lines.specs.declared.statuses.Status.TheVariants as statuses
use Rattle.flu_lines.specs.Statuses.{code}
use Rattle.flu_lines.specs.Answer.{status_of, line_of}
use Rattle.flu_lines.specs.Lines.{IsSaid}
use Rattle.flu_lines.specs.PartLines.{node_defect_line, file_defect_line}

abbrev pub status_of_part : PartRefusal → Status
status_of_part (refusals.Command refusal) = status_of refusal
status_of_part (refusals.Node checked valid name why) = statuses.PlanDefect
status_of_part (refusals.File checked valid name why) = statuses.PartialDefect

abbrev pub line_of_part : PartRefusal → List ℕ
line_of_part (refusals.Command refusal) = line_of refusal
line_of_part (refusals.Node checked valid name why) = node_defect_line (program_of checked) (plan_of valid).nodes name.now why
line_of_part (refusals.File checked valid name why) = file_defect_line (program_of checked) (plan_of valid).nodes name.now why

-- the status of a part command that was done or refused, and its number
abbrev pub status_after_part : Result (Unit {0}) PartRefusal → Status
status_after_part (Ok done) = statuses.Done
status_after_part (Err refusal) = status_of_part refusal

abbrev pub code_after_part : Result (Unit {0}) PartRefusal → ℕ
code_after_part ended = code (status_after_part ended)

-- what err got from a part command that was done or refused: nothing, or the line of the refusal
abbrev pub IsPartHeard : Result (Unit {0}) PartRefusal → Option (List ℕ) → Option (List ℕ) → ℕ → ℕ → Type 0
IsPartHeard (Ok done) old new before now = new ≡ old
IsPartHeard (Err refusal) old new before now = IsSaid (line_of_part refusal) old new before now
