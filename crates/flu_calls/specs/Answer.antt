-- The status of an answer, and what err got of it.
use Rattle.std.specs.Prelude.{ℕ, List, Option}
use Rattle.flu_lines.specs.declared.statuses.Status.{Status}
use Rattle.flu_lines.specs.Statuses.{code}
use Rattle.flu_lines.specs.Answer.{status_after, IsHeard}
use Rattle.flu_lines.specs.PartAnswer.{status_after_part, IsPartHeard}
use Rattle.flu_calls.specs.declared.answers.Answer.{Answer}
use Rattle.flu_calls.specs.declared.answers.Answer.TheVariants.{Command, Part}

-- the status of an answer, and its number
abbrev pub status_of_answer : Answer → Status
status_of_answer (Command ended) = status_after ended
status_of_answer (Part ended) = status_after_part ended

abbrev pub code_of_answer : Answer → ℕ
code_of_answer answer = code (status_of_answer answer)

-- what err got of an answer: nothing, the line of what a command says, or the line of a refusal
abbrev pub IsAnswerHeard : Answer → Option (List ℕ) → Option (List ℕ) → ℕ → ℕ → Type 0
IsAnswerHeard (Command ended) old new before now = IsHeard ended old new before now
IsAnswerHeard (Part ended) old new before now = IsPartHeard ended old new before now
