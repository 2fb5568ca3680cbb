-- The outcome of a call, by how the doing of its words ended and by what was said.
use Rattle.std.proofs.Common.{◌≡◌, ◌≢◌, refl, ap, ℕ, List, Option, Some, None, Result, Ok, Err, inl, inr}
use Rattle.flu_outside.specs.Outside.{SameCounts}
use Rattle.flu_lines.specs.declared.refusals.Refusal.{Refusal}
use Rattle.flu_lines.specs.declared.refusals.Refusal.TheVariants as refusals
use Rattle.flu_words.specs.Words.{Command, command_in}
use Rattle.flu_lines.specs.declared.products.Said.{Said}
use Rattle.flu_command.specs.Wants.{Saying, Nothing, Line, want}
use Rattle.flu_lines.specs.Products.{line_said}
use Rattle.flu_top.specs.Products.{MaySay}
use Rattle.flu_lines.specs.Jobs.{program_read}
use Rattle.flu_lines.specs.Lines.{IsSaid}
use Rattle.flu_lines.specs.Answer.{status_of, status_after, code_after, line_of, IsHeard}
use Rattle.flu_top.specs.Ending.{Call, IsStopped, IsEnding, IsRefused, Ends}
use Rattle.flu_top.specs.Outcome.{Outside, outside, Hears, Ended, Outcome, faults, FaultsFirst, HidesNothing}
use Rattle.flu_top.specs.Outcome as cases
use Rattle.flu_top.proofs.Endings.{said_of, read_fault_at, read_fault_of, write_fault_at, put_fault_at}

-- the outside before and behind a call, where err told and counted this
abbrev pub before : Call → Option (List ℕ) → ℕ → Outside
before c err count = outside c.left c.taken err count

abbrev pub behind : Call → Option (List ℕ) → ℕ → Outside
behind c err count = outside c.left_after c.taken_after err count

-- what is heard of a command that is done
hears : (says : Saying) (said : Option Said) (old new : Outside) → MaySay says said → IsHeard (Ok said) old.err new.err old.err_faults new.err_faults
    → Hears says old new (line_said said)
hears Nothing None old new may_say heard = heard
hears Nothing (Some said) old new may_say heard = absurd (cc)
hears (Line Is IsForm) None old new may_say heard = absurd may_say
hears (Line Is IsForm) (Some said) old new may_say heard = (may_say, heard)

pub outcome_of : (words : List (List ℕ)) (c : Call) (err err_after : Option (List ℕ)) (count count_after : ℕ) (ended : Result (Option Said) Refusal)
    → Ends words c ended → IsHeard ended err err_after count count_after
    → Outcome words (before c err count) (behind c err_after count_after) (code_after ended)
outcome_of words c err err_after count count_after ended ends heard = elim ends.how [
  | inl ending ↦ cases.OfCommand (status_after ended) refl ending.0 ending.1 (by_ended ending.0 ended ending.2 heard)
  | inr refused ↦ by_words refused.0 refused.1 refused.2
]
  where
    by_words : (at : ℕ) → command_in words ≡ Err at → IsRefused c at ended
        → Outcome words (before c err count) (behind c err_after count_after) (code_after ended)
    by_words at word refused =
        let line = said_of ended (refusals.BadWords (record { at = at })) err err_after count count_after heard refused.words in
        cases.OfNone (ap code_after refused.words) at word refused.files (record { nothing = refused.nothing; said = line })

    by_refusal : (command : Command) (refusal : Refusal) → IsStopped c command refusal → IsSaid (line_of refusal) err err_after count count_after
        → Ended command (before c err count) (behind c err_after count_after) (status_of refusal)
    by_refusal command (refusals.BadWords bad) stop line = absurd stop
    by_refusal command (refusals.JobFault fault text) stop line = (fault, stop.0, record { nothing = stop.1; said = line })
    by_refusal command (refusals.Conflict fault) stop line = (fault, stop.0, record { nothing = stop.1; said = line })
    by_refusal command (refusals.PlanDefect defect) stop line = (defect, stop.0, record { nothing = stop.1; said = line })
    by_refusal command (refusals.SourceFault job fault) stop line = (program_read job, fault, stop.text, stop.why, stop.wrote, line)
    by_refusal command refusals.ReadFault stop line = (stop.wrote, line)
    by_refusal command refusals.WriteFault stop line = (stop.partly, line)
    by_refusal command refusals.NoMemory stop line = (stop, line)
    by_refusal command (refusals.SaveDefect defect) stop line = (defect, stop.0, record { nothing = stop.1; said = line })
    by_refusal command refusals.PutFault stop line = (stop.wrote, line)
    by_refusal command (refusals.TraceFault fault) stop line = (fault, stop.0, record { nothing = stop.1; said = line })

    by_ended : (command : Command) (ended : Result (Option Said) Refusal) → IsEnding c command ended → IsHeard ended err err_after count count_after
        → Ended command (before c err count) (behind c err_after count_after) (status_after ended)
    by_ended command (Ok said) ending heard =
        (line_said said, ending.done, hears (want command).says said (before c err count) (behind c err_after count_after) ending.may_say heard)
    by_ended command (Err refusal) ending heard = by_refusal command refusal ending heard

pub faults_of : (words : List (List ℕ)) (c : Call) (ended : Result (Option Said) Refusal) → Ends words c ended
    → (ended ≢ Err refusals.ReadFault → SameCounts c.counts c.counts_after) → (ended ≢ Err refusals.WriteFault → c.count_after ≡ c.count)
    → (ended ≢ Err refusals.PutFault → SameCounts c.puts c.puts_after)
    → FaultsFirst words c.left (faults c.counts c.puts c.count) (faults c.counts_after c.puts_after c.count_after) (code_after ended)
faults_of words c ended ends takes out puts = record {
  read = λ is. read_fault_at words c ended ends is;
  write = λ is. write_fault_at words c ended ends is;
  put = λ is. put_fault_at words c ended ends is;
  same_takes = λ other. takes (λ is. other (ap code_after is));
  same_out = λ other. out (λ is. other (ap code_after is));
  same_puts = λ other. puts (λ is. other (ap code_after is));
}

pub hides_of : (words : List (List ℕ)) (c : Call) (ended : Result (Option Said) Refusal) → Ends words c ended
    → HidesNothing words c.left c.left_after (faults c.counts c.puts c.count) (faults c.counts_after c.puts_after c.count_after) (code_after ended)
hides_of words c ended ends = record { failed = λ is. read_fault_of words c ended ends is }
