-- The outcome of a call, by how the doing of its words ended and by what was said.
use Rattle.std.proofs.Common.{◌≡◌, ◌≢◌, refl, ap, subst, ℕ, List, Option, Some, None, Result, Ok, Err, inl, inr, arith}
use Rattle.std.specs.Prelude.{IfSome, option_map}
use Rattle.flu_model.specs.Modes.{IsAccepted}
use Rattle.flu_model.specs.Validity.{IsValid}
use Rattle.flu_lemmas.proofs.Told.{told_weaker}
use Rattle.flu_outside.specs.Outside.{Contents, WhereTold, Rose, SameCounts}
use Rattle.flu_deps.specs.Checking.{program_of}
use Rattle.flu_deps.specs.Validated.{plan_of}
use Rattle.flu_model.specs.declared.jobs.Program.{Program}
use Rattle.flu_model.specs.declared.plans.Node.{Node}
use Rattle.flu_lines.specs.Jobs.{program_read}
use Rattle.flu_lines.specs.Lines.{IsSaid}
use Rattle.flu_lines.specs.Answer.{line_of, status_of}
use Rattle.flu_lines.specs.PartAnswer.{status_after_part, code_after_part, IsPartHeard}
use Rattle.flu_lines.specs.declared.refusals.Refusal.{Refusal}
use Rattle.flu_lines.specs.declared.refusals.Refusal.TheVariants as refusals
use Rattle.flu_lines.specs.declared.parts.PartRefusal.{PartRefusal}
use Rattle.flu_lines.specs.declared.parts.PartRefusal.TheVariants as parts
use Rattle.flu_words.specs.Parts.{PartCommand, Partial, Combine, part_in}
use Rattle.flu_command.specs.Outside.{Outside, outside, faults}
use Rattle.flu_command.specs.Taking.{TookOnly}
use Rattle.flu_command.specs.ReadFaults.{HasReadFault, InJob, InPlan, InCheckpoint, InSources, InRows, InTrace}
use Rattle.flu_command.specs.Done.{IsReadName}
use Rattle.flu_top.specs.Ending.{Call}
use Rattle.flu_parts.specs.Planned.{texts_of, behind, IsPlanned}
use Rattle.flu_parts.specs.Causes.{IsReadFaultBehind, HasFailedRead, InTexts, Behind}
use Rattle.flu_parts.specs.ReadNames.{IsReadPart, IsReadByPart}
use Rattle.flu_parts.specs.Ending.{IsStopped, IsEnding, IsRefused, Ends}
use Rattle.flu_parts.specs.Outcome.{Ended, PartOutcome, PartFaultsFirst, PartHidesNothing, Plan, OfNode}
use Rattle.flu_parts.specs.Outcome as cases

-- the outside before and behind a call, where err told and counted this
abbrev pub before : Call → Option (List ℕ) → ℕ → Outside
before c err count = outside c.left c.taken err count

abbrev pub after : Call → Option (List ℕ) → ℕ → Outside
after c err count = outside c.left_after c.taken_after err count

pub outcome_of : (words : List (List ℕ)) (c : Call) (err err_after : Option (List ℕ)) (count count_after : ℕ) (ended : Result (Unit {0}) PartRefusal)
    → Ends words c ended → IsPartHeard ended err err_after count count_after
    → PartOutcome words (before c err count) (after c err_after count_after) (code_after_part ended)
outcome_of words c err err_after count count_after ended ends heard = elim ends.how [
  | inl ending ↦ cases.OfCommand (status_after_part ended) refl ending.0 ending.1 (by_ended ending.0 ended ending.2 heard)
  | inr refused ↦ by_words refused.0 refused.1 refused.2
]
  where
    by_words : (at : ℕ) → part_in words ≡ Err at → IsRefused c at ended
        → PartOutcome words (before c err count) (after c err_after count_after) (code_after_part ended)
    by_words at word refused =
        cases.OfNone (ap code_after_part refused.words) at word refused.files (record {
          nothing = refused.nothing;
          said = subst (λ (r : Result (Unit {0}) PartRefusal). IsPartHeard r err err_after count count_after) refused.words heard;
        })

    by_refusal : (command : PartCommand) (refusal : Refusal) → IsStopped c command refusal → IsSaid (line_of refusal) err err_after count count_after
        → Ended command (before c err count) (after c err_after count_after) (status_of refusal)
    by_refusal command (refusals.BadWords bad) stop line = absurd stop
    by_refusal command (refusals.JobFault fault text) stop line = (fault, stop.0, record { nothing = stop.1; said = line })
    by_refusal command (refusals.Conflict fault) stop line = (fault, stop.0, record { nothing = stop.1; said = line })
    by_refusal command (refusals.PlanDefect defect) stop line = Plan defect stop.0 (record { nothing = stop.1; said = line })
    by_refusal command (refusals.SourceFault job fault) stop line = (program_read job, fault, stop.0, record { nothing = stop.1; said = line })
    by_refusal command refusals.ReadFault stop line = record { nothing = stop.1; said = line }
    by_refusal command refusals.WriteFault stop line = (stop.0, stop.1, stop.2, line)
    by_refusal command refusals.NoMemory stop line = record { nothing = stop; said = line }
    by_refusal command (refusals.SaveDefect defect) stop line = absurd stop
    by_refusal command refusals.PutFault stop line = absurd stop
    by_refusal command (refusals.TraceFault fault) stop line = absurd stop

    by_ended : (command : PartCommand) (ended : Result (Unit {0}) PartRefusal) → IsEnding c command ended → IsPartHeard ended err err_after count count_after
        → Ended command (before c err count) (after c err_after count_after) (status_after_part ended)
    by_ended command (Ok done) ending heard = (ending.0, ending.1, ending.2, heard)
    by_ended command (Err (parts.Command refusal)) ending heard = by_refusal command refusal ending heard
    by_ended command (Err (parts.Node checked valid name why)) ending heard =
        OfNode (program_of checked) (plan_of valid).nodes name.now why ending.0 (record { nothing = ending.1; said = heard })
    by_ended command (Err (parts.File checked valid name why)) ending heard =
        (program_of checked, (plan_of valid).nodes, name.now, why, ending.0, record { nothing = ending.1; said = heard })

-- ---- which ending has a status
of_read_fault : (ended : Result (Unit {0}) PartRefusal) → code_after_part ended ≡ 7 → ended ≡ Err (parts.Command refusals.ReadFault)
of_read_fault (Err (parts.Command refusals.ReadFault)) is = refl
of_read_fault ended is = absurd (omega arith)

of_write_fault : (ended : Result (Unit {0}) PartRefusal) → code_after_part ended ≡ 8 → ended ≡ Err (parts.Command refusals.WriteFault)
of_write_fault (Err (parts.Command refusals.WriteFault)) is = refl
of_write_fault ended is = absurd (omega arith)

-- the ending of a call whose status is not that of bad words
ending_at : (words : List (List ℕ)) (c : Call) (ended : Result (Unit {0}) PartRefusal) → Ends words c ended → code_after_part ended ≢ 2
    → (command : PartCommand) × (part_in words ≡ Ok command) × IsEnding c command ended
ending_at words c ended ends apart = elim ends.how [ inl ending ↦ ending | inr refused ↦ absurd (apart (ap code_after_part refused.2.words)) ]

read_fault_of : (words : List (List ℕ)) (c : Call) (ended : Result (Unit {0}) PartRefusal) → Ends words c ended → code_after_part ended ≡ 7
    → (command : PartCommand) × (part_in words ≡ Ok command) × HasFailedRead command c.left c.left_after c.counts c.counts_after
read_fault_of words c ended ends is =
    let ending = ending_at words c ended ends (λ e. omega arith) in
    (ending.0, ending.1, (subst (IsEnding c ending.0) (of_read_fault ended is) ending.2).0)

-- ---- the name that failed is one that the command reads
failed_text : (command : PartCommand) (old new : Option Contents) (k l : List ℕ → ℕ) → HasReadFault (texts_of command) old new k l
    → (name : List ℕ) × IsReadName old (texts_of command) name × Rose (k name) (l name)
failed_text command old new k l (InJob name named rose few) = (name, inl named, rose)
failed_text command old new k l (InPlan name plan rose few) = (name, inr (inl plan), rose)
failed_text command old new k l (InCheckpoint name checkpoint rose few) = (name, inr (inr (inl checkpoint)), rose)
failed_text command old new k l (InSources name file whole rose hides) = (name, inr (inr (inr (inl file))), rose)
failed_text command old new k l (InRows name file rounds rose hides) = (name, inr (inr (inr (inl file))), rose)
failed_text command old new k l (InTrace name trace rose) = (name, inr (inr (inr (inr trace))), rose)

failed_behind : (command : PartCommand) (p : Program) (nodes : List Node) (old new : Option Contents) (k l : List ℕ → ℕ) → IsAccepted p → IsValid p nodes
    → WhereTold old new (λ left now. IsPlanned command left p nodes)
    → IsReadFaultBehind command p nodes (option_map (behind command) old) new k l → (name : List ℕ) × IsReadPart old command name × Rose (k name) (l name)
failed_behind (Partial job plan node) p nodes None new k l accepted valid planned (w, apart, one, read, hides) = (
  one.0,
  inr (record {
    p = p;
    nodes = nodes;
    may = record { accepted = accepted; valid = valid; planned = tt };
    named = inr (one.1, (w, apart, tt));
  }),
  one.2,
)
failed_behind (Partial job plan node) p nodes (Some x) None k l accepted valid planned found = absurd planned
failed_behind (Partial job plan node) p nodes (Some x) (Some z) k l accepted valid planned (w, apart, one, read, hides) =
    let found = read refl in (
      found.0,
      inr (record {
        p = p;
        nodes = nodes;
        may = record { accepted = accepted; valid = valid; planned = planned };
        named = inr (found.1.0, (w, apart, found.1));
      }),
      found.2,
    )
failed_behind (Combine job plan partials) p nodes old new k l accepted valid planned (none, inl one, hides) = (
  one.0,
  inr (record {
    p = p;
    nodes = nodes;
    may = record { accepted = accepted; valid = valid; planned = may_planned old new planned };
    named = inl (none, one.1);
  }),
  one.2,
)
  where
    may_planned : (old new : Option Contents) → WhereTold old new (λ left now. IsPlanned (Combine job plan partials) left p nodes)
        → IfSome old (λ contents. IsPlanned (Combine job plan partials) contents p nodes)
    may_planned None new planned = tt
    may_planned (Some x) None planned = absurd planned
    may_planned (Some x) (Some z) planned = planned
failed_behind (Combine job plan partials) p nodes None new k l accepted valid planned (none, inr source, hides) =
    let one = source.0 in
    (one.0, inr (record { p = p; nodes = nodes; may = record { accepted = accepted; valid = valid; planned = tt }; named = inr (one.1, none, tt) }), one.2)
failed_behind (Combine job plan partials) p nodes (Some x) None k l accepted valid planned (none, inr source, hides) = absurd planned
failed_behind (Combine job plan partials) p nodes (Some x) (Some z) k l accepted valid planned (none, inr source, hides) =
    let found = source.1 in (
      found.rose.0,
      inr (record {
        p = p;
        nodes = nodes;
        may = record { accepted = accepted; valid = valid; planned = planned };
        named = inr (found.rose.1.0, none, (found.ws, found.queues, found.told, found.accepted, found.rose.1));
      }),
      found.rose.2,
    )

name_that_failed : (command : PartCommand) (old new : Option Contents) (k l : List ℕ → ℕ) → HasFailedRead command old new k l
    → (name : List ℕ) × IsReadPart old command name × Rose (k name) (l name)
name_that_failed command old new k l (InTexts fault) =
    let found = failed_text command old new k l fault in (found.0, inl found.1, found.2)
name_that_failed command old new k l (Behind p nodes accepted valid planned fault) = failed_behind command p nodes old new k l accepted valid planned fault

pub faults_of : (words : List (List ℕ)) (c : Call) (ended : Result (Unit {0}) PartRefusal) → Ends words c ended
    → (ended ≢ Err (parts.Command refusals.ReadFault) → SameCounts c.counts c.counts_after)
    → (ended ≢ Err (parts.Command refusals.WriteFault) → c.count_after ≡ c.count) → SameCounts c.puts c.puts_after
    → PartFaultsFirst words c.left (faults c.counts c.puts c.count) (faults c.counts_after c.puts_after c.count_after) (code_after_part ended)
faults_of words c ended ends takes out puts = record {
  read = λ is. read_fault_at is;
  write = λ is. write_fault_at is;
  same_takes = λ other. takes (λ is. other (ap code_after_part is));
  same_out = λ other. out (λ is. other (ap code_after_part is));
  same_puts = puts;
}
  where
    read_fault_at : code_after_part ended ≡ 7 → (name : List ℕ) × IsReadByPart words c.left name × Rose (c.counts name) (c.counts_after name)
    read_fault_at is =
        let fault = read_fault_of words c ended ends is in
        let found = name_that_failed fault.0 c.left c.left_after c.counts c.counts_after fault.2 in
        (found.0, (fault.0, fault.1, found.1), found.2)

    write_fault_at : code_after_part ended ≡ 8 → Rose c.count c.count_after
    write_fault_at is =
        let ending = ending_at words c ended ends (λ e. omega arith) in
        (subst (IsEnding c ending.0) (of_write_fault ended is) ending.2).3

pub hides_of : (words : List (List ℕ)) (c : Call) (ended : Result (Unit {0}) PartRefusal) → Ends words c ended
    → PartHidesNothing words c.left c.left_after (faults c.counts c.puts c.count) (faults c.counts_after c.puts_after c.count_after) (code_after_part ended)
hides_of words c ended ends = record { failed = λ is. read_fault_of words c ended ends is }

-- ---- the words
pub ends_command : (words : List (List ℕ)) (c : Call) (command : PartCommand) (ended : Result (Unit {0}) PartRefusal) → part_in words ≡ Ok command
    → IsEnding c command ended → Ends words c ended
ends_command words c command ended word ending = record { how = inl (command, word, ending) }

pub only_wider : (words : List (List ℕ)) (command : PartCommand) (a b : Option Contents) → part_in words ≡ Ok command
    → WhereTold a b (TookOnly (IsReadPart a command)) → WhereTold a b (TookOnly (IsReadByPart words a))
only_wider words command a b is only =
    told_weaker (TookOnly (IsReadPart a command)) (TookOnly (IsReadByPart words a)) a b
    (λ x y took name unread. took name (λ read. unread (command, is, read))) only
