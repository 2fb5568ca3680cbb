-- The laws of outcomes.
use Rattle.std.proofs.Common.{refl, ℕ, List, ◌⊎◌, inl, inr}
use Rattle.flu_lemmas.proofs.Told.{told_weaker}
use Rattle.flu_outside.specs.Taking.{TookFronts}
use Rattle.flu_lines.specs.declared.statuses.Status.TheVariants as statuses
use Rattle.flu_command.specs.Taking.{TookOnly, TookFrontsBut}
use Rattle.flu_command.specs.Done.{IsReadBy, IsSavedBy, MayBePut}
use Rattle.flu_command.specs.Calling as calls
use Rattle.flu_top.specs.Laws.{KnownStatuses, DoneIsDone, DoneIsQuiet, SimulationIsHeard, AdaptedPlanIsHeard, BadWordsExactly, BadWordsLine}
use Rattle.flu_top.specs.Laws.{BadWordsTouchNothing, JobFaultIsFirst, ConflictIsFirst, PlanDefectIsFirst, SaveDefectIsFirst, SourceFaultIsFirst}
use Rattle.flu_top.specs.Laws.{TraceFaultIsFirst, ReadFaultRose, ReadFaultLine, WriteFaultRose, WriteFaultIsPart, WriteFaultLine, PutFaultRose}
use Rattle.flu_top.specs.Laws.{PutFaultIsBehindARound, NoMemoryLine, NothingIsWritten, RefusalsWriteNothing, SomeIsWritten, SomeIsWrittenForMemory}
use Rattle.flu_top.specs.Laws.{FrontsAreTaken, NoOtherIsRead, GoodIsDone, JobFaultIsRefused, ConflictIsRefused, PlanDefectIsRefused, SaveDefectIsRefused}
use Rattle.flu_top.specs.Laws.{SourceFaultIsRefused, TraceFaultIsRefused, CompletesByFaults, NoFailureIsPassedOver}
use Rattle.flu_top.proofs.Statuses.{command_at, no_command_at, quiet_at_0, heard_at_0, adapted_at_0}
use Rattle.flu_top.proofs.Statuses.{known_status, nothing_written, refused_unwritten, of_no_command, bad_words_exactly}
use Rattle.flu_top.proofs.Completeness.{LawsOfCalls, completes_of}

-- ---- the statuses
pub known_law : KnownStatuses
known_law words old new status outcome = known_status words old new status outcome

pub nothing_law : NothingIsWritten
nothing_law words old new status outcome some other apart = nothing_written words old new status outcome some other apart

pub unwritten_law : RefusalsWriteNothing
unwritten_law words old new status outcome some low = refused_unwritten words old new status outcome some low

pub some_law : SomeIsWritten
some_law words old new status outcome is =
    let found = command_at words old new status outcome statuses.ReadFault is (λ e. cc) in (found.0, found.1, found.2.0)

pub memory_law : SomeIsWrittenForMemory
memory_law words old new status outcome is =
    let found = command_at words old new status outcome statuses.NoMemory is (λ e. cc) in (found.0, found.1, found.2.0)

pub done_law : DoneIsDone
done_law words old new status outcome is =
    let found = command_at words old new status outcome statuses.Done is (λ e. cc) in (found.0, found.2.0, found.1, found.2.1, found.2.2)

pub quiet_law : DoneIsQuiet
quiet_law words old new status outcome is command word nothing = quiet_at_0 words old new status outcome is command word nothing

pub simulation_law : SimulationIsHeard
simulation_law words old new status outcome is job plan seed trace word = heard_at_0 words old new status outcome is job plan seed trace word

pub adapted_law : AdaptedPlanIsHeard
adapted_law words old new status outcome is job plan depth save unflushed resume word =
    adapted_at_0 words old new status outcome is job plan depth save unflushed resume word

pub bad_words_law : BadWordsExactly
bad_words_law words old new status outcome = bad_words_exactly words old new status outcome

pub bad_words_line_law : BadWordsLine
bad_words_line_law words old new status outcome at bad = (of_no_command words old new status outcome at bad).1

pub untouched_law : BadWordsTouchNothing
untouched_law words old new status outcome is = (no_command_at words old new status outcome is).2

pub job_fault_law : JobFaultIsFirst
job_fault_law words old new status outcome is =
    let found = command_at words old new status outcome statuses.JobFault is (λ e. cc) in (found.0, found.2.0, found.1, found.2.1, found.2.2.said)

pub conflict_law : ConflictIsFirst
conflict_law words old new status outcome is =
    let found = command_at words old new status outcome statuses.Conflict is (λ e. cc) in (found.0, found.2.0, found.1, found.2.1, found.2.2.said)

pub plan_defect_law : PlanDefectIsFirst
plan_defect_law words old new status outcome is =
    let found = command_at words old new status outcome statuses.PlanDefect is (λ e. cc) in (found.0, found.2.0, found.1, found.2.1, found.2.2.said)

pub save_defect_law : SaveDefectIsFirst
save_defect_law words old new status outcome is =
    let found = command_at words old new status outcome statuses.SaveDefect is (λ e. cc) in (found.0, found.2.0, found.1, found.2.1, found.2.2.said)

pub source_fault_law : SourceFaultIsFirst
source_fault_law words old new status outcome is =
    let found = command_at words old new status outcome statuses.SourceFault is (λ e. cc) in (found.0, found.2.0, found.2.1, found.2.2, found.1, found.2.3, found.2.4, found.2.5)

pub trace_fault_law : TraceFaultIsFirst
trace_fault_law words old new status outcome is =
    let found = command_at words old new status outcome statuses.TraceFault is (λ e. cc) in (found.0, found.2.0, found.1, found.2.1, found.2.2.said)

pub read_fault_law : ReadFaultRose
read_fault_law words left before now status faults is = faults.read is

pub read_fault_line_law : ReadFaultLine
read_fault_line_law words old new status outcome is =
    let found = command_at words old new status outcome statuses.ReadFault is (λ e. cc) in found.2.1

pub write_fault_law : WriteFaultRose
write_fault_law words left before now status faults is = faults.write is

pub partial_law : WriteFaultIsPart
partial_law words old new status outcome is =
    let found = command_at words old new status outcome statuses.WriteFault is (λ e. cc) in (found.0, found.1, found.2.0)

pub write_fault_line_law : WriteFaultLine
write_fault_line_law words old new status outcome is =
    let found = command_at words old new status outcome statuses.WriteFault is (λ e. cc) in found.2.1

pub put_fault_law : PutFaultRose
put_fault_law words left before now status faults is = faults.put is

pub not_passed_over_law : NoFailureIsPassedOver
not_passed_over_law words left before now status faults = (faults.same_takes, faults.same_out, faults.same_puts)

pub put_fault_round_law : PutFaultIsBehindARound
put_fault_round_law words old new status outcome is =
    let found = command_at words old new status outcome statuses.PutFault is (λ e. cc) in (found.0, found.1, found.2.0, found.2.1)

pub no_memory_line_law : NoMemoryLine
no_memory_line_law words old new status outcome is =
    let found = command_at words old new status outcome statuses.NoMemory is (λ e. cc) in found.2.1

-- ---- what was read
pub fronts_law : FrontsAreTaken
fronts_law words old new status read none =
    told_weaker (TookFrontsBut (MayBePut words status)) TookFronts old new (λ x y took name rest is. took name rest (none name) is) read.fronts

pub only_law : NoOtherIsRead
only_law words old new status read =
    told_weaker (TookOnly (λ name. IsReadBy words old name ⊎ MayBePut words status name))
    (TookOnly (λ name. IsReadBy words old name ⊎ IsSavedBy words name)) old new
    (λ x y took name other. took name (λ either. other (saved_if_put name either))) read.only
  where
    saved_if_put : (name : List ℕ) → IsReadBy words old name ⊎ MayBePut words status name → IsReadBy words old name ⊎ IsSavedBy words name
    saved_if_put name (inl took) = inl took
    saved_if_put name (inr put) = inr (put.0, put.1, put.2.0)

-- ---- where nothing failed
pub good_law : GoodIsDone
good_law words told before now status complete command left p word is nothing good only = complete command left 0 word is nothing (calls.Good refl p good only)

pub refused_job_law : JobFaultIsRefused
refused_job_law words told before now status complete command left name fault word is nothing named bad =
    complete command left 3 word is nothing (calls.FaultyJob refl name fault named bad)

pub refused_conflict_law : ConflictIsRefused
refused_conflict_law words told before now status complete command left p word is nothing asked has refused =
    complete command left 4 word is nothing (calls.NotAccepted refl p asked has refused)

pub refused_plan_law : PlanDefectIsRefused
refused_plan_law words told before now status complete command left p plan word is nothing named has accepted bad =
    complete command left 5 word is nothing (calls.NoValidPlan refl p plan named has accepted bad)

pub refused_source_law : SourceFaultIsRefused
refused_source_law words told before now status complete command left p word is nothing has accepted valid start bad =
    complete command left 6 word is nothing (calls.FaultySource refl p has accepted valid start bad)

pub refused_start_law : SaveDefectIsRefused
refused_start_law words told before now status complete command left p word is nothing has accepted valid bad =
    complete command left 11 word is nothing (calls.FaultyStart refl p has accepted valid bad)

pub refused_trace_law : TraceFaultIsRefused
refused_trace_law words told before now status complete command left word is nothing faulty =
    complete command left 13 word is nothing (calls.FaultyTrace refl faulty)

pub completes_law : LawsOfCalls → CompletesByFaults
completes_law laws words old new status before now outcome faults = completes_of laws words old new before now status outcome faults
