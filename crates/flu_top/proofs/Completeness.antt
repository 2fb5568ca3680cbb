-- Where nothing failed, a call's status is the one that the command and its files call for, or that of want of memory.
use Rattle.std.proofs.Common.{◌≡◌, ◌≢◌, ◌∙◌, refl, subst, ℕ, Option, Some, Ok, inl, inr, ◌⊎◌}
use Rattle.std.specs.Prelude.{List}
use Rattle.flu_outside.specs.Outside.{Contents}
use Rattle.flu_lemmas.proofs.Told.{of_told}
use Rattle.flu_words.specs.Words.{Command, command_in}
use Rattle.flu_lines.specs.declared.statuses.Status.{Status}
use Rattle.flu_lines.specs.declared.statuses.Status.TheVariants as statuses
use Rattle.flu_lines.specs.Statuses.{code}
use Rattle.flu_command.specs.Behind.{WantedJob, Named, Fixed}
use Rattle.flu_command.specs.Calling.{CallsFor, CallsForOneStatus, DoneIsCalledFor, JobFaultIsCalledFor, ConflictIsCalledFor, PlanDefectIsCalledFor}
use Rattle.flu_command.specs.Calling.{SaveDefectIsCalledFor, SourceFaultIsCalledFor, TraceFaultIsCalledFor}
use Rattle.flu_command.specs.Done.{IsDone, WhereKnown, IsReadName}
use Rattle.flu_command.specs.Wants.{job_wanted, save_named}
use Rattle.flu_top.specs.Outcome.{Outside, Ended, Outcome, Faults, FaultsFirst, NothingFailed, Completes}
use Rattle.flu_top.proofs.OneCommand.{same_command}
use Rattle.flu_top.proofs.Statuses.{ended_with}

-- what ends a command is what its files call for, and they call for one status
pub record LawsOfCalls : Type 0 where
  pub one : CallsForOneStatus
  pub done : DoneIsCalledFor
  pub job_fault : JobFaultIsCalledFor
  pub conflict : ConflictIsCalledFor
  pub plan_defect : PlanDefectIsCalledFor
  pub save_defect : SaveDefectIsCalledFor
  pub source_fault : SourceFaultIsCalledFor
  pub trace_fault : TraceFaultIsCalledFor

-- what is known of the files is true of what they hold where they tell it
pub known_at : (job : WantedJob) (P : Contents → Contents → Type 0) (x : Contents) (a b : Option Contents) → a ≡ Some x → WhereKnown job a b P
    → (y : Contents) × P x y
known_at (Named name) P x a b told known = of_told P x a b told known
known_at (Fixed job) P x a b told known = (x, known x)

module _ (laws : LawsOfCalls) (command : Command) (left : Contents) (old new : Outside) (told : old.left ≡ Some left) where
  by_ended : (status : Status) → Ended command old new status → (code status ≢ 7) × (code status ≢ 8) × (code status ≢ 12)
      → CallsFor command left (code status) ⊎ (code status ≡ 9)
  by_ended statuses.Done ended apart =
      let found = known_at (job_wanted command) (IsDone command old.out new.out ended.0) left old.left new.left told ended.1 in
      inl (laws.done command left found.0 old.out new.out ended.0 found.1)
  by_ended statuses.BadWords ended apart = absurd ended
  by_ended statuses.JobFault ended apart = inl (laws.job_fault command left old.left new.left ended.0 told ended.1)
  by_ended statuses.Conflict ended apart = inl (laws.conflict command left old.left new.left ended.0 told ended.1)
  by_ended statuses.PlanDefect ended apart = inl (laws.plan_defect command left old.left new.left ended.0 told ended.1)
  by_ended statuses.SourceFault ended apart = inl (laws.source_fault command left old.left new.left ended.0 ended.1 ended.2 told ended.3)
  by_ended statuses.ReadFault ended apart = absurd (apart.0 refl)
  by_ended statuses.WriteFault ended apart = absurd (apart.1 refl)
  by_ended statuses.NoMemory ended apart = inr refl
  by_ended statuses.SaveDefect ended apart = inl (laws.save_defect command left old.left new.left ended.0 told ended.1)
  by_ended statuses.PutFault ended apart = absurd (apart.2 refl)
  by_ended statuses.TraceFault ended apart = inl (laws.trace_fault command left old.left new.left ended.0 told ended.1)
  by_ended statuses.PartialDefect ended apart = absurd ended

-- where nothing failed, no status of a failure comes
unfailed : (words : List (List ℕ)) (told : Option Contents) (before now : Faults) (status : ℕ) (command : Command) → FaultsFirst words told before now status
    → command_in words ≡ Ok command → NothingFailed command told before now → (status ≢ 7) × (status ≢ 8) × (status ≢ 12)
unfailed words told before now status command faults word nothing = (
  λ is. let rose = faults.read is in
      nothing.files rose.0 (subst (λ (d : Command). IsReadName told d rose.0) (same_command words rose.1.0 command rose.1.1 word) rose.1.2) rose.2,
  λ is. nothing.out (faults.write is),
  λ is. let rose = faults.put is in
      nothing.saves rose.0 (subst (λ (d : Command). save_named d ≡ Some rose.0) (same_command words rose.1.0 command rose.1.1 word) rose.1.2) rose.2,
)

-- completeness follows from the outcome, where a fault of the outside comes first
pub completes_of : LawsOfCalls → (words : List (List ℕ)) (old new : Outside) (before now : Faults) (status : ℕ) → Outcome words old new status
    → FaultsFirst words old.left before now status → Completes words old.left before now status
completes_of laws words old new before now status outcome faults command left wanted word told nothing called =
    let found = ended_with words old new status outcome command word in
    let apart = unfailed words old.left before now status command faults word nothing in
    elim (by_ended laws command left old new told found.0 found.2 (subst (λ n. (n ≢ 7) × (n ≢ 8) × (n ≢ 12)) found.1 apart)) [
      | inl calls ↦ inl (found.1 ∙ laws.one command left (code found.0) wanted calls called)
      | inr none ↦ inr (found.1 ∙ none)
    ]
