-- A run that is resumed from what another one left is refused for no fault of the checkpoint.
use Rattle.std.proofs.Common.{◌≡◌, ◌⊎◌, refl, sym, ap, ◌∙◌, subst, ℕ, List, [], ◌∷◌, Option, Some, Ok, inl, inr}
use Rattle.std.specs.Prelude.{unwrap_or}
use Rattle.flu_lemmas.proofs.Told.{of_told, told_weaker}
use Rattle.flu_outside.specs.Outside.{WhereTold, Contents}
use Rattle.flu_outside.specs.Taking.{bytes_left}
use Rattle.flu_model.specs.declared.jobs.Program.{Program}
use Rattle.flu_model.specs.Erasure.{IsSameJob}
use Rattle.flu_save.specs.declared.fault.SaveFault.{SaveFault}
use Rattle.flu_save.specs.Forms.{IsFaultOf}
use Rattle.flu_save.specs.Laws.{LawOfFaults, LawOfOneMeaning, SavesAreOfJobs}
use Rattle.flu_words.specs.Words.{Command, Run, command_in}
use Rattle.flu_lines.specs.declared.refusals.SaveDefect.{SaveDefect}
use Rattle.flu_lines.specs.declared.refusals.SaveDefect.TheVariants as saves
use Rattle.flu_command.specs.Behind.{Named, HasJob, emptied_each}
use Rattle.flu_command.specs.Causes.{HasSaveDefect}
use Rattle.flu_command.specs.Done.{HasPlanAsked}
use Rattle.flu_deps.specs.Checking.{program_of}
use Rattle.flu_top.specs.Outcome.{Outside, Outcome}
use Rattle.flu_top.specs.Resuming.{HasLeft, AreInTurn, IsRefusedForName, ResumedRunsTakeCheckpoints}
use Rattle.flu_command.specs.Starting.{IsAsBefore, IsSameName, HasBadCheckpoint}
use Rattle.flu_command.specs.Wants.{if_named, job_wanted, texts_named}
use Rattle.flu_command.specs.OneText.{TextsHaveOneJob}
use Rattle.flu_command.specs.Resting.{CheckpointsOpen}
use Rattle.flu_lines.specs.declared.statuses.Status.TheVariants as statuses
use Rattle.flu_top.proofs.Statuses.{ended_at}
use Rattle.flu_top.proofs.TwoRuns.{is_opening, opens_same, first_left}

-- ---- what refuses with status 11

-- the checkpoint has a fault
abbrev IsRefusedForFault : Command → Contents → Type 0
IsRefusedForFault command left = (p : Program) × HasJob (job_wanted command) left p × ((fault : SaveFault) × HasBadCheckpoint command left p fault)

abbrev IsRefused : Command → Contents → Contents → Type 0
IsRefused command left now = IsRefusedForName command left ⊎ IsRefusedForFault command left

by_defect : (command : Command) (a b : Option Contents) (defect : SaveDefect) → HasSaveDefect command a b defect → WhereTold a b (IsRefused command)
by_defect command a b (saves.SameName checked number) is =
    told_weaker (λ left now. HasJob (job_wanted command) left (program_of checked) × HasPlanAsked command left (program_of checked)
    × IsSameName command (program_of checked) number) (IsRefused command) a b (λ x y h. inl (program_of checked, h.0, (number, h.2))) is.first
by_defect command a b (saves.Checkpoint fault) is =
    told_weaker (λ left now. HasJob (job_wanted command) left is.0 × HasPlanAsked command left is.0 × HasBadCheckpoint command left is.0 fault)
    (IsRefused command) a b (λ x y h. inr (is.0, h.0, (fault, h.2))) is.1.first

refused_at : (words : List (List ℕ)) (command : Command) (old new : Outside) (status : ℕ) → Outcome words old new status → status ≡ 11
    → command_in words ≡ Ok command → WhereTold old.left new.left (IsRefused command)
refused_at words command old new status outcome is word =
    let found = ended_at words old new status outcome statuses.SaveDefect is command word in by_defect command old.left new.left found.0 found.1

-- ---- no fault does
module _ (checkpoints : CheckpointsOpen) (one_job : TextsHaveOneJob) (meaning : LawOfOneMeaning)
    (of_jobs : SavesAreOfJobs) (faults : LawOfFaults) where
  no_fault : (words words' : List (List ℕ)) (old new old' : Outside) (runs : AreInTurn words words' old new old')
      → HasLeft (Run runs.job runs.plan runs.options) runs.file old.out new.out runs.left runs.now
      → IsRefusedForFault (Run runs.later_job runs.later_plan runs.later_options) runs.later_left → ⊥
  no_fault words words' old new old' runs stays refused =
      let p = stays.p in
      let q = refused.0 in
      let fault = refused.2.0 in
      let bad = refused.2.1 in
      let same : IsSameJob p q = one_job (Named runs.later_job) runs.later_left p q (runs.one_job p stays.job) refused.1 in
      let opens = (checkpoints p (bytes_left runs.left runs.job) stays.opening (texts_named (Run runs.job runs.plan runs.options))
      runs.left stays.text stays.checkpoint stays.job (runs.sound p stays.job)
      (is_opening runs.options.rows runs.options.resume (runs.job ∷ if_named runs.plan) runs.left p stays.opening stays.starts.opens) stays.put).0 in
      let opens_later = opens_same of_jobs p q same stays.checkpoint opens.0 opens.1 in
      let there : bytes_left (emptied_each (runs.later_job ∷ if_named runs.later_plan) runs.later_left) runs.later_file ≡ stays.checkpoint =
      runs.same_bytes ∙ ap (λ (found : Option (List ℕ)). unwrap_or found []) stays.stands in
      let named : bad.name ≡ runs.later_file = one_name bad.name runs.later_file (sym bad.named ∙ runs.resumes) in
      let first : IsFaultOf q (bytes_left (emptied_each (runs.later_job ∷ if_named runs.later_plan) runs.later_left) runs.later_file) fault =
      subst (λ (name : List ℕ). IsFaultOf q (bytes_left (emptied_each (runs.later_job ∷ if_named runs.later_plan) runs.later_left) name) fault) named
      bad.first in
      faults q stays.checkpoint fault (subst (λ (bytes : List ℕ). IsFaultOf q bytes fault) there first) bad.is_fault opens_later.time opens.0.cells
      opens_later.save
    where
      one_name : (a b : List ℕ) → Some a ≡ Some b → a ≡ b
      one_name a b e = cc

  pub take_checkpoints : ResumedRunsTakeCheckpoints
  take_checkpoints words words' old new old' new' status outcome may outcome' runs =
      let later : Command = Run runs.later_job runs.later_plan runs.later_options in
      let refused = of_told (IsRefused later) runs.later_left old'.left new'.left runs.told_later
      (refused_at words' later old' new' 11 outcome' refl runs.later) in
      by (first_left meaning words words' old new old' status outcome may runs) refused.1
    where
      by : IsAsBefore (texts_named (Run runs.job runs.plan runs.options)) runs.file runs.left runs.now
          ⊎ HasLeft (Run runs.job runs.plan runs.options) runs.file old.out new.out runs.left runs.now
          → IsRefusedForName (Run runs.later_job runs.later_plan runs.later_options) runs.later_left
          ⊎ IsRefusedForFault (Run runs.later_job runs.later_plan runs.later_options) runs.later_left
          → IsAsBefore (texts_named (Run runs.job runs.plan runs.options)) runs.file runs.left runs.now
          ⊎ IsRefusedForName (Run runs.later_job runs.later_plan runs.later_options) runs.later_left
      by (inl before) refused = inl before
      by (inr stays) (inl name) = inr name
      by (inr stays) (inr fault) = absurd (no_fault words words' old new old' runs stays fault)
