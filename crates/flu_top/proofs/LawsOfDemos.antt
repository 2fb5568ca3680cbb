-- The laws of demos: no file is read, and so no file refuses them.
use Rattle.std.proofs.Common.{◌≡◌, ◌≢◌, refl, sym, ◌∙◌, subst, ℕ, List, [], ◌∷◌, Option, Some, None, ◌⊎◌, inl, inr, arith}
use Rattle.std.specs.Prelude.{Contains}
use Rattle.flu_lemmas.proofs.Containing.{contains_none}
use Rattle.std.proofs.lemmas.Bool.{false≢true}
use Rattle.flu_outside.specs.Outside.{Contents, WhereTold}
use Rattle.flu_outside.specs.Writing.{AppendsAll}
use Rattle.flu_model.specs.Erasure.{Job}
use Rattle.flu_words.specs.Words.{Command, Demo}
use Rattle.flu_lines.specs.declared.refusals.PlanDefect.{PlanDefect}
use Rattle.flu_lines.specs.declared.refusals.PlanDefect.TheVariants as defects
use Rattle.flu_lines.specs.declared.refusals.SaveDefect.{SaveDefect}
use Rattle.flu_lines.specs.declared.refusals.SaveDefect.TheVariants as saves
use Rattle.flu_command.specs.Behind.{Named, Fixed}
use Rattle.flu_command.specs.Causes.{HasPlanDefect, HasSaveDefect}
use Rattle.flu_command.specs.Demos.{demo_job}
use Rattle.flu_command.specs.Done.{IsReadName}
use Rattle.flu_top.specs.Laws.{DemoReadsNothing, DemoStatuses, DemoIsDone}
use Rattle.flu_lines.specs.declared.statuses.Status.{Status}
use Rattle.flu_lines.specs.declared.statuses.Status.TheVariants as statuses
use Rattle.flu_lines.specs.Statuses.{code}
use Rattle.flu_top.specs.Outcome.{Outside, Ended}
use Rattle.flu_command.specs.Wants.{save_named, resume_named}
use Rattle.flu_top.proofs.OneCommand.{same_command, not_named}
use Rattle.flu_top.proofs.Statuses.{ended_with, ended_at}

fixed_has_no_name : (job : Job) (name : List ℕ) → Fixed job ≡ Named name → ⊥
fixed_has_no_name job name e = cc

no_defect : (n seed : ℕ) (old new : Option Contents) (defect : PlanDefect) → HasPlanDefect (Demo n seed) old new defect → ⊥
no_defect n seed old new (defects.Text fault text) why = not_named None why.plan refl why.asked
no_defect n seed old new (defects.Invalid checked fault) why = not_named None why.plan refl why.asked

no_start : (n seed : ℕ) (name : List ℕ) → (save_named (Demo n seed) ≡ Some name) ⊎ (resume_named (Demo n seed) ≡ Some name) → ⊥
no_start n seed name (inl saved) = not_named None name refl saved
no_start n seed name (inr resumed) = not_named None name refl resumed

no_save_defect : (n seed : ℕ) (old new : Option Contents) (defect : SaveDefect) → HasSaveDefect (Demo n seed) old new defect → ⊥
no_save_defect n seed old new (saves.SameName checked number) why = no_start n seed why.name why.named
no_save_defect n seed old new (saves.Checkpoint fault) why = no_start n seed why.1.name why.1.named

not_read : (n seed : ℕ) (left : Option Contents) (name : List ℕ) → IsReadName left (Demo n seed) name → ⊥
not_read n seed left name (inl named) = fixed_has_no_name demo_job name named
not_read n seed left name (inr (inl plan)) = not_named None name refl plan.named
not_read n seed left name (inr (inr (inl checkpoint))) = not_named None name refl checkpoint.named
not_read n seed left name (inr (inr (inr (inl source)))) = contains_none name source.named
not_read n seed left name (inr (inr (inr (inr trace)))) = not_named None name refl trace.named

pub reads_law : DemoReadsNothing
reads_law words n seed word left name read =
    not_read n seed left name (subst (λ (d : Command). IsReadName left d name) (same_command words read.0 (Demo n seed) read.1 word) read.2)

by_ended : (n seed : ℕ) (old new : Outside) (status : Status) → Ended (Demo n seed) old new status → code status ≢ 7 → Contains (0 ∷ 8 ∷ 9 ∷ []) (code status)
by_ended n seed old new statuses.Done ended apart = (0, omega arith, refl)
by_ended n seed old new statuses.BadWords ended apart = absurd ended
by_ended n seed old new statuses.JobFault ended apart = absurd (fixed_has_no_name demo_job ended.1.name ended.1.named)
by_ended n seed old new statuses.Conflict ended apart = absurd (fixed_has_no_name demo_job ended.1.name ended.1.named)
by_ended n seed old new statuses.PlanDefect ended apart = absurd (no_defect n seed old.left new.left ended.0 ended.1)
by_ended n seed old new statuses.SourceFault ended apart = absurd (false≢true ended.3.asked)
by_ended n seed old new statuses.ReadFault ended apart = absurd (apart refl)
by_ended n seed old new statuses.WriteFault ended apart = (1, omega arith, refl)
by_ended n seed old new statuses.NoMemory ended apart = (2, omega arith, refl)
by_ended n seed old new statuses.SaveDefect ended apart = absurd (no_save_defect n seed old.left new.left ended.0 ended.1)
by_ended n seed old new statuses.PutFault ended apart = absurd (ended.0.saves refl)
by_ended n seed old new statuses.TraceFault ended apart = absurd (not_named None ended.1.trace refl ended.1.named)
by_ended n seed old new statuses.PartialDefect ended apart = absurd ended

pub statuses_law : DemoStatuses
statuses_law words old new status before now outcome faults n seed word =
    let found = ended_with words old new status outcome (Demo n seed) word in
    let unread = λ (seven : code found.0 ≡ 7). let rose = faults.read (found.1 ∙ seven) in reads_law words n seed word old.left rose.0 rose.1 in
    subst (Contains (0 ∷ 8 ∷ 9 ∷ [])) (sym found.1) (by_ended n seed old new found.0 found.2 unread)

pub done_law : DemoIsDone
done_law words old new status outcome is n seed word =
    let found = ended_at words old new status outcome statuses.Done is (Demo n seed) word in
    let done = found.1 (λ name. None) in
    (done.0, done.2.good.has, subst (λ (text : List ℕ). WhereTold old.out new.out (AppendsAll text)) done.3 done.5)
