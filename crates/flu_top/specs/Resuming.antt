-- Runs that are resumed: what a checkpoint that a run has put opens, and what runs write together, each of which continues from the
-- checkpoint of the one before it.
use Rattle.std.specs.Prelude.{◌≡◌, ◌⊎◌, ◌≤◌, ℕ, List, [], ◌∷◌, ◌++◌, Option, Some, Ok}
use Rattle.flu_outside.specs.Outside.{Contents, WhereTold}
use Rattle.flu_outside.specs.Taking.{bytes_left}
use Rattle.flu_outside.specs.Writing.{AppendsAll}
use Rattle.flu_model.specs.declared.jobs.Program.{Program}
use Rattle.flu_rounds.specs.Written.{AreSound}
use Rattle.flu_save.specs.Checkpoint.{save}
use Rattle.flu_words.specs.Words.{Command, Run, RunOptions, command_in}
use Rattle.flu_command.specs.Behind.{Named, HasJob, emptied_each}
use Rattle.flu_command.specs.Openings.{Opening, OpensAt, report_from}
use Rattle.flu_command.specs.Resting.{HasPut, AreSameSources}
use Rattle.flu_top.specs.Outcome.{Outside, Outcome}
use Rattle.flu_command.specs.Reading.{lines_behind}
use Rattle.flu_command.specs.Starting.{IsAsBefore, IsSameName, StartsFrom}
use Rattle.flu_command.specs.Wants.{if_named, job_wanted, texts_named}

-- ---- what calls leave
-- a status at which rounds may have been run, and what they put is left
abbrev pub MayHaveSaved : ℕ → Type 0
MayHaveSaved status = (status ≡ 0) ⊎ ((6 ≤ status) × (status ≤ 9))

-- a text was appended to what was there, and maybe more after it
abbrev pub BeginsWith : List ℕ → List ℕ → List ℕ → Type 0
BeginsWith text before now = (more : List ℕ) × (now ≡ before ++ text ++ more)

-- A CALL LEFT A CHECKPOINT under a name: one that it put when it had written this text, which is in out, maybe with a part of the next
-- round's report after it
pub record HasLeft (command : Command) (file : List ℕ) (had has : Option (List ℕ)) (old new : Contents) : Type 0 where
  pub p : Program
  pub job : HasJob (job_wanted command) old p
  pub opening : Opening
  pub starts : StartsFrom command old p opening
  pub text : List ℕ
  pub checkpoint : List ℕ
  pub put : HasPut p opening (texts_named command) old text checkpoint
  pub stands : new file ≡ Some checkpoint
  pub wrote : WhereTold had has (BeginsWith text)

-- a run that saves leaves the name that it saves to as it was, or such a checkpoint
abbrev pub RunsLeaveCheckpoints : Type 0
RunsLeaveCheckpoints =
    (words : List (List ℕ)) (old new : Outside) (status : ℕ) → Outcome words old new status → MayHaveSaved status
    → (job : List ℕ) (plan : Option (List ℕ)) (options : RunOptions) (file : List ℕ) → command_in words ≡ Ok (Run job plan options)
    → options.save ≡ Some file
    → WhereTold old.left new.left (λ left now. IsAsBefore (texts_named (Run job plan options)) file left now
    ⊎ HasLeft (Run job plan options) file old.out new.out left now)

-- and one that is resumed, and ends with status 0, writes what its checkpoint opens: so the rest comes after what was written when that
-- checkpoint was put
abbrev pub ResumedRunsWriteTheRest : Type 0
ResumedRunsWriteTheRest =
    (words : List (List ℕ)) (old new : Outside) → Outcome words old new 0
    → (job : List ℕ) (plan : Option (List ℕ)) (options : RunOptions) (file : List ℕ) → command_in words ≡ Ok (Run job plan options)
    → options.resume ≡ Some file
    → WhereTold old.left new.left (λ left _. (p : Program) × HasJob (Named job) left p
    × ((rest : Opening) × OpensAt p (bytes_left (emptied_each (job ∷ if_named plan) left) file) rest
    × WhereTold old.out new.out (AppendsAll (report_from rest (texts_named (Run job plan options)) left p))))

-- TWO RUNS WROTE THE WHOLE: what the first one had written when it put the checkpoint that it left, and what the second one wrote, are
-- together the report of the first one, from its opening
pub record WroteTheWhole (command : Command) (left : Contents) (had has had' has' : Option (List ℕ)) : Type 0 where
  pub p : Program
  pub job : HasJob (job_wanted command) left p
  pub opening : Opening
  pub starts : StartsFrom command left p opening
  pub text : List ℕ
  pub rest : List ℕ
  pub whole : report_from opening (texts_named command) left p ≡ text ++ rest
  pub first : WhereTold had has (BeginsWith text)
  pub second : WhereTold had' has' (AppendsAll rest)

-- the second run has the job of the first one
abbrev pub AreOfOneJob : List ℕ → Contents → List ℕ → Contents → Type 0
AreOfOneJob job left job' left' = (p : Program) → HasJob (Named job) left p → HasJob (Named job') left' p

-- TWO RUNS IN TURN: the first one saves, and its sources have no defect; the later one has its job, and is resumed from what is left under the
-- name that the first one saves to
pub record AreInTurn (words words' : List (List ℕ)) (old new old' : Outside) : Type 0 where
  pub job : List ℕ
  pub plan : Option (List ℕ)
  pub options : RunOptions
  pub file : List ℕ
  pub first : command_in words ≡ Ok (Run job plan options)
  pub saves : options.save ≡ Some file
  pub later_job : List ℕ
  pub later_plan : Option (List ℕ)
  pub later_options : RunOptions
  pub later_file : List ℕ
  pub later : command_in words' ≡ Ok (Run later_job later_plan later_options)
  pub resumes : later_options.resume ≡ Some later_file
  pub left : Contents
  pub now : Contents
  pub later_left : Contents
  pub told_left : old.left ≡ Some left
  pub told_now : new.left ≡ Some now
  pub told_later : old'.left ≡ Some later_left
  pub same_bytes : bytes_left (emptied_each (later_job ∷ if_named later_plan) later_left) later_file ≡ bytes_left now file
  pub one_job : AreOfOneJob job left later_job later_left
  pub sound : (p : Program) → HasJob (Named job) left p → AreSound p (lines_behind (texts_named (Run job plan options)) left p)

-- LAW OF TWO RUNS: a run that saves left the name that it saves to as it was; or a run of the same job over the same sources that is resumed
-- from what it left there, and ends with status 0, writes the rest of its report
abbrev pub ResumedRunsCompleteReports : Type 0
ResumedRunsCompleteReports =
    (words words' : List (List ℕ)) (old new old' new' : Outside) (status : ℕ) → Outcome words old new status → MayHaveSaved status
    → Outcome words' old' new' 0 → (runs : AreInTurn words words' old new old')
    → ((p : Program) → HasJob (Named runs.job) runs.left p
    → AreSameSources p (texts_named (Run runs.job runs.plan runs.options)) runs.left
    (texts_named (Run runs.later_job runs.later_plan runs.later_options)) runs.later_left)
    → IsAsBefore (texts_named (Run runs.job runs.plan runs.options)) runs.file runs.left runs.now
    ⊎ WroteTheWhole (Run runs.job runs.plan runs.options) runs.left old.out new.out old'.out new'.out

-- a name that the command saves to or is resumed from is the name of a source's file
abbrev pub IsRefusedForName : Command → Contents → Type 0
IsRefusedForName command left = (p : Program) × HasJob (job_wanted command) left p × ((number : ℕ) × IsSameName command p number)

-- LAW OF TAKEN CHECKPOINTS: a run that saves left the name that it saves to as it was; or a run of the same job that is resumed from what it
-- left there, and ends with status 11, is refused for a name, and not for the checkpoint
abbrev pub ResumedRunsTakeCheckpoints : Type 0
ResumedRunsTakeCheckpoints =
    (words words' : List (List ℕ)) (old new old' new' : Outside) (status : ℕ) → Outcome words old new status → MayHaveSaved status
    → Outcome words' old' new' 11 → (runs : AreInTurn words words' old new old')
    → IsAsBefore (texts_named (Run runs.job runs.plan runs.options)) runs.file runs.left runs.now
    ⊎ IsRefusedForName (Run runs.later_job runs.later_plan runs.later_options) runs.later_left
