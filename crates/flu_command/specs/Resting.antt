-- The rest of a run: what a checkpoint that a run has put opens, and over which sources.
use Rattle.std.specs.Prelude.{◌≡◌, ◌⊎◌, ◌≤◌, ℕ, List, [], ◌∷◌, ◌++◌, Some, Contains}
use Rattle.flu_outside.specs.Outside.{Contents}
use Rattle.flu_outside.specs.Taking.{bytes_left}
use Rattle.flu_model.specs.declared.jobs.Program.{Program}
use Rattle.flu_model.specs.Erasure.{job_of}
use Rattle.flu_grammar.specs.Jobs.{IsJobText}
use Rattle.flu_rounds.specs.Written.{AreSound}
use Rattle.flu_save.specs.declared.fault.SaveFault.{SaveFault}
use Rattle.flu_save.specs.declared.fault.SaveFault.TheVariants.{NoMemory}
use Rattle.flu_save.specs.Checkpoint.{save}
use Rattle.flu_save.specs.Forms.{IsFaultOf}
use Rattle.flu_streams.specs.Files.{files_of}
use Rattle.flu_command.specs.Behind.{emptied_each, lists_behind}
use Rattle.flu_command.specs.Openings.{Opening, OpensAt, fresh, report_from, state_from}
use Rattle.flu_command.specs.Reading.{HaveWritten, greatest_border, lines_behind}

-- ---- checkpoints of a run
-- an opening that a run of a job can have: from the first row on, or the opening of a checkpoint of the job
abbrev pub IsOpeningOf : Program → Opening → Type 0
IsOpeningOf p o = ((o ≡ fresh o.rows) × (1 ≤ o.rows)) ⊎ ((bytes : List ℕ) × OpensAt p bytes o)

-- A RUN HAD WRITTEN THIS WHEN IT PUT THIS CHECKPOINT, from an opening and over sources that are read after some texts: the rounds up to
-- some round wrote the text, and the checkpoint is the one of their border; or all rounds did, and it is the last one
pub data HasPut (p : Program) (o : Opening) (texts : List (List ℕ)) (left : Contents) (text checkpoint : List ℕ) : Type 0 where
  Behind : HaveWritten p o (lines_behind texts left p) text (Some checkpoint) → HasPut p o texts left text checkpoint
  AtTheEnd : text ≡ report_from o texts left p → checkpoint ≡ save p greatest_border (state_from o texts left p) → HasPut p o texts left text checkpoint

-- THE REST OF A RUN is this text: with what was written it is the report from the opening, and the state after both is the same
pub record IsRest (p : Program) (o rest : Opening) (texts : List (List ℕ)) (left : Contents) (text : List ℕ) : Type 0 where
  pub report : report_from o texts left p ≡ text ++ report_from rest texts left p
  pub state : state_from o texts left p ≡ state_from rest texts left p

-- LAW OF THE REST: if no source has a defect, a checkpoint that a run has put opens the rest of the run, in rounds of any number of rows
abbrev pub CheckpointsOpenTheRest : Type 0
CheckpointsOpenTheRest =
    (p : Program) (o rest : Opening) (texts : List (List ℕ)) (left : Contents) (text checkpoint : List ℕ)
    → AreSound p (lines_behind texts left p) → IsOpeningOf p o → HasPut p o texts left text checkpoint → OpensAt p checkpoint rest
    → IsRest p o rest texts left text

-- RUNS ONE AFTER ANOTHER, from an opening, each of which is resumed from a checkpoint that the one before it put, with its own number of
-- rows in a round: what they wrote together by then, and the opening of the next one
pub data GoOn (p : Program) (texts : List (List ℕ)) (left : Contents) : Opening → List ℕ → Opening → Type 0 where
  Begun : (o : Opening) → GoOn p texts left o [] o
  Resumed : (o next last : Opening) (text more checkpoint : List ℕ) → HasPut p o texts left text checkpoint → OpensAt p checkpoint next
      → GoOn p texts left next more last → GoOn p texts left o (text ++ more) last

-- LAW OF RESUMED RUNS: the next one writes the rest of the first one's report
abbrev pub RunsGoOn : Type 0
RunsGoOn =
    (p : Program) (o last : Opening) (texts : List (List ℕ)) (left : Contents) (text : List ℕ)
    → AreSound p (lines_behind texts left p) → IsOpeningOf p o → GoOn p texts left o text last → IsRest p o last texts left text

-- LAW OF CHECKPOINTS: a checkpoint that a run of a text's job has put opens a run of that job, and no fault of the checkpoint refuses one
abbrev pub CheckpointsOpen : Type 0
CheckpointsOpen =
    (p : Program) (job : List ℕ) (o : Opening) (texts : List (List ℕ)) (left : Contents) (text checkpoint : List ℕ)
    → IsJobText job (job_of p) → AreSound p (lines_behind texts left p) → IsOpeningOf p o → HasPut p o texts left text checkpoint
    → ((rest : Opening) × OpensAt p checkpoint rest) × ((fault : SaveFault) → IsFaultOf p checkpoint fault → fault ≡ NoMemory)

-- ---- sources
-- the files of the job's sources have the same left, read after other texts or from other contents
abbrev pub AreSameSources : Program → List (List ℕ) → Contents → List (List ℕ) → Contents → Type 0
AreSameSources p texts left texts' left' =
    (name : List ℕ) → Contains (files_of p.sources) name → bytes_left (emptied_each texts' left') name ≡ bytes_left (emptied_each texts left) name

-- then they have the same lines, and the same items
abbrev pub SourcesDecide : Type 0
SourcesDecide =
    (p : Program) (texts texts' : List (List ℕ)) (left left' : Contents) → AreSameSources p texts left texts' left'
    → (lines_behind texts' left' p ≡ lines_behind texts left p) × (lists_behind texts' left' p ≡ lists_behind texts left p)

-- this holds if one more text is read before them, such as a checkpoint that is no source's file
abbrev pub CheckpointsLeaveSources : Type 0
CheckpointsLeaveSources =
    (p : Program) (texts : List (List ℕ)) (left : Contents) (name : List ℕ) → ¬ Contains (files_of p.sources) name
    → AreSameSources p texts left (texts ++ name ∷ []) left
