-- Programs that are the same job start alike, and what keeps a run from its start is that it can't start.
use Rattle.std.proofs.Common.{◌≡◌, sym, ap, ◌∙◌, subst, ℕ, ◌≤◌, false, List, Option, Some, None, if◌then◌else◌}
use Rattle.std.specs.Prelude.{Contains, slice_get}
use Rattle.flu_lemmas.proofs.Containing.{kept_at}
use Rattle.flu_outside.specs.Outside.{Contents as Files}
use Rattle.flu_outside.specs.Taking.{bytes_left}
use Rattle.flu_model.specs.declared.jobs.Source.{Source}
use Rattle.flu_model.specs.declared.jobs.Program.{Program}
use Rattle.flu_model.specs.Contents.{Contents}
use Rattle.flu_model.specs.Erasure.{IsSameJob}
use Rattle.flu_model.specs.Rules.{is_clock, file_of_source}
use Rattle.flu_save.specs.declared.fault.SaveFault.{SaveFault}
use Rattle.flu_save.specs.Checkpoint.{IsSavable, checkpoint}
use Rattle.flu_save.specs.Forms.{IsSave}
use Rattle.flu_save.specs.Laws.{LawOfFaults}
use Rattle.flu_streams.specs.Files.{files_of}
use Rattle.flu_words.specs.Words.{Command}
use Rattle.flu_command.specs.Behind.{emptied_each}
use Rattle.flu_command.specs.Openings.{Opening, OpensAt, Opens}
use Rattle.flu_command.specs.Starting.{IsNoSource, AreNoSources, StartsFrom, CanStart, IsFileOf, IsSameName, Saves, Resumes, HasBadCheckpoint}
use Rattle.flu_command.specs.Wants.{save_named, resume_named, rows_named, job_and_plan_named}

-- ---- two programs of one job
same_no_source : (named : Option (List ℕ)) (p q : Program) → IsSameJob p q → IsNoSource named p → IsNoSource named q
same_no_source named p q same apart name is has = apart name is (subst (λ (ss : List Source). Contains (files_of ss) name) (sym (ap (λ j. j.sources) same)) has)

same_apart : (command : Command) (p q : Program) → IsSameJob p q → AreNoSources command p → AreNoSources command q
same_apart command p q same apart = record {
  save = same_no_source (save_named command) p q same apart.save;
  resume = same_no_source (resume_named command) p q same apart.resume;
}

same_value : (p q : Program) (t : ℕ) (s : Contents) → IsSameJob p q → checkpoint p t s ≡ checkpoint q t s
same_value p q t s same = let families : p.families ≡ q.families = ap (λ j. j.families) same in cc

-- a checkpoint of one is one of the other, of the same border and state
same_save : (p q : Program) (t : ℕ) (s : Contents) (bytes : List ℕ) → IsSameJob p q → IsSave p t s bytes → IsSave q t s bytes
same_save p q t s bytes same save = record {
  short = save.short;
  value = save.value;
  json = save.json;
  checkpoint = record {
    border = save.checkpoint.border;
    state = subst (λ fs. IsSavable fs s) (ap (λ j. j.families) same) save.checkpoint.state;
    value = save.checkpoint.value ∙ same_value p q t s same;
  };
}

same_opens : (rows : ℕ) (resume : Option (List ℕ)) (texts : List (List ℕ)) (left : Files) (p q : Program) (o : Opening) → IsSameJob p q
    → Opens rows resume texts left p o → Opens rows resume texts left q o
same_opens rows None texts left p q o same opens = opens
same_opens rows (Some name) texts left p q o same opens = (
  record {
    time = opens.0.time;
    above = opens.0.above;
    save = same_save p q opens.0.time o.cells (bytes_left (emptied_each texts left) name) same opens.0.save;
    some = opens.0.some;
  },
  opens.1,
)

pub same_start : (command : Command) (left : Files) (p q : Program) → IsSameJob p q → CanStart command left p → CanStart command left q
same_start command left p q same start = (
  start.0,
  record {
    apart = same_apart command p q same start.1.apart;
    opens = same_opens (rows_named command) (resume_named command) (job_and_plan_named command) left p q start.0 same start.1.opens;
  },
)

-- ---- the rows of a round
opens_some : (rows : ℕ) (resume : Option (List ℕ)) (texts : List (List ℕ)) (left : Files) (p : Program) (o : Opening) → Opens rows resume texts left p o
    → 1 ≤ o.rows
opens_some rows None texts left p o opens = subst (λ (r : Opening). 1 ≤ r.rows) (sym opens.0) opens.1
opens_some rows (Some name) texts left p o opens = opens.0.some

-- a run starts with rounds of some row
pub starts_some : (command : Command) (left : Files) (p : Program) (o : Opening) → StartsFrom command left p o → 1 ≤ o.rows
starts_some command left p o starts =
    opens_some (rows_named command) (resume_named command) (job_and_plan_named command) left p o starts.opens

-- ---- what keeps a run from its start
-- the file of a source is among those of all
pub file_there : (ss : List Source) (number : ℕ) (source : Source) → slice_get ss number ≡ Some source → is_clock source ≡ false
    → Contains (files_of ss) source.file
file_there ss number source is has = kept_at file_of_source ss number source source.file is (ap (λ b. if b then None else Some source.file) has)

not_apart : (named : Option (List ℕ)) (p : Program) (number : ℕ) → IsFileOf named p number → ¬ IsNoSource named p
not_apart named p number is apart = apart is.0.file is.3 (file_there p.sources number is.0 is.1 is.2)

-- a command that names a source's file can't start
pub same_name_stops : (command : Command) (left : Files) (p : Program) (number : ℕ) → IsSameName command p number → ¬ CanStart command left p
same_name_stops command left p number (Saves is) start = not_apart (save_named command) p number is start.1.apart.save
same_name_stops command left p number (Resumes other is) start = not_apart (resume_named command) p number is start.1.apart.resume

-- bytes with a fault are no checkpoint, so that a command that is resumed from them can't start
pub bad_checkpoint_stops : LawOfFaults → (command : Command) (left : Files) (p : Program) (fault : SaveFault) → HasBadCheckpoint command left p fault
    → ¬ CanStart command left p
bad_checkpoint_stops none command left p fault bad start =
    let texts = job_and_plan_named command in
    let opens : OpensAt p (bytes_left (emptied_each texts left) bad.name) start.0 =
    (subst (λ (resume : Option (List ℕ)). Opens (rows_named command) resume texts left p start.0) bad.named start.1.opens).0 in
    none p (bytes_left (emptied_each texts left) bad.name) fault bad.first bad.is_fault opens.time start.0.cells opens.save
